use Rattle.std.proofs.Common.{◌≡◌, ◌≤◌, drop}
use Rattle.gql_exprs.specs.Depth.{too_deep}
use Rattle.gql_exprs.proofs.DepthLemmas.{too_deep_from}
use Rattle.gql_exprs.proofs.depth.too_deep.Given as goal

abbrev pub invariant-loop-lexeme : goal.invariant-loop-lexeme
invariant-loop-lexeme l = record {
  within : l.count ≤ 64;
  so_far : too_deep_from l.count (drop l.lexeme-index l.lexemes) ≡ too_deep l.lexemes;
}
