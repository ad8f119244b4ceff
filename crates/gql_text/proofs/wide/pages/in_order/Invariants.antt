use Rattle.std.proofs.Common.{◌≡◌}
use Rattle.gql_ast.specs.NumberLiterals.{numbers_in_key}
use Rattle.gql_text.proofs.FindLemmas.{found}
use Rattle.gql_text.proofs.wide.pages.in_order.Given as goal

abbrev pub invariant-loop-item : goal.invariant-loop-item
invariant-loop-item l = found numbers_in_key l.items l.item-index ≡ found numbers_in_key l.items 0
