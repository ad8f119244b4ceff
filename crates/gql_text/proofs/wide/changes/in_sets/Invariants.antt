use Rattle.std.proofs.Common.{◌≡◌}
use Rattle.gql_ast.specs.NumberLiterals.{numbers_in_set}
use Rattle.gql_text.proofs.FindLemmas.{found}
use Rattle.gql_text.proofs.wide.changes.in_sets.Given as goal

abbrev pub invariant-loop-item : goal.invariant-loop-item
invariant-loop-item l = found numbers_in_set l.items l.item-index ≡ found numbers_in_set l.items 0
