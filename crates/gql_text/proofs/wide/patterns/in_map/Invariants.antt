use Rattle.std.proofs.Common.{◌≡◌}
use Rattle.gql_ast.specs.NumberLiterals.{numbers_in_entry}
use Rattle.gql_text.proofs.FindLemmas.{found}
use Rattle.gql_text.proofs.wide.patterns.in_map.Given as goal

abbrev pub invariant-loop-item : goal.invariant-loop-item
invariant-loop-item l = found numbers_in_entry l.items l.item-index ≡ found numbers_in_entry l.items 0
