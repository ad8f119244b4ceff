use Rattle.std.proofs.Common.{◌≡◌, ◌+◌, drop, length}
use Rattle.std.specs.Vec.Iter.{into_iter_items, into_iter_len}
use Rattle.gql_table.specs.Distinct.{distinct_rows}
use Rattle.gql_table.specs.Machinery.Places.{places}
use Rattle.gql_table.proofs.PlaceLemmas.{gathered}
use Rattle.gql_table.proofs.distinct.first_of_each.Given as goal

abbrev pub invariant-loop-row : goal.invariant-loop-row
invariant-loop-row l = record {
  whole : gathered l.left (into_iter_items l.row-iterator) ≡ distinct_rows l.fn.rows;
  numbers : drop l.at l.numbers ≡ places l.left (into_iter_items l.row-iterator);
  within : l.at + length (into_iter_items l.row-iterator) ≡ length l.numbers;
  counted : into_iter_len l.row-iterator ≡ length (into_iter_items l.row-iterator);
}
