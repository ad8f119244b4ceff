use Rattle.std.proofs.Common.{◌≡◌, ◌++◌, [], map, drop, List}
use Rattle.std.specs.Borrow.{Bor}
use Rattle.gql_values3.specs.Datum.{Datum}
use Rattle.gql_table.specs.Machinery.Ranked.{HasPlaces}
use Rattle.gql_table.specs.Machinery.Places.{places}
use Rattle.gql_table.proofs.numbering.group_numbers.Given as goal

abbrev pub invariant-loop-i : goal.invariant-loop-i
invariant-loop-i l = record {
  so_far : l.numbers.items ++ places (map (λ (r : Bor (List Datum)). r.now) l.firsts.items) (drop l.i l.rows) ≡ places [] l.rows;
  same : HasPlaces l.seen (map (λ (r : Bor (List Datum)). r.now) l.firsts.items);
}
