use Rattle.std.proofs.Common.{◌≡◌, ◌++◌, map, take, drop, length}
use Rattle.gql_values3.specs.Datum.{null}
use Rattle.gql_values3.specs.Meaning.{datum_of}
use Rattle.gql_table.specs.Machinery.Running.{row_past}
use Rattle.gql_table.specs.Machinery.StandingMeaning.{standing_of}
use Rattle.gql_table.proofs.running.go_on_by_row.Given as goal

abbrev pub invariant-loop-i : goal.invariant-loop-i
invariant-loop-i l = record {
  whole : take l.i (map standing_of l.states.items) ++ row_past (drop l.i (map standing_of l.states.items)) (drop l.i (map datum_of l.row))
      ≡ row_past (map standing_of l.fn.states.items) (map datum_of l.row);
  long : length l.states.items ≡ length l.fn.states.items;
  none : datum_of l.none ≡ null;
}
