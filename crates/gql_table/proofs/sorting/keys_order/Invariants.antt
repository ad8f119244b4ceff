use Rattle.std.proofs.Common.{◌≡◌, drop, map}
use Rattle.gql_values3.specs.Meaning.{datum_of}
use Rattle.gql_values3.specs.Datum.{null}
use Rattle.gql_table.specs.Sorting.{keys_cmp}
use Rattle.gql_table.proofs.sorting.keys_order.Given as goal

abbrev pub invariant-loop-i : goal.invariant-loop-i
invariant-loop-i l = record {
  whole : keys_cmp (drop l.i l.items) (drop l.i (map datum_of l.a)) (drop l.i (map datum_of l.b)) ≡ keys_cmp l.items l.fn.a l.fn.b;
  none : datum_of l.none ≡ null;
}
