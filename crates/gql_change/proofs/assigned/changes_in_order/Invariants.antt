use Rattle.std.proofs.Common.{◌≡◌, length}
use Rattle.std.specs.Vec.Iter.{into_iter_items, into_iter_len}
use Rattle.gql_change.specs.Machinery.Building.{built, built_from}
use Rattle.gql_change.specs.Machinery.BuildingState.{built_so_far}
use Rattle.gql_change.proofs.assigned.changes_in_order.Given as goal

abbrev pub invariant-loop-assignment : goal.invariant-loop-assignment
invariant-loop-assignment g l = record {
  whole : built (g.V.View.graph l.view) (built_so_far l.building) (into_iter_items l.assignment-iterator) ≡ built (g.V.View.graph l.view) (built_from l.fn.first) l.fn.sorted.items;
  counted : into_iter_len l.assignment-iterator ≡ length (into_iter_items l.assignment-iterator);
}
