use Rattle.std.proofs.Common.{◌≡◌, IsTrue, ◌+◌, ◌≤◌, length, reverse, vec_len, vec_capacity}
use Rattle.std.specs.Vec.Iter.{into_iter_items, into_iter_len}
use Rattle.gql_values3.specs.PropertyGraph.{PropertyGraph}
use Rattle.gql_graph.specs.Edits.{changed_by_each}
use Rattle.gql_change.proofs.ApplyLemmas.{Ahead}
use Rattle.gql_change.proofs.acting.apply.Given as goal

abbrev pub invariant-loop-change : goal.invariant-loop-change
invariant-loop-change g l = record {
  ahead : Ahead (g.G.Edit.has_room l.graph) (g.G.View.graph l.graph) (into_iter_items l.change-iterator) (changed_by_each l.fn.list (g.G.View.graph l.initial.graph));
  back : Ahead (g.G.Edit.has_room l.graph) (g.G.View.graph l.graph) (reverse l.inverses.items) (g.G.View.graph l.initial.graph);
  kept : (h : PropertyGraph) → IsTrue (g.G.Edit.has_room l.initial.graph h) → IsTrue (g.G.Edit.has_room l.graph h);
  counted : into_iter_len l.change-iterator ≡ length (into_iter_items l.change-iterator);
  places : vec_len l.inverses + length (into_iter_items l.change-iterator) ≤ vec_capacity l.inverses;
}
