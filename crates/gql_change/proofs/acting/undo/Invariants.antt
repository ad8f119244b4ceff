use Rattle.std.proofs.Common.{IsTrue, reverse, vec_len}
use Rattle.gql_values3.specs.PropertyGraph.{PropertyGraph}
use Rattle.gql_graph.specs.Edits.{changed_by_each}
use Rattle.gql_change.proofs.ApplyLemmas.{Ahead}
use Rattle.gql_change.proofs.acting.undo.Given as goal

abbrev pub invariant-loop-inverse : goal.invariant-loop-inverse
invariant-loop-inverse g l = record {
  ahead : Ahead (g.G.Edit.has_room l.graph) (g.G.View.graph l.graph) (reverse l.inverses.items) (changed_by_each l.fn.undo (g.G.View.graph l.initial.graph));
  kept : (h : PropertyGraph) → IsTrue (g.G.Edit.has_room l.initial.graph h) → IsTrue (g.G.Edit.has_room l.graph h);
}

abbrev pub decreases-loop-inverse : goal.decreases-loop-inverse
decreases-loop-inverse g l = vec_len l.inverses
