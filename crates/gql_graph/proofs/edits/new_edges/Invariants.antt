use Rattle.std.proofs.Common.{◌≡◌, ◌+◌, ◌≤◌, drop}
use Rattle.std.specs.Prelude.{count_by}
use Rattle.gql_graph.specs.Machinery.AfterChange.{adds_edge}
use Rattle.gql_graph.proofs.edits.new_edges.Given as goal

abbrev pub invariant-loop-change : goal.invariant-loop-change
invariant-loop-change l = (l.count ≤ l.change-index) × (l.count + count_by adds_edge (drop l.change-index l.changes) ≡ count_by adds_edge l.changes)
