use Rattle.std.proofs.Common.{◌≡◌, drop}
use Rattle.gql_change.specs.Machinery.DeletionSteps.{other_edges}
use Rattle.gql_change.proofs.leftover.other_edges.Given as goal

abbrev pub invariant-loop-i : goal.invariant-loop-i
invariant-loop-i g l =
    let graph = g.V.View.graph l.view in
    other_edges l.edges graph (drop l.i l.nodes) ≡ other_edges l.edges graph l.nodes
