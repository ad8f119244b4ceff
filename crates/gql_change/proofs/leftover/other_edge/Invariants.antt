use Rattle.std.proofs.Common.{◌≡◌, not, drop}
use Rattle.std.specs.Prelude.{find}
use Rattle.gql_values3.specs.Lookup.{touching_edges}
use Rattle.gql_values3.specs.declared.element.EdgeId.{EdgeId}
use Rattle.gql_change.specs.Machinery.DeletionSteps.{has_number, other_edge}
use Rattle.gql_change.proofs.leftover.other_edge.Given as goal

abbrev pub invariant-loop-i : goal.invariant-loop-i
invariant-loop-i g l =
    let graph = g.V.View.graph l.view in
    find (λ (e : EdgeId). not (has_number l.edges e.0)) (drop l.i (touching_edges graph (record { 0 = l.node }))) ≡ other_edge l.edges graph l.node
