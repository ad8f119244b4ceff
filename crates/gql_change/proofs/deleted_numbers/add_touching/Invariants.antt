use Rattle.std.proofs.Common.{◌≡◌, ◌++◌, map, drop}
use Rattle.gql_values3.specs.Lookup.{touching_edges}
use Rattle.gql_values3.specs.declared.element.EdgeId.{EdgeId}
use Rattle.gql_change.specs.Machinery.DeletionSteps.{touching_numbers}
use Rattle.gql_change.proofs.deleted_numbers.add_touching.Given as goal

abbrev pub invariant-loop-i : goal.invariant-loop-i
invariant-loop-i g l =
    let graph = g.V.View.graph l.view in
    l.edges.items ++ map (λ (e : EdgeId). e.0) (drop l.i (touching_edges graph (record { 0 = l.node }))) ≡ l.initial.edges.items ++ touching_numbers graph l.node
