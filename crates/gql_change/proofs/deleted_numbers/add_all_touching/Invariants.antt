use Rattle.std.proofs.Common.{◌≡◌, ◌++◌, take}
use Rattle.std.specs.List.{flat_map}
use Rattle.gql_change.specs.Machinery.DeletionSteps.{touching_numbers}
use Rattle.gql_change.proofs.deleted_numbers.add_all_touching.Given as goal

abbrev pub invariant-loop-node : goal.invariant-loop-node
invariant-loop-node g l = l.edges.items ≡ l.initial.edges.items ++ flat_map (touching_numbers (g.V.View.graph l.view)) (take l.node-index l.nodes)
