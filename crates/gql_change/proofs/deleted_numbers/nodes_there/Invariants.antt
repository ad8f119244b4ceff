use Rattle.std.proofs.Common.{◌≡◌, take}
use Rattle.std.specs.List.{flat_map}
use Rattle.gql_change.specs.Machinery.DeletionSteps.{node_there}
use Rattle.gql_change.proofs.deleted_numbers.nodes_there.Given as goal

abbrev pub invariant-loop-elem : goal.invariant-loop-elem
invariant-loop-elem g l = l.nodes.items ≡ flat_map (node_there (g.V.View.graph l.view)) (take l.elem-index l.named)
