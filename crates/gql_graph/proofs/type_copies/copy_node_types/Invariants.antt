use Rattle.std.proofs.Common.{◌≡◌, take}
use Rattle.gql_graph.proofs.type_copies.copy_node_types.Given as goal

abbrev pub invariant-loop-node_type : goal.invariant-loop-node_type
invariant-loop-node_type l = l.copies.items ≡ take l.node_type-index l.types
