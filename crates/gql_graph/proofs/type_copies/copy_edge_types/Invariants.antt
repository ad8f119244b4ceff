use Rattle.std.proofs.Common.{◌≡◌, take}
use Rattle.gql_graph.proofs.type_copies.copy_edge_types.Given as goal

abbrev pub invariant-loop-edge_type : goal.invariant-loop-edge_type
invariant-loop-edge_type l = l.copies.items ≡ take l.edge_type-index l.types
