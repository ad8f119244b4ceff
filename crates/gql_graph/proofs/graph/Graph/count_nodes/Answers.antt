use Rattle.std.proofs.Common.{arith}
use Rattle.gql_graph.proofs.GraphLemmas.{few_nodes}
use Rattle.gql_graph.proofs.graph.Graph.count_nodes.Goals as goal

-- ascending numbers below 2^32 are fewer than 2^32
pub overflow_cast-result : goal.overflow_cast-result
overflow_cast-result c =
    let s = c.self.inside in
    omega (arith, few_nodes s.nodes.items s.edges.items s.next_node s.next_edge c.self.invariant)
