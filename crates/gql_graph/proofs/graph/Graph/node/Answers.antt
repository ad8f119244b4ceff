use Rattle.gql_graph.proofs.GraphLemmas.{nodes_ascend}
use Rattle.gql_graph.proofs.graph.Graph.node.Goals as goal

pub find_numbered-requires : goal.find_numbered-requires
find_numbered-requires c =
    let s = c.self.inside in
    rw c.as_slice.ensures.value (nodes_ascend s.nodes.items s.edges.items s.next_node s.next_edge c.self.invariant)
