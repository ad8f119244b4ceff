use Rattle.std.proofs.lemmas.Bool.{and_parts}
use Rattle.gql_values3.specs.PropertyGraph.{are_nodes, are_edges}
use Rattle.gql_type.proofs.ConformanceLemmas.{numbers_of}
use Rattle.gql_type.proofs.misfit.first_unmatched.Goals as goal

-- the nodes are those of a graph
pub of-nodes-requires : goal.of-nodes-requires
of-nodes-requires c =
    let g = c.args.graph.now.graph in
    let nodes = (and_parts (are_nodes g.nodes g.next_node) (are_edges g.nodes g.edges g.next_edge) c.count_nodes-count.ensures.graph).0 in
    rw c.nodes.ensures (numbers_of g.nodes g.next_node nodes)
