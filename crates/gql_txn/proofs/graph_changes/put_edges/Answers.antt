use Rattle.gql_rowcode.proofs.WritingLemmas.{edge_content}
use Rattle.gql_txn.proofs.graph_changes.put_edges.Goals as goal

pub put_edge-requires-clause-labels : goal.put_edge-requires-clause-labels
put_edge-requires-clause-labels c =
    let within = rw c.edges-edges.ensures at c.loop-element-test.true in
    let found = rw c.edges-edges.ensures at c.element-item.is in
    (edge_content c.args.after.now.graph c.loop-element.element-index c.element-item.result c.count_nodes-count.ensures.graph within found).0

pub put_edge-requires-clause-properties : goal.put_edge-requires-clause-properties
put_edge-requires-clause-properties c =
    let within = rw c.edges-edges.ensures at c.loop-element-test.true in
    let found = rw c.edges-edges.ensures at c.element-item.is in
    (edge_content c.args.after.now.graph c.loop-element.element-index c.element-item.result c.count_nodes-count.ensures.graph within found).1
