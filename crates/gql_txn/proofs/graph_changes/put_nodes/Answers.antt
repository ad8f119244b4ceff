use Rattle.gql_txn.proofs.TellingLemmas.{node_properties}
use Rattle.gql_txn.proofs.graph_changes.put_nodes.Goals as goal

pub put_node-requires-clause-properties : goal.put_node-requires-clause-properties
put_node-requires-clause-properties c =
    let within = rw c.nodes-nodes.ensures at c.loop-element-test.true in
    let found = rw c.nodes-nodes.ensures at c.element-item.is in
    node_properties c.args.after.now.graph c.loop-element.element-index c.element-item.result c.count_nodes-count.ensures.graph within found
