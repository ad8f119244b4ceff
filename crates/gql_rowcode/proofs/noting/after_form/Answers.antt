use Rattle.gql_rowcode.proofs.noting.after_form.Goals as goal

pub returns-in-Node : goal.returns-in-Node
returns-in-Node c = rw c.in-Node.is (c.after_node.ensures c.args.first)

pub returns-in-Edge : goal.returns-in-Edge
returns-in-Edge c = rw c.in-Edge.is (c.after_edge.ensures c.args.first)
