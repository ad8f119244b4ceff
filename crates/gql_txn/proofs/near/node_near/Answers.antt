use Rattle.std.proofs.Common.{sym}
use Rattle.gql_txn.proofs.NearLemmas.{node_found}
use Rattle.gql_txn.proofs.near.node_near.Goals as goal

pub returns-then-found-number : goal.returns-then-found-number
returns-then-found-number c =
    let within = rw c.nodes.ensures at c.in-Some.ensures.lookup.3.0 in
    let here = rw c.nodes.ensures at c.in-Some.ensures.lookup.1 in
    sym (node_found c.args.graph.now.graph c.args.near c.args.number c.in-Some.found.now c.count_nodes-count.ensures.graph within here c.if-found-number.true)
