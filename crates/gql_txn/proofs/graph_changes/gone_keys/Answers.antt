use Rattle.gql_graph.specs.Bare.{bare_held}
use Rattle.gql_txn.proofs.TellingLemmas.{keys_gone}
use Rattle.gql_txn.proofs.graph_changes.gone_keys.Goals as goal

pub returns : goal.returns
returns c = keys_gone c.args.name.now c.args.before.now.graph (bare_held c.args.after.now) c.new-drops.result.items c.drop_nodes.new.out.items c.drop_edges.new.out.items c.new-drops.ensures.items c.in_ok-drop_nodes.ensures c.in_ok-drop_edges.ensures
