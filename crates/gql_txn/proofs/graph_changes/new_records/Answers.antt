use Rattle.gql_graph.specs.Bare.{bare_held}
use Rattle.gql_txn.proofs.TellingLemmas.{say_new}
use Rattle.gql_txn.proofs.graph_changes.new_records.Goals as goal

pub returns : goal.returns
returns c = say_new c.args.name.now c.args.before.now.graph (bare_held c.args.after.now) c.new-puts.result.items c.put_numbers.new.out.items c.put_nodes.new.out.items c.put_edges.new.out.items c.new-puts.ensures.items c.in_ok-put_numbers.ensures c.in_ok-put_nodes.ensures c.in_ok-put_edges.ensures
