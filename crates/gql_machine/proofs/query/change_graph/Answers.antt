use Rattle.gql_machine.specs.Machinery.Meaning.{session_state}
use Rattle.gql_machine.proofs.QueryLemmas.{put_ends}
use Rattle.gql_machine.proofs.query.change_graph.Goals as goal

pub returns-in-Ok : goal.returns-in-Ok
returns-in-Ok g c =
    let s = c.args.session.now in
    put_ends (session_state s) (session_state c.put_graph.new.session) c.args.query.now c.in-Ok.answer c.catalog.result.now _ _ c.put_graph.result c.requires.changes c.catalog.ensures.same c.in_ok-graph.ensures
    c.in-Ok.ensures c.put_graph.ensures
