use Rattle.std.proofs.Common.{arith}
use Rattle.gql_graph.specs.contracts.graph.Graph.{the_view}
use Rattle.gql_graph.proofs.RoomLemmas.{along}
use Rattle.gql_graph.proofs.edits.GraphEdit.make_room.Goals as goal

-- each list has room for as many items more as the changes add
pub returns-clause-room : goal.returns-clause-room
returns-clause-room c = rw (← c.self.view_is) (along (the_view (record { nodes = c.reserve.new.self; edges = c.reserve-2.new.self; next_node = c.self.inside.next_node; next_edge = c.self.inside.next_edge })) c.args.changes.now _
    (omega (arith, c.in_ok-reserve.ensures.ok, c.in_ok-reserve.ensures.len, rw c.as_slice.ensures at c.new_nodes.ensures, c.self.inside.nodes.ok.0))
    (omega (arith, c.in_ok-reserve-2.ensures.ok, c.in_ok-reserve-2.ensures.len, rw c.as_slice-2.ensures at c.new_edges.ensures, c.self.inside.edges.ok.0)))
