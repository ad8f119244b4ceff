use Rattle.std.proofs.Common.{refl, sym, arith}
use Rattle.std.proofs.lemmas.Bool.{and_parts}
use Rattle.gql_graph.specs.contracts.graph.Graph.{the_view}
use Rattle.gql_graph.proofs.UndoLemmas.{back_edge_undone}
use Rattle.gql_graph.proofs.RoomLemmas.{made, room_for_edge}
use Rattle.gql_graph.proofs.graph.Graph.back_edge.Goals as goal

pub put_numbered-requires-clause-room : goal.put_numbered-requires-clause-room
put_numbered-requires-clause-room c =
    let room = rw (← c.self.view_is) at c.requires.room in
    omega (arith, room_for_edge (the_view c.self.inside) c.args.edge room, c.self.inside.edges.ok.0)

pub returns : goal.returns
returns c =
    let acts = rw (← c.self.view_is) at c.requires.acts in
    let undone = back_edge_undone _ c.self.invariant c.args.edge (and_parts _ _ acts).0 in
    rw (← c.self.view_is) (made _ _ _ _ c.self.invariant undone (rw c.put_numbered.ensures.items refl) refl (sym c.put_numbered.ensures.room) (omega (arith, c.self.inside.nodes.ok.0, c.self.inside.nodes.ok.1)) (omega (arith, c.self.inside.edges.ok.0, c.self.inside.edges.ok.1)))
