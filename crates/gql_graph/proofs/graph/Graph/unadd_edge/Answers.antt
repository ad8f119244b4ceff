use Rattle.std.proofs.Common.{refl, sym, arith, sub-one}
use Rattle.std.proofs.lemmas.Bool.{and_parts}
use Rattle.gql_graph.proofs.UndoLemmas.{un_edge_undone}
use Rattle.gql_graph.proofs.RoomLemmas.{made}
use Rattle.gql_graph.proofs.graph.Graph.unadd_edge.Goals as goal

pub returns : goal.returns
returns c =
    let acts = rw (← c.self.view_is) at c.requires in
    let undone = un_edge_undone _ c.self.invariant c.args.edge c.take_numbered-record.result (and_parts _ _ acts).0 c.take_numbered-record.ensures.taken in
    rw (← c.self.view_is) (made _ _ _ _ c.self.invariant undone (rw (c.take_numbered-record.ensures.items, sub-one) refl) refl (sym c.take_numbered-record.ensures.room) (omega (arith, c.self.inside.nodes.ok.0, c.self.inside.nodes.ok.1)) (omega (arith, c.self.inside.edges.ok.0, c.self.inside.edges.ok.1)))
