use Rattle.std.proofs.Common.{refl, sym, arith}
use Rattle.gql_graph.proofs.UndoLemmas.{out_node_undone}
use Rattle.gql_graph.proofs.RoomLemmas.{made}
use Rattle.gql_graph.proofs.graph.Graph.out_node.Goals as goal

pub returns : goal.returns
returns c =
    let undone = out_node_undone _ c.self.invariant c.args.node c.take_numbered.result c.take_numbered.ensures.taken in
    rw (← c.self.view_is) (made _ _ _ _ c.self.invariant undone (rw c.take_numbered.ensures.items refl) (sym c.take_numbered.ensures.room) refl (omega (arith, c.self.inside.nodes.ok.0, c.self.inside.nodes.ok.1)) (omega (arith, c.self.inside.edges.ok.0, c.self.inside.edges.ok.1)))
