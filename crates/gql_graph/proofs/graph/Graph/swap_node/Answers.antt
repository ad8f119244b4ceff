use Rattle.std.proofs.Common.{refl, sym, arith}
use Rattle.gql_graph.proofs.UndoLemmas.{swap_node_undone}
use Rattle.gql_graph.proofs.RoomLemmas.{made}
use Rattle.gql_graph.proofs.graph.Graph.swap_node.Goals as goal

pub returns : goal.returns
returns c =
    let undone = swap_node_undone _ c.self.invariant c.args.node c.swap_numbered.result c.swap_numbered.ensures.taken in
    rw (← c.self.view_is) (made _ _ _ _ c.self.invariant undone (rw c.swap_numbered.ensures.items refl) (sym c.swap_numbered.ensures.room) refl (omega (arith, c.self.inside.nodes.ok.0, c.self.inside.nodes.ok.1)) (omega (arith, c.self.inside.edges.ok.0, c.self.inside.edges.ok.1)))
