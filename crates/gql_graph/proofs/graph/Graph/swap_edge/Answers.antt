use Rattle.std.proofs.Common.{refl, sym, arith}
use Rattle.std.proofs.lemmas.Bool.{and_parts}
use Rattle.gql_graph.proofs.UndoLemmas.{swap_edge_undone}
use Rattle.gql_graph.proofs.RoomLemmas.{made}
use Rattle.gql_graph.proofs.graph.Graph.swap_edge.Goals as goal

pub returns : goal.returns
returns c =
    let acts = rw (← c.self.view_is) at c.requires in
    let undone = swap_edge_undone _ c.self.invariant c.args.edge c.swap_numbered.result (and_parts _ _ acts).0 c.swap_numbered.ensures.taken in
    rw (← c.self.view_is) (made _ _ _ _ c.self.invariant undone (rw c.swap_numbered.ensures.items refl) refl (sym c.swap_numbered.ensures.room) (omega (arith, c.self.inside.nodes.ok.0, c.self.inside.nodes.ok.1)) (omega (arith, c.self.inside.edges.ok.0, c.self.inside.edges.ok.1)))
