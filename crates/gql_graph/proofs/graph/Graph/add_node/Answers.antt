use Rattle.std.proofs.Common.{refl, sym, arith, add-one}
use Rattle.std.proofs.lemmas.Bool.{and_parts}
use Rattle.gql_graph.proofs.UndoLemmas.{new_node_undone}
use Rattle.gql_graph.proofs.RoomLemmas.{made}
use Rattle.gql_graph.proofs.graph.Graph.add_node.Goals as goal

pub returns : goal.returns
returns c =
    let acts = rw (← c.self.view_is) at c.requires.acts in
    let undone = new_node_undone _ c.self.invariant c.args.node (and_parts _ _ acts).0 in
    rw (← c.self.view_is) (made _ _ _ _ c.self.invariant undone (rw (c.push_reserved.ensures.items, add-one) refl) (sym c.push_reserved.ensures.capacity) refl (omega (arith, c.self.inside.nodes.ok.0, c.self.inside.nodes.ok.1)) (omega (arith, c.self.inside.edges.ok.0, c.self.inside.edges.ok.1)))
