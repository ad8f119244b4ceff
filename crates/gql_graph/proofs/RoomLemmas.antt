-- Where a change is made there was room, and there is.
use Rattle.std.proofs.Common.{◌≡◌, ℕ, suc, ◌+◌, ◌≤◌, nat_le, Bool, true, false, List, [], ◌∷◌, length, refl, arith, length-append}
use Rattle.std.proofs.lemmas.Bool.{and_from, and_parts}
use Rattle.std.specs.Prelude.{count_by}
use Rattle.std.proofs.lemmas.Bool.Decides.{nat_tests}
use Rattle.std.proofs.lemmas.Grind.{common_steps}
use Rattle.gql_values3.specs.PropertyGraph.{PropertyGraph, is_graph}
use Rattle.gql_values3.specs.declared.records.NodeRecord.{NodeRecord}
use Rattle.gql_values3.specs.declared.records.EdgeRecord.{EdgeRecord}
use Rattle.gql_graph.specs.declared.change.Change.{Change}
use Rattle.gql_graph.specs.declared.change.Change.TheVariants as change
use Rattle.gql_graph.specs.Edits.{node_key, edge_key, changed, holds_along}
use Rattle.gql_graph.specs.Room.{GraphInMemory, has_room}
use Rattle.gql_graph.specs.Machinery.AfterChange.{AfterChange, adds_node, adds_edge}
use Rattle.gql_graph.proofs.EditLemmas.{shorter, longer, as_long}
use Rattle.gql_graph.proofs.UndoLemmas.{Undone}

at_most : (a b : ℕ) → a ≤ b → nat_le a b ≡ true
at_most a b le = grind (arith, nat_tests)

is_at_most : (a b : ℕ) → nat_le a b ≡ true → a ≤ b
is_at_most a b le = grind (arith, nat_tests)

-- there is room where the lists are no longer than it
pub has : (held : GraphInMemory) (g : PropertyGraph) → length g.nodes ≤ held.node_room → length g.edges ≤ held.edge_room → has_room held g ≡ true
has held g nodes edges = and_from _ _ (at_most _ _ nodes) (at_most _ _ edges)

-- room for one more
pub room_for_node : (held : GraphInMemory) (r : NodeRecord) → has_room held (changed (change.BackNode r) held.graph) ≡ true → suc (length held.graph.nodes) ≤ held.node_room
room_for_node held r room = omega (arith, longer node_key r held.graph.nodes, is_at_most _ _ (and_parts (nat_le (length (changed (change.BackNode r) held.graph).nodes) held.node_room) _ room).0)

pub room_for_edge : (held : GraphInMemory) (r : EdgeRecord) → has_room held (changed (change.BackEdge r) held.graph) ≡ true → suc (length held.graph.edges) ≤ held.edge_room
room_for_edge held r room = omega (arith, longer edge_key r held.graph.edges, is_at_most _ _ (and_parts (nat_le (length held.graph.nodes) held.node_room) _ room).1)

-- a change that leads to its graph, and is undone, is made
pub made : (before after : GraphInMemory) (c d : Change) → is_graph before.graph ≡ true → Undone before.graph c d → after.graph ≡ changed c before.graph → before.node_room ≡ after.node_room → before.edge_room ≡ after.edge_room → length before.graph.nodes ≤ before.node_room → length before.graph.edges ≤ before.edge_room → AfterChange before c after d
made before after c d one undone leads nodes edges few_nodes few_edges = record {
  graph = leads;
  undoes = rw leads (and_from _ _ undone.suits (rw undone.back one), undone.back);
  node_room = omega arith;
  edge_room = omega arith;
  held = has after before.graph (omega arith) (omega arith);
}

-- how many changes add is one more, or the same
more_by : (p : Change → Bool) (c : Change) (cs : List Change) → p c ≡ true → count_by p (c ∷ cs) ≡ suc (count_by p cs)
more_by p c cs does = grind (arith, common_steps)

same_by : (p : Change → Bool) (c : Change) (cs : List Change) → p c ≡ false → count_by p (c ∷ cs) ≡ count_by p cs
same_by p c cs doesnt = grind (arith, common_steps)

-- along changes the lists are at most as many items longer as changes add
pub along : (held : GraphInMemory) (cs : List Change) (g : PropertyGraph) → length g.nodes + count_by adds_node cs ≤ held.node_room → length g.edges + count_by adds_edge cs ≤ held.edge_room → holds_along (has_room held) cs g ≡ true
along held [] g nodes edges = has held g (omega arith) (omega arith)
along held (change.NewNode r ∷ cs) g nodes edges =
    and_from _ _ (has held g (omega arith) (omega arith))
    (along held cs _ (omega (arith, more_by adds_node (change.NewNode r) cs refl, length-append g.nodes (r ∷ []))) (omega (arith, same_by adds_edge (change.NewNode r) cs refl)))
along held (change.UnNode n ∷ cs) g nodes edges =
    and_from _ _ (has held g (omega arith) (omega arith))
    (along held cs _ (omega (arith, same_by adds_node (change.UnNode n) cs refl, shorter node_key n.0 g.nodes)) (omega (arith, same_by adds_edge (change.UnNode n) cs refl)))
along held (change.NewEdge r ∷ cs) g nodes edges =
    and_from _ _ (has held g (omega arith) (omega arith))
    (along held cs _ (omega (arith, same_by adds_node (change.NewEdge r) cs refl)) (omega (arith, more_by adds_edge (change.NewEdge r) cs refl, length-append g.edges (r ∷ []))))
along held (change.UnEdge e ∷ cs) g nodes edges =
    and_from _ _ (has held g (omega arith) (omega arith))
    (along held cs _ (omega (arith, same_by adds_node (change.UnEdge e) cs refl)) (omega (arith, same_by adds_edge (change.UnEdge e) cs refl, shorter edge_key e.0 g.edges)))
along held (change.OutNode n ∷ cs) g nodes edges =
    and_from _ _ (has held g (omega arith) (omega arith))
    (along held cs _ (omega (arith, same_by adds_node (change.OutNode n) cs refl, shorter node_key n.0 g.nodes)) (omega (arith, same_by adds_edge (change.OutNode n) cs refl)))
along held (change.BackNode r ∷ cs) g nodes edges =
    and_from _ _ (has held g (omega arith) (omega arith))
    (along held cs _ (omega (arith, more_by adds_node (change.BackNode r) cs refl, longer node_key r g.nodes)) (omega (arith, same_by adds_edge (change.BackNode r) cs refl)))
along held (change.OutEdge e ∷ cs) g nodes edges =
    and_from _ _ (has held g (omega arith) (omega arith))
    (along held cs _ (omega (arith, same_by adds_node (change.OutEdge e) cs refl)) (omega (arith, same_by adds_edge (change.OutEdge e) cs refl, shorter edge_key e.0 g.edges)))
along held (change.BackEdge r ∷ cs) g nodes edges =
    and_from _ _ (has held g (omega arith) (omega arith))
    (along held cs _ (omega (arith, same_by adds_node (change.BackEdge r) cs refl)) (omega (arith, more_by adds_edge (change.BackEdge r) cs refl, longer edge_key r g.edges)))
along held (change.SwapNode r ∷ cs) g nodes edges =
    and_from _ _ (has held g (omega arith) (omega arith))
    (along held cs _ (omega (arith, same_by adds_node (change.SwapNode r) cs refl, as_long node_key r g.nodes)) (omega (arith, same_by adds_edge (change.SwapNode r) cs refl)))
along held (change.SwapEdge r ∷ cs) g nodes edges =
    and_from _ _ (has held g (omega arith) (omega arith))
    (along held cs _ (omega (arith, same_by adds_node (change.SwapEdge r) cs refl)) (omega (arith, same_by adds_edge (change.SwapEdge r) cs refl, as_long edge_key r g.edges)))
