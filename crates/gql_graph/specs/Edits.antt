-- What a change does to a graph's lists and numbers, and where it can act.
use Rattle.std.specs.Prelude.{ℕ, suc, pred, ◌^◌, Bool, true, false, not, ◌&&◌, ◌==◌, nat_lt, List, [], ◌∷◌, ◌++◌, map, filter, Option, Some, None, if◌then◌else◌}
use Rattle.gql_values3.specs.PropertyGraph.{PropertyGraph, is_graph}
use Rattle.gql_values3.specs.Lookup.{edge_of, has_node}
use Rattle.gql_values3.specs.declared.element.EdgeId.{EdgeId}
use Rattle.gql_values3.specs.declared.element.Ends.{Ends}
use Rattle.gql_values3.specs.declared.element.Ends.TheVariants.{Directed, Undirected}
use Rattle.gql_values3.specs.declared.records.NodeRecord.{NodeRecord}
use Rattle.gql_values3.specs.declared.records.EdgeRecord.{EdgeRecord}
use Rattle.gql_graph.specs.declared.change.Change.{Change}
use Rattle.gql_graph.specs.declared.change.Change.TheVariants as change

-- before the first item of a greater key
abbrev pub put_in : {X : Type 0} → (X → ℕ) → X → List X → List X
put_in key x [] = x ∷ []
put_in key x (y ∷ ys) = if nat_lt (key x) (key y) then x ∷ y ∷ ys else y ∷ put_in key x ys

-- without the item of this key
abbrev pub taken_out : {X : Type 0} → (X → ℕ) → ℕ → List X → List X
taken_out key n xs = filter (λ y. not (key y == n)) xs

-- in the place of the item of its key
abbrev pub put_over : {X : Type 0} → (X → ℕ) → X → List X → List X
put_over key x xs = map (λ y. if key y == key x then x else y) xs

-- nodes are kept in order by number
abbrev pub node_key : NodeRecord → ℕ
node_key r = r.number.0

-- edges are kept in order by number
abbrev pub edge_key : EdgeRecord → ℕ
edge_key r = r.number.0

-- with other nodes, and the number that the next new node takes; the edges stay
abbrev pub with_nodes : PropertyGraph → List NodeRecord → ℕ → PropertyGraph
with_nodes g nodes next = record { nodes = nodes; edges = g.edges; next_node = next; next_edge = g.next_edge }

-- with other edges, and the number that the next new edge takes; the nodes stay
abbrev pub with_edges : PropertyGraph → List EdgeRecord → ℕ → PropertyGraph
with_edges g edges next = record { nodes = g.nodes; edges = edges; next_node = g.next_node; next_edge = next }

-- the graph behind a change
abbrev pub changed : Change → PropertyGraph → PropertyGraph
changed (change.NewNode r) g = with_nodes g (g.nodes ++ r ∷ []) (suc g.next_node)
changed (change.UnNode n) g = with_nodes g (taken_out node_key n.0 g.nodes) (pred g.next_node)
changed (change.NewEdge r) g = with_edges g (g.edges ++ r ∷ []) (suc g.next_edge)
changed (change.UnEdge e) g = with_edges g (taken_out edge_key e.0 g.edges) (pred g.next_edge)
changed (change.OutNode n) g = with_nodes g (taken_out node_key n.0 g.nodes) g.next_node
changed (change.BackNode r) g = with_nodes g (put_in node_key r g.nodes) g.next_node
changed (change.OutEdge e) g = with_edges g (taken_out edge_key e.0 g.edges) g.next_edge
changed (change.BackEdge r) g = with_edges g (put_in edge_key r g.edges) g.next_edge
changed (change.SwapNode r) g = with_nodes g (put_over node_key r g.nodes) g.next_node
changed (change.SwapEdge r) g = with_edges g (put_over edge_key r g.edges) g.next_edge

-- the graph has an edge of this number
abbrev pub has_edge : PropertyGraph → EdgeId → Bool
has_edge g e = holds (edge_of g e)
  where
    holds : Option EdgeRecord → Bool
    holds None = false
    holds (Some r) = true

-- both directed or both undirected, and the same nodes in the same order
abbrev pub same_ends : Ends → Ends → Bool
same_ends (Directed a b) (Directed c d) = a.0 == c.0 && b.0 == d.0
same_ends (Undirected a b) (Undirected c d) = a.0 == c.0 && b.0 == d.0
same_ends _ _ = false

-- the edge of this number has these ends
abbrev pub has_ends : PropertyGraph → EdgeRecord → Bool
has_ends g r = holds (edge_of g r.number)
  where
    holds : Option EdgeRecord → Bool
    holds None = false
    holds (Some old) = same_ends old.ends r.ends

-- what a change asks beside that its result is a graph; the greatest number, 4,294,967,295, is given to no element
abbrev pub suits : Change → PropertyGraph → Bool
suits (change.NewNode r) g = r.number.0 == g.next_node && nat_lt (suc g.next_node) (2 ^ 32)
suits (change.UnNode n) g = suc n.0 == g.next_node && has_node g n
suits (change.NewEdge r) g = r.number.0 == g.next_edge && nat_lt (suc g.next_edge) (2 ^ 32)
suits (change.UnEdge e) g = suc e.0 == g.next_edge && has_edge g e
suits (change.OutNode n) g = has_node g n
suits (change.BackNode r) g = not (has_node g r.number) && nat_lt r.number.0 g.next_node
suits (change.OutEdge e) g = has_edge g e
suits (change.BackEdge r) g = not (has_edge g r.number) && nat_lt r.number.0 g.next_edge
suits (change.SwapNode r) g = has_node g r.number
suits (change.SwapEdge r) g = has_ends g r

-- the change can act on the graph
abbrev pub can_act : Change → PropertyGraph → Bool
can_act c g = suits c g && is_graph (changed c g)

-- the changes can act one after the other
abbrev pub can_act_each : List Change → PropertyGraph → Bool
can_act_each [] g = true
can_act_each (c ∷ cs) g = can_act c g && can_act_each cs (changed c g)

-- the graph behind them all
abbrev pub changed_by_each : List Change → PropertyGraph → PropertyGraph
changed_by_each [] g = g
changed_by_each (c ∷ cs) g = changed_by_each cs (changed c g)

-- a test holds of the graph and of each that the changes lead to, one after the other
abbrev pub holds_along : (PropertyGraph → Bool) → List Change → PropertyGraph → Bool
holds_along test [] g = test g
holds_along test (c ∷ cs) g = test g && holds_along test cs (changed c g)
