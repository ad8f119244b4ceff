-- Conformance to a graph type where a graph gets more nodes: what fits, fits still.
use Rattle.std.proofs.Common.{◌≡◌, ℕ, ◌∙◌, Bool, true, false, not, ◌&&◌, List, [], ◌∷◌, ◌++◌, Option, Some, None, refl, sym, ap, inl, inr, ◌⊎◌}
use Rattle.std.specs.Prelude.{◌||◌, slice_get}
use Rattle.std.specs.List.{list_all}
use Rattle.std.proofs.lemmas.Bool.{and_parts, and_from}
use Rattle.gql_values3.specs.Lookup.{node_of}
use Rattle.gql_values3.specs.PropertyGraph.{PropertyGraph}
use Rattle.gql_values3.specs.declared.element.NodeId.{NodeId}
use Rattle.gql_values3.specs.declared.element.Ends.{Ends}
use Rattle.gql_values3.specs.declared.element.Ends.TheVariants.{Directed, Undirected}
use Rattle.gql_values3.specs.declared.records.NodeRecord.{NodeRecord}
use Rattle.gql_values3.specs.declared.records.EdgeRecord.{EdgeRecord}
use Rattle.gql_graph.specs.declared.graph_type.NodeType.{NodeType}
use Rattle.gql_graph.specs.declared.graph_type.EdgeType.{EdgeType}
use Rattle.gql_graph.specs.declared.graph_type.GraphType.{GraphType}
use Rattle.gql_type.specs.Conformance.{both_fit, is_end, has_ends, has_content, fits_edge_type, node_fits, edge_fits, conforms}
use Rattle.gql_rowcode.specs.FirstBad.{and_node, and_edge}
use Rattle.gql_rowcode.proofs.MemberLemmas.{Has, any_has, any_back, all_has, all_from, has_push}
use Rattle.gql_rowcode.proofs.NumberLemmas.{find_left}

or_grows : (a b x y : Bool) → (a ≡ true → x ≡ true) → (b ≡ true → y ≡ true) → (a || b) ≡ true → (x || y) ≡ true
or_grows true b x y one other h = rw (one refl) refl
or_grows false b true y one other h = refl
or_grows false b false y one other h = other h

and_grows : (a b x y : Bool) → (a ≡ true → x ≡ true) → (b ≡ true → y ≡ true) → (a && b) ≡ true → (x && y) ≡ true
and_grows a b x y one other h = let p = and_parts a b h in and_from x y (one p.0) (other p.1)

-- each node that is found in the one is found in the other
abbrev pub Grows : PropertyGraph → PropertyGraph → Type 0
Grows g h = (n : NodeId) (x : NodeRecord) → node_of g n ≡ Some x → node_of h n ≡ Some x

pub grows_node : (r : NodeRecord) (g : PropertyGraph) → Grows g (and_node r g)
grows_node r g n x e = find_left _ g.nodes (r ∷ []) x e

module _ (g h : PropertyGraph) (grow : Grows g h) (t : GraphType) where
  end_case : (n : NodeId) (o : Option NodeRecord) (q : Option NodeType) → node_of g n ≡ o → both_fit o q ≡ true → both_fit (node_of h n) q ≡ true
  end_case n None None is fit = absurd (cc)
  end_case n None (Some u) is fit = absurd (cc)
  end_case n (Some x) None is fit = absurd (cc)
  end_case n (Some x) (Some u) is fit = ap (λ (o : Option NodeRecord). both_fit o (Some u)) (grow n x is) ∙ fit

  end_grows : (n : NodeId) (place : ℕ) → is_end g t n place ≡ true → is_end h t n place ≡ true
  end_grows n place fit = end_case n (node_of g n) (slice_get t.nodes place) refl fit

  two_ends : (a b : NodeId) (p q : ℕ) → (is_end g t a p && is_end g t b q) ≡ true → (is_end h t a p && is_end h t b q) ≡ true
  two_ends a b p q fit = and_grows (is_end g t a p) (is_end g t b q) (is_end h t a p) (is_end h t b q) (end_grows a p) (end_grows b q) fit

  ends_grow : (ends : Ends) (e : EdgeType) → has_ends g t ends e ≡ true → has_ends h t ends e ≡ true
  ends_grow (Directed s d) e fit =
      and_grows (e.directed && is_end g t s e.first) (is_end g t d e.second) (e.directed && is_end h t s e.first) (is_end h t d e.second)
      (and_grows e.directed (is_end g t s e.first) e.directed (is_end h t s e.first) (λ k. k) (end_grows s e.first)) (end_grows d e.second) fit
  ends_grow (Undirected l m) e fit =
      and_grows (not e.directed) ((is_end g t l e.first && is_end g t m e.second) || (is_end g t m e.first && is_end g t l e.second))
      (not e.directed) ((is_end h t l e.first && is_end h t m e.second) || (is_end h t m e.first && is_end h t l e.second)) (λ k. k)
      (or_grows (is_end g t l e.first && is_end g t m e.second) (is_end g t m e.first && is_end g t l e.second) (is_end h t l e.first && is_end h t m e.second) (is_end h t m e.first && is_end h t l e.second)
      (two_ends l m e.first e.second) (two_ends m l e.first e.second)) fit

  pub edge_fits_grow : (r : EdgeRecord) → edge_fits g t r ≡ true → edge_fits h t r ≡ true
  edge_fits_grow r fit =
      let b = any_back (fits_edge_type g t r) t.edges fit in
      let u : EdgeType = b.0 in
      any_has (fits_edge_type h t r) t.edges u b.1
      (and_grows (has_content u.labels u.body r.labels r.properties) (has_ends g t r.ends u) (has_content u.labels u.body r.labels r.properties) (has_ends h t r.ends u) (λ k. k) (ends_grow r.ends u) b.2)

-- a graph conforms as its nodes and edges do
pub conforms_nodes : (g : PropertyGraph) (t : GraphType) → conforms g t ≡ true → (r : NodeRecord) → Has g.nodes r → node_fits t r ≡ true
conforms_nodes g t all r h = all_has (node_fits t) g.nodes r (and_parts (list_all (node_fits t) g.nodes) (list_all (edge_fits g t) g.edges) all).0 h

pub conforms_edges : (g : PropertyGraph) (t : GraphType) → conforms g t ≡ true → (r : EdgeRecord) → Has g.edges r → edge_fits g t r ≡ true
conforms_edges g t all r h = all_has (edge_fits g t) g.edges r (and_parts (list_all (node_fits t) g.nodes) (list_all (edge_fits g t) g.edges) all).1 h

pub conforms_from : (g : PropertyGraph) (t : GraphType) → ((r : NodeRecord) → Has g.nodes r → node_fits t r ≡ true) → ((r : EdgeRecord) → Has g.edges r → edge_fits g t r ≡ true) → conforms g t ≡ true
conforms_from g t nodes edges = and_from (list_all (node_fits t) g.nodes) (list_all (edge_fits g t) g.edges) (all_from (node_fits t) g.nodes nodes) (all_from (edge_fits g t) g.edges edges)

-- with a node more, with an edge more
pub conforms_node : (g : PropertyGraph) (t : GraphType) (r : NodeRecord) → conforms g t ≡ true → node_fits t r ≡ true → conforms (and_node r g) t ≡ true
conforms_node g t r all one = conforms_from (and_node r g) t nodes (λ e h. edge_fits_grow g (and_node r g) (grows_node r g) t e (conforms_edges g t all e h))
  where
    nodes : (x : NodeRecord) → Has (and_node r g).nodes x → node_fits t x ≡ true
    nodes x h = elim (has_push g.nodes r x h) [ inl a ↦ conforms_nodes g t all x a | inr a ↦ ap (node_fits t) a ∙ one ]

pub conforms_edge : (g : PropertyGraph) (t : GraphType) (r : EdgeRecord) → conforms g t ≡ true → edge_fits g t r ≡ true → conforms (and_edge r g) t ≡ true
conforms_edge g t r all one = conforms_from (and_edge r g) t (conforms_nodes g t all) edges
  where
    edges : (x : EdgeRecord) → Has (and_edge r g).edges x → edge_fits g t x ≡ true
    edges x h = elim (has_push g.edges r x h) [ inl a ↦ conforms_edges g t all x a | inr a ↦ ap (edge_fits g t) a ∙ one ]
