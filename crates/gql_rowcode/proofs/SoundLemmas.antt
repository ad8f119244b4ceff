-- What is tested of a graph and of a catalog, as facts of their elements.
use Rattle.std.proofs.Common.{◌≡◌, ℕ, ◌∙◌, ◌^◌, ◌<◌, ltb, leb, eqb, Bool, true, false, ◌&&◌, List, [], ◌∷◌, ◌++◌, map, Option, Some, None, refl, sym, ap, subst, arith, inl, inr}
use Rattle.std.specs.List.{list_all}
use Rattle.std.proofs.lemmas.Bool.{ltb-true, lt-ltb, and_parts, and_from}
use Rattle.std.proofs.lemmas.List.{map_push}
use Rattle.gql_values3.specs.Texts.{texts_ascend}
use Rattle.gql_values3.specs.PropertyGraph.{PropertyGraph, numbers_ascend, are_numbers, are_properties, is_among, are_ends, is_node_record, is_edge_record, are_nodes, are_edges, is_graph}
use Rattle.gql_values3.specs.declared.element.NodeId.{NodeId}
use Rattle.gql_values3.specs.declared.element.Ends.{Ends}
use Rattle.gql_values3.specs.declared.element.Ends.TheVariants.{Directed, Undirected}
use Rattle.gql_values3.specs.declared.records.NodeRecord.{NodeRecord}
use Rattle.gql_values3.specs.declared.records.EdgeRecord.{EdgeRecord}
use Rattle.gql_graph.specs.Catalog.{CatalogGraph, CatalogData, named, is_catalog}
use Rattle.gql_type.specs.SoundCatalog.{conforms_to, fits_kind, is_sound}
use Rattle.gql_graph.specs.declared.graph_type.GraphType.{GraphType}
use Rattle.gql_type.specs.Conformance.{conforms}
use Rattle.gql_type.specs.GraphTypes.{is_graph_type}
use Rattle.gql_rowcode.specs.FirstBad.{and_node, and_edge, by_type, passes_type}
use Rattle.gql_rowcode.proofs.MemberLemmas.{Has, has_left, has_push, has_map_back, all_has, all_from, any_has, any_back}
use Rattle.gql_graph.proofs.CatalogLemmas.{names}
use Rattle.gql_rowcode.proofs.NumberLemmas.{numbers_push}

abbrev pub node_number : NodeRecord → ℕ
node_number r = r.number.0

abbrev pub edge_number : EdgeRecord → ℕ
edge_number r = r.number.0

-- a graph
pub record IsGraph (g : PropertyGraph) : Type 0 where
  pub node_order : numbers_ascend 0 (map node_number g.nodes) g.next_node ≡ true
  pub node_limit : ltb g.next_node (2 ^ 32) ≡ true
  pub nodes_fit : (r : NodeRecord) → Has g.nodes r → is_node_record r ≡ true
  pub edge_order : numbers_ascend 0 (map edge_number g.edges) g.next_edge ≡ true
  pub edge_limit : ltb g.next_edge (2 ^ 32) ≡ true
  pub edges_fit : (r : EdgeRecord) → Has g.edges r → is_edge_record g.nodes r ≡ true

pub graph_facts : (g : PropertyGraph) → is_graph g ≡ true → IsGraph g
graph_facts g is =
    let p = and_parts (are_nodes g.nodes g.next_node) (are_edges g.nodes g.edges g.next_edge) is in
    let n = and_parts (are_numbers (map node_number g.nodes) g.next_node) (list_all is_node_record g.nodes) p.0 in
    let e = and_parts (are_numbers (map edge_number g.edges) g.next_edge) (list_all (is_edge_record g.nodes) g.edges) p.1 in
    let m = and_parts (numbers_ascend 0 (map node_number g.nodes) g.next_node) (ltb g.next_node (2 ^ 32)) n.0 in
    let f = and_parts (numbers_ascend 0 (map edge_number g.edges) g.next_edge) (ltb g.next_edge (2 ^ 32)) e.0 in
    record {
      node_order = m.0;
      node_limit = m.1;
      nodes_fit = λ r h. all_has is_node_record g.nodes r n.1 h;
      edge_order = f.0;
      edge_limit = f.1;
      edges_fit = λ r h. all_has (is_edge_record g.nodes) g.edges r e.1 h;
    }

pub graph_from : (g : PropertyGraph) → IsGraph g → is_graph g ≡ true
graph_from g is =
    and_from (are_nodes g.nodes g.next_node) (are_edges g.nodes g.edges g.next_edge)
    (and_from (are_numbers (map node_number g.nodes) g.next_node) (list_all is_node_record g.nodes)
    (and_from (numbers_ascend 0 (map node_number g.nodes) g.next_node) (ltb g.next_node (2 ^ 32)) is.node_order is.node_limit) (all_from is_node_record g.nodes is.nodes_fit))
    (and_from (are_numbers (map edge_number g.edges) g.next_edge) (list_all (is_edge_record g.nodes) g.edges)
    (and_from (numbers_ascend 0 (map edge_number g.edges) g.next_edge) (ltb g.next_edge (2 ^ 32)) is.edge_order is.edge_limit) (all_from (is_edge_record g.nodes) g.edges is.edges_fit))

-- ---- nodes that are there, are there among more

module _ (nodes more : List NodeRecord) (grow : (x : NodeRecord) → Has nodes x → Has more x) where
  among_grows : (n : NodeId) → is_among nodes n ≡ true → is_among more n ≡ true
  among_grows n h = let b = any_back (λ (r : NodeRecord). eqb r.number.0 n.0) nodes h in any_has (λ (r : NodeRecord). eqb r.number.0 n.0) more b.0 (grow b.0 b.1) b.2

  pub ends_stay : (ends : Ends) → are_ends nodes ends ≡ true → are_ends more ends ≡ true
  ends_stay (Directed s t) h =
      let p = and_parts (is_among nodes s) (is_among nodes t) h in
      and_from (is_among more s) (is_among more t) (among_grows s p.0) (among_grows t p.1)
  ends_stay (Undirected l m) h =
      let p = and_parts (is_among nodes l && is_among nodes m) (leb l.0 m.0) h in
      let q = and_parts (is_among nodes l) (is_among nodes m) p.0 in
      and_from (is_among more l && is_among more m) (leb l.0 m.0) (and_from (is_among more l) (is_among more m) (among_grows l q.0) (among_grows m q.1)) p.1

  pub edge_stays : (r : EdgeRecord) → is_edge_record nodes r ≡ true → is_edge_record more r ≡ true
  edge_stays r h =
      let p = and_parts (texts_ascend r.labels && are_properties r.properties) (are_ends nodes r.ends) h in
      and_from (texts_ascend r.labels && are_properties r.properties) (are_ends more r.ends) p.0 (ends_stay r.ends p.1)

-- ---- a node more, an edge more

pub graph_node : (g : PropertyGraph) (r : NodeRecord) → IsGraph g → is_node_record r ≡ true → ((x : NodeRecord) → Has g.nodes x → x.number.0 < r.number.0) → 0 < r.number.0 → r.number.0 < g.next_node → IsGraph (and_node r g)
graph_node g r is fits above some below = record {
  node_order = ap (λ (ns : List ℕ). numbers_ascend 0 ns g.next_node) (map_push node_number g.nodes r) ∙ numbers_push 0 (map node_number g.nodes) r.number.0 g.next_node is.node_order numbers some below;
  node_limit = is.node_limit;
  nodes_fit = nodes;
  edge_order = is.edge_order;
  edge_limit = is.edge_limit;
  edges_fit = λ e h. edge_stays g.nodes (g.nodes ++ r ∷ []) (λ x k. has_left g.nodes (r ∷ []) x k) e (is.edges_fit e h);
}
  where
    numbers : (n : ℕ) → Has (map node_number g.nodes) n → n < r.number.0
    numbers n h = let b = has_map_back node_number g.nodes n h in let lt = above b.0 b.1 in let same = b.2 in omega arith

    nodes : (x : NodeRecord) → Has (g.nodes ++ r ∷ []) x → is_node_record x ≡ true
    nodes x h = elim (has_push g.nodes r x h) [ inl a ↦ is.nodes_fit x a | inr a ↦ ap is_node_record a ∙ fits ]

pub graph_edge : (g : PropertyGraph) (r : EdgeRecord) → IsGraph g → is_edge_record g.nodes r ≡ true → ((x : EdgeRecord) → Has g.edges x → x.number.0 < r.number.0) → 0 < r.number.0 → r.number.0 < g.next_edge → IsGraph (and_edge r g)
graph_edge g r is fits above some below = record {
  node_order = is.node_order;
  node_limit = is.node_limit;
  nodes_fit = is.nodes_fit;
  edge_order = ap (λ (ns : List ℕ). numbers_ascend 0 ns g.next_edge) (map_push edge_number g.edges r) ∙ numbers_push 0 (map edge_number g.edges) r.number.0 g.next_edge is.edge_order numbers some below;
  edge_limit = is.edge_limit;
  edges_fit = edges;
}
  where
    numbers : (n : ℕ) → Has (map edge_number g.edges) n → n < r.number.0
    numbers n h = let b = has_map_back edge_number g.edges n h in let lt = above b.0 b.1 in let same = b.2 in omega arith

    edges : (x : EdgeRecord) → Has (g.edges ++ r ∷ []) x → is_edge_record g.nodes x ≡ true
    edges x h = elim (has_push g.edges r x h) [ inl a ↦ is.edges_fit x a | inr a ↦ ap (is_edge_record g.nodes) a ∙ fits ]

-- ---- types by their name

of_type : (o : Option GraphType) (g : PropertyGraph) → conforms_to g o ≡ true → (t : GraphType) × (o ≡ Some t) × (conforms g t ≡ true)
of_type None g h = absurd (cc)
of_type (Some t) g h = (t, refl, h)

-- the type is there, and the graph conforms to it
pub kind_type : (types : List (List ℕ × GraphType)) (g : PropertyGraph) (name : List ℕ) → fits_kind types g (Some name) ≡ true → (t : GraphType) × (named name types ≡ Some t) × (conforms g t ≡ true)
kind_type types g name h = of_type (named name types) g h

pub kind_from : (types : List (List ℕ × GraphType)) (g : PropertyGraph) (name : List ℕ) (t : GraphType) → named name types ≡ Some t → conforms g t ≡ true → fits_kind types g (Some name) ≡ true
kind_from types g name t is h = ap (λ (o : Option GraphType). conforms_to g o) is ∙ h

passing : (test : GraphType → Bool) (o : Option GraphType) → by_type test o ≡ true → (t : GraphType) × (o ≡ Some t) × (test t ≡ true)
passing test None h = absurd (cc)
passing test (Some t) h = (t, refl, h)

pub passes : (test : GraphType → Bool) (types : List (List ℕ × GraphType)) (name : List ℕ) → passes_type test types (Some name) ≡ true → (t : GraphType) × (named name types ≡ Some t) × (test t ≡ true)
passes test types name h = passing test (named name types) h

pub passes_from : (test : GraphType → Bool) (types : List (List ℕ × GraphType)) (name : List ℕ) (t : GraphType) → named name types ≡ Some t → test t ≡ true → passes_type test types (Some name) ≡ true
passes_from test types name t is h = ap (by_type test) is ∙ h

-- ---- a catalog

pub record Sound (c : CatalogData) : Type 0 where
  pub graph_names : texts_ascend (names c.graphs) ≡ true
  pub type_names : texts_ascend (names c.types) ≡ true
  pub types_fit : (t : List ℕ × GraphType) → Has c.types t → is_graph_type t.1 ≡ true
  pub graphs_fit : (p : List ℕ × CatalogGraph) → Has c.graphs p → IsGraph p.1.graph
  pub kinds_fit : (p : List ℕ × CatalogGraph) → Has c.graphs p → fits_kind c.types p.1.graph p.1.kind ≡ true

abbrev type_test : List ℕ × GraphType → Bool
type_test t = is_graph_type t.1

abbrev graph_test : List ℕ × CatalogGraph → Bool
graph_test g = is_graph g.1.graph

abbrev kind_test : CatalogData → List ℕ × CatalogGraph → Bool
kind_test c g = fits_kind c.types g.1.graph g.1.kind

pub sound_facts : (c : CatalogData) → is_sound c ≡ true → Sound c
sound_facts c is =
    let p = and_parts (is_catalog c && list_all type_test c.types) (list_all (kind_test c) c.graphs) is in
    let q = and_parts (is_catalog c) (list_all type_test c.types) p.0 in
    let r = and_parts (texts_ascend (names c.graphs) && texts_ascend (names c.types)) (list_all graph_test c.graphs) q.0 in
    let s = and_parts (texts_ascend (names c.graphs)) (texts_ascend (names c.types)) r.0 in
    record {
      graph_names = s.0;
      type_names = s.1;
      types_fit = λ t h. all_has type_test c.types t q.1 h;
      graphs_fit = λ g h. graph_facts g.1.graph (all_has graph_test c.graphs g r.1 h);
      kinds_fit = λ g h. all_has (kind_test c) c.graphs g p.1 h;
    }

pub sound_from : (c : CatalogData) → Sound c → is_sound c ≡ true
sound_from c is =
    and_from (is_catalog c && list_all type_test c.types) (list_all (kind_test c) c.graphs)
    (and_from (is_catalog c) (list_all type_test c.types)
    (and_from (texts_ascend (names c.graphs) && texts_ascend (names c.types)) (list_all graph_test c.graphs)
    (and_from (texts_ascend (names c.graphs)) (texts_ascend (names c.types)) is.graph_names is.type_names) (all_from graph_test c.graphs (λ g h. graph_from g.1.graph (is.graphs_fit g h))))
    (all_from type_test c.types is.types_fit))
    (all_from (kind_test c) c.graphs is.kinds_fit)
