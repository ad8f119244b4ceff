-- In a list that tells all that is said of a sound catalog, in the order of keys, each form may follow those before it.
use Rattle.std.proofs.Common.{◌≡◌, ◌≢◌, ℕ, ◌∙◌, ◌<◌, ltb, eqb, Bool, true, false, ◌&&◌, List, [], ◌∷◌, ◌++◌, map, Option, Some, None, refl, sym, ap, subst, append_assoc, arith, inl, inr, ◌⊎◌}
use Rattle.std.specs.Prelude.{find}
use Rattle.std.proofs.lemmas.Bool.{ltb-true, eqb-true, and_parts}
use Rattle.gql_values3.specs.Lookup.{node_of}
use Rattle.gql_values3.specs.Texts.{texts_ascend}
use Rattle.gql_values3.specs.PropertyGraph.{PropertyGraph, are_ends, are_properties}
use Rattle.gql_values3.specs.declared.element.NodeId.{NodeId}
use Rattle.gql_values3.specs.declared.records.NodeRecord.{NodeRecord}
use Rattle.gql_values3.specs.declared.records.EdgeRecord.{EdgeRecord}
use Rattle.gql_graph.specs.Catalog.{CatalogGraph, CatalogData, named, held_in}
use Rattle.gql_type.specs.SoundCatalog.{fits_kind}
use Rattle.gql_graph.specs.declared.graph_type.GraphType.{GraphType}
use Rattle.gql_type.specs.Conformance.{node_fits, edge_fits, conforms}
use Rattle.gql_rowcode.specs.Records.{Form, version, graph_type, graph, node, edge}
use Rattle.gql_rowcode.specs.FirstBad.{described, passes_type, JoinsAsNode, JoinsAsEdge, Follows}
use Rattle.gql_rowcode.proofs.MemberLemmas.{Has, find_has}
use Rattle.gql_rowcode.proofs.NameLemmas.{named_has, has_named, one_named, names_in_order}
use Rattle.gql_rowcode.proofs.NumberLemmas.{numbers_bound, number_within, numbers_in_order, find_number}
use Rattle.gql_rowcode.proofs.FittingLemmas.{Grows, conforms_nodes, conforms_edges, edge_fits_grow}
use Rattle.gql_rowcode.proofs.SoundLemmas.{IsGraph, Sound, node_number, edge_number, ends_stay, kind_type, passes_from}
use Rattle.gql_rowcode.proofs.SaidLemmas.{Says}
use Rattle.gql_rowcode.proofs.KeyLemmas.{ComesBefore}
use Rattle.gql_rowcode.proofs.DescribedLemmas.{Describes}

-- nothing comes before the version
pub none_before_version : (g : Form) → ComesBefore g version → ⊥
none_before_version version lt = absurd (cc)
none_before_version (graph_type name t) lt = absurd (cc)
none_before_version (graph name k n e) lt = absurd (cc)
none_before_version (node name r) lt = absurd (cc)
none_before_version (edge name r) lt = absurd (cc)

-- c is the catalog, and before is what was told up to the form f
module _ (c : CatalogData) (sound : Sound c) (before : List Form) (so_far : Describes before (described before)) (in_c : (g : Form) → Has before g → Says c g) where
  abbrev d : CatalogData
  d = described before

  module _ (f : Form) (earlier : (g : Form) → Says c g → ComesBefore g f → Has before g) where
    some_before : ComesBefore version f → before ≢ []
    some_before lt none = subst (λ (fs : List Form). Has fs version) none (earlier version tt lt)

    -- a type that is told already is the catalog's
    type_told : (name : List ℕ) (t : GraphType) → ComesBefore (graph_type name t) f → named name c.types ≡ Some t → named name d.types ≡ Some t
    type_told name t lt e = has_named name d.types t (names_in_order d.types so_far.sound.type_names) (so_far.said (graph_type name t) (earlier (graph_type name t) (named_has name c.types t e) lt))

    type_passes : (test : GraphType → Bool) (g : PropertyGraph) (k : Option (List ℕ)) → ((name : List ℕ) (t : GraphType) → ComesBefore (graph_type name t) f) → fits_kind c.types g k ≡ true → ((t : GraphType) → conforms g t ≡ true → test t ≡ true) → passes_type test d.types k ≡ true
    type_passes test g None lt fits pass = refl
    type_passes test g (Some name) lt fits pass =
        let t = kind_type c.types g name fits in
        passes_from test d.types name t.0 (type_told name t.0 (lt name t.0) t.1) (pass t.0 t.2)

    -- a graph that is told already is the catalog's, as far as it is told
    abbrev GraphTold : List ℕ → CatalogGraph → Type 0
    GraphTold name g = (h : CatalogGraph) × Has d.graphs (name, h) × (h.kind ≡ g.kind) × (h.graph.next_node ≡ g.graph.next_node) × (h.graph.next_edge ≡ g.graph.next_edge)

    graph_told : (name : List ℕ) (g : CatalogGraph) → Has c.graphs (name, g) → ((k : Option (List ℕ)) (n e : ℕ) → ComesBefore (graph name k n e) f) → GraphTold name g
    graph_told name g there lt =
        so_far.said (graph name g.kind g.graph.next_node g.graph.next_edge) (earlier (graph name g.kind g.graph.next_node g.graph.next_edge) (g, there, refl, refl, refl) (lt g.kind g.graph.next_node g.graph.next_edge))

    held_told : (name : List ℕ) (h : CatalogGraph) → Has d.graphs (name, h) → held_in d name ≡ Some h
    held_told name h there = has_named name d.graphs h (names_in_order d.graphs so_far.sound.graph_names) there

    node_told : (name : List ℕ) (g h : CatalogGraph) (x : NodeRecord) → Has c.graphs (name, g) → Has d.graphs (name, h) → ComesBefore (node name x) f → Has g.graph.nodes x → Has h.graph.nodes x
    node_told name g h x there told lt k =
        let s = so_far.said (node name x) (earlier (node name x) (g, there, k) lt) in
        subst (λ (w : CatalogGraph). Has w.graph.nodes x) (one_named name d.graphs s.0 h (names_in_order d.graphs so_far.sound.graph_names) s.1 told) s.2

  type_follows : (name : List ℕ) (t : GraphType) → ((g : Form) → Says c g → ComesBefore g (graph_type name t) → Has before g) → Says c (graph_type name t) → Follows before (graph_type name t)
  type_follows name t earlier s = (some_before (graph_type name t) earlier refl, sound.types_fit (name, t) s)

  graph_follows : (name : List ℕ) (k : Option (List ℕ)) (n e : ℕ) → ((g : Form) → Says c g → ComesBefore g (graph name k n e) → Has before g) → Says c (graph name k n e) → Follows before (graph name k n e)
  graph_follows name k n e earlier s =
      let g : IsGraph s.0.graph = sound.graphs_fit (name, s.0) s.1 in
      let pass = type_passes (graph name k n e) earlier (λ t. true) s.0.graph s.0.kind (λ m t. refl) (sound.kinds_fit (name, s.0) s.1) (λ t h. refl) in
      let n_is = s.3 in
      let e_is = s.4 in
      let n_some = numbers_bound 0 (map node_number s.0.graph.nodes) s.0.graph.next_node g.node_order in
      let e_some = numbers_bound 0 (map edge_number s.0.graph.edges) s.0.graph.next_edge g.edge_order in
      (some_before (graph name k n e) earlier refl, ap (passes_type (λ t. true) d.types) (sym s.2) ∙ pass, omega arith, omega arith)

  node_follows : (name : List ℕ) (r : NodeRecord) → ((g : Form) → Says c g → ComesBefore g (node name r) → Has before g) → Says c (node name r) → Follows before (node name r)
  node_follows name r earlier s =
      let g : IsGraph s.0.graph = sound.graphs_fit (name, s.0) s.1 in
      let told = graph_told (node name r) earlier name s.0 s.1 (λ k n e. refl) in
      let pass = type_passes (node name r) earlier (λ t. node_fits t r) s.0.graph s.0.kind (λ m t. refl) (sound.kinds_fit (name, s.0) s.1) (λ t h. conforms_nodes s.0.graph t h r s.2) in
      let within = number_within node_number s.0.graph.nodes 0 s.0.graph.next_node g.node_order r s.2 in
      let n_is = told.3 in
      let below : r.number.0 < told.0.graph.next_node = (let lt = within.1 in omega arith) in
      let joins : JoinsAsNode d.types r (Some told.0) = (within.0, below, ap (passes_type (λ t. node_fits t r) d.types) told.2 ∙ pass) in
      subst (JoinsAsNode d.types r) (sym (held_told (node name r) earlier name told.0 told.1)) joins

  module _ (name : List ℕ) (r : EdgeRecord) (earlier : (g : Form) → Says c g → ComesBefore g (edge name r) → Has before g) where
    ends_there : (g h : CatalogGraph) → Has c.graphs (name, g) → Has d.graphs (name, h) → are_ends g.graph.nodes r.ends ≡ true → are_ends h.graph.nodes r.ends ≡ true
    ends_there g h there told ends = ends_stay g.graph.nodes h.graph.nodes (λ x k. node_told (edge name r) earlier name g h x there told refl k) r.ends ends

    found_there : (g h : CatalogGraph) → Has c.graphs (name, g) → Has d.graphs (name, h) → Grows g.graph h.graph
    found_there g h there told n x e =
        let f = find_has (λ (y : NodeRecord). eqb y.number.0 n.0) g.graph.nodes x e in
        let is : IsGraph h.graph = so_far.sound.graphs_fit (name, h) told in
        find_number node_number h.graph.nodes n.0 x (numbers_in_order node_number h.graph.nodes 0 h.graph.next_node is.node_order) (node_told (edge name r) earlier name g h x there told refl f.0) (eqb-true x.number.0 n.0 f.1)

    edge_follows : Says c (edge name r) → Follows before (edge name r)
    edge_follows s =
        let g : IsGraph s.0.graph = sound.graphs_fit (name, s.0) s.1 in
        let told = graph_told (edge name r) earlier name s.0 s.1 (λ k n e. refl) in
        let grow = found_there s.0 told.0 s.1 told.1 in
        let pass = type_passes (edge name r) earlier (λ t. edge_fits told.0.graph t r) s.0.graph s.0.kind (λ m t. refl) (sound.kinds_fit (name, s.0) s.1) (λ t h. edge_fits_grow s.0.graph told.0.graph grow t r (conforms_edges s.0.graph t h r s.2)) in
        let within = number_within edge_number s.0.graph.edges 0 s.0.graph.next_edge g.edge_order r s.2 in
        let ends = (and_parts (texts_ascend r.labels && are_properties r.properties) (are_ends s.0.graph.nodes r.ends) (g.edges_fit r s.2)).1 in
        let e_is = told.4 in
        let below : r.number.0 < told.0.graph.next_edge = (let lt = within.1 in omega arith) in
        let joins : JoinsAsEdge d.types r (Some told.0) = (within.0, below, ends_there s.0 told.0 s.1 told.1 ends, ap (passes_type (λ t. edge_fits told.0.graph t r) d.types) told.2 ∙ pass) in
        subst (JoinsAsEdge d.types r) (sym (held_told (edge name r) earlier name told.0 told.1)) joins

  -- what is said of the catalog may follow what comes before it
  pub follows_told : (f : Form) → ((g : Form) → Has before g → ComesBefore g f) → ((g : Form) → Says c g → ComesBefore g f → Has before g) → Says c f → Follows before f
  follows_told version in_front earlier s = nothing before in_front
    where
      nothing : (fs : List Form) → ((g : Form) → Has fs g → ComesBefore g version) → fs ≡ []
      nothing [] none = refl
      nothing (g ∷ gs) none = absurd (none_before_version g (none g (inl refl)))
  follows_told (graph_type name t) in_front earlier s = type_follows name t earlier s
  follows_told (graph name k n e) in_front earlier s = graph_follows name k n e earlier s
  follows_told (node name r) in_front earlier s = node_follows name r earlier s
  follows_told (edge name r) in_front earlier s = edge_follows name r earlier s
