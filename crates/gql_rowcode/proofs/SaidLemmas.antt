-- What a catalog says, and what it says once a form more is told.
use Rattle.std.proofs.Common.{◌≡◌, ℕ, ◌∙◌, cond, Bool, true, false, List, [], ◌∷◌, ◌++◌, map, Option, Some, refl, sym, ap, subst, inl, inr, ◌⊎◌}
use Rattle.std.specs.List.{flat_map}
use Rattle.gql_values3.specs.Texts.{same_text}
use Rattle.gql_values3.specs.PropertyGraph.{PropertyGraph}
use Rattle.gql_values3.specs.declared.records.NodeRecord.{NodeRecord}
use Rattle.gql_values3.specs.declared.records.EdgeRecord.{EdgeRecord}
use Rattle.gql_values3.proofs.WordLemmas.{same_is}
use Rattle.gql_graph.specs.Catalog.{CatalogGraph, CatalogData, held_in}
use Rattle.gql_graph.specs.declared.graph_type.GraphType.{GraphType}
use Rattle.gql_rowcode.specs.Records.{Form, version, graph_type, graph, node, edge}
use Rattle.gql_rowcode.specs.StandFor.{graph_forms, catalog_forms}
use Rattle.gql_rowcode.specs.FirstBad.{and_node, and_edge, on_graph, with_form}
use Rattle.gql_rowcode.proofs.MemberLemmas.{Has, has_left, has_right, has_either, has_push, has_last, has_map, has_map_back, has_flat_map, has_flat_map_back}
use Rattle.gql_rowcode.proofs.NameLemmas.{text_same, named_has, put_back, put_keeps, put_has}

-- it is said of the catalog
abbrev pub Says : CatalogData → Form → Type 0
Says c version = Unit {0}
Says c (graph_type name t) = Has c.types (name, t)
Says c (graph name kind next_node next_edge) = (g : CatalogGraph) × Has c.graphs (name, g) × (g.kind ≡ kind) × (g.graph.next_node ≡ next_node) × (g.graph.next_edge ≡ next_edge)
Says c (node name r) = (g : CatalogGraph) × Has c.graphs (name, g) × Has g.graph.nodes r
Says c (edge name r) = (g : CatalogGraph) × Has c.graphs (name, g) × Has g.graph.edges r

abbrev type_form : List ℕ × GraphType → Form
type_form t = graph_type t.0 t.1

pub graph_says : (c : CatalogData) (p : List ℕ × CatalogGraph) (f : Form) → Has c.graphs p → Has (graph_forms p) f → Says c f
graph_says c p f h (inl e) = subst (Says c) (sym e) (p.1, h, refl, refl, refl)
graph_says c p f h (inr k) =
    elim (has_either (map (node p.0) p.1.graph.nodes) (map (edge p.0) p.1.graph.edges) f k) [
      | inl a ↦ let b = has_map_back (node p.0) p.1.graph.nodes f a in subst (Says c) (sym b.2) (p.1, h, b.1)
      | inr a ↦ let b = has_map_back (edge p.0) p.1.graph.edges f a in subst (Says c) (sym b.2) (p.1, h, b.1)
    ]

-- these are its forms
pub says_form : (c : CatalogData) (f : Form) → Has (catalog_forms c) f → Says c f
says_form c f (inl e) = subst (Says c) (sym e) tt
says_form c f (inr h) =
    elim (has_either (map type_form c.types) (flat_map graph_forms c.graphs) f h) [
      | inl a ↦ let b = has_map_back type_form c.types f a in subst (Says c) (sym b.2) b.1
      | inr a ↦ let b = has_flat_map_back graph_forms c.graphs f a in graph_says c b.0 f b.1 b.2
    ]

pub in_graph : (c : CatalogData) (p : List ℕ × CatalogGraph) (f : Form) → Has c.graphs p → Has (graph_forms p) f → Has (catalog_forms c) f
in_graph c p f h k = inr (has_right (map type_form c.types) (flat_map graph_forms c.graphs) f (has_flat_map graph_forms c.graphs p f h k))

pub form_says : (c : CatalogData) (f : Form) → Says c f → Has (catalog_forms c) f
form_says c version s = inl refl
form_says c (graph_type name t) s = inr (has_left (map type_form c.types) (flat_map graph_forms c.graphs) (graph_type name t) (has_map type_form c.types (name, t) s))
form_says c (graph name kind n e) s =
    let kind_is = s.2 in
    let n_is = s.3 in
    let e_is = s.4 in
    let same : graph name kind n e ≡ graph name s.0.kind s.0.graph.next_node s.0.graph.next_edge = cc in
    in_graph c (name, s.0) (graph name kind n e) s.1 (inl same)
form_says c (node name r) s = in_graph c (name, s.0) (node name r) s.1 (inr (has_left (map (node name) s.0.graph.nodes) (map (edge name) s.0.graph.edges) (node name r) (has_map (node name) s.0.graph.nodes r s.2)))
form_says c (edge name r) s = in_graph c (name, s.0) (edge name r) s.1 (inr (has_right (map (node name) s.0.graph.nodes) (map (edge name) s.0.graph.edges) (edge name r) (has_map (edge name) s.0.graph.edges r s.2)))

-- ---- the graph of a name changed

abbrev pub changed : (PropertyGraph → PropertyGraph) → CatalogGraph → CatalogGraph
changed change g = record { graph = change g.graph; kind = g.kind }

abbrev pub on_held : Bool → (PropertyGraph → PropertyGraph) → CatalogGraph → CatalogGraph
on_held true change g = changed change g
on_held false change g = g

module _ (name : List ℕ) (change : PropertyGraph → PropertyGraph) where
  abbrev pub on_one : List ℕ × CatalogGraph → List ℕ × CatalogGraph
  on_one p = cond (same_text name p.0) (p.0, record { graph = change p.1.graph; kind = p.1.kind }) p

  on_case : (b : Bool) (p : List ℕ × CatalogGraph) → cond b (p.0, changed change p.1) p ≡ (p.0, on_held b change p.1)
  on_case true p = refl
  on_case false p = refl

  pub on_is : (p : List ℕ × CatalogGraph) → on_one p ≡ (p.0, on_held (same_text name p.0) change p.1)
  on_is p = on_case (same_text name p.0) p

  -- a graph of the changed catalog, and one of the old one
  pub graph_before : (c : CatalogData) (m : List ℕ) (h : CatalogGraph) → Has (on_graph name change c).graphs (m, h) → (g : CatalogGraph) × Has c.graphs (m, g) × (h ≡ on_held (same_text name m) change g)
  graph_before c m h k =
      let b = has_map_back on_one c.graphs (m, h) k in
      let e : (m, h) ≡ (b.0.0, on_held (same_text name b.0.0) change b.0.1) = b.2 ∙ on_is b.0 in
      let name_is : m ≡ b.0.0 = ap (λ (p : List ℕ × CatalogGraph). p.0) e in
      let graph_is : h ≡ on_held (same_text name b.0.0) change b.0.1 = ap (λ (p : List ℕ × CatalogGraph). p.1) e in
      (b.0.1, subst (λ (k : List ℕ). Has c.graphs (k, b.0.1)) (sym name_is) b.1, graph_is ∙ ap (λ (k : List ℕ). on_held (same_text name k) change b.0.1) (sym name_is))

  pub graph_behind : (c : CatalogData) (m : List ℕ) (g : CatalogGraph) → Has c.graphs (m, g) → Has (on_graph name change c).graphs (m, on_held (same_text name m) change g)
  graph_behind c m g h = subst (Has (on_graph name change c).graphs) (on_is (m, g)) (has_map on_one c.graphs (m, g) h)

  -- what a change keeps
  pub kept : {Y : Type 0} (v : CatalogGraph → Y) → ((g : CatalogGraph) → v (changed change g) ≡ v g) → (b : Bool) (g : CatalogGraph) → v (on_held b change g) ≡ v g
  kept v same true g = same g
  kept v same false g = refl

  module _ (c : CatalogData) where
    -- a number or a name that the change keeps
    pub kept_before : {Y : Type 0} (v : CatalogGraph → Y) (y : Y) → ((g : CatalogGraph) → v (changed change g) ≡ v g) → (m : List ℕ) (h g : CatalogGraph) → h ≡ on_held (same_text name m) change g → v h ≡ y → v g ≡ y
    kept_before v y same m h g is e = sym (kept v same (same_text name m) g) ∙ sym (ap v is) ∙ e

    pub graph_said_back : ((g : PropertyGraph) → (change g).next_node ≡ g.next_node) → ((g : PropertyGraph) → (change g).next_edge ≡ g.next_edge) → (m : List ℕ) (k : Option (List ℕ)) (x y : ℕ) → Says (on_graph name change c) (graph m k x y) → Says c (graph m k x y)
    graph_said_back same_n same_e m k x y s =
        let b = graph_before c m s.0 s.1 in (
          b.0,
          b.1,
          kept_before (λ g. g.kind) k (λ g. refl) m s.0 b.0 b.2 s.2,
          kept_before (λ g. g.graph.next_node) x (λ g. same_n g.graph) m s.0 b.0 b.2 s.3,
          kept_before (λ g. g.graph.next_edge) y (λ g. same_e g.graph) m s.0 b.0 b.2 s.4,
        )

    pub graph_still_said : ((g : PropertyGraph) → (change g).next_node ≡ g.next_node) → ((g : PropertyGraph) → (change g).next_edge ≡ g.next_edge) → (m : List ℕ) (k : Option (List ℕ)) (x y : ℕ) → Says c (graph m k x y) → Says (on_graph name change c) (graph m k x y)
    graph_still_said same_n same_e m k x y s = (
      on_held (same_text name m) change s.0,
      graph_behind c m s.0 s.1,
      kept (λ g. g.kind) (λ g. refl) (same_text name m) s.0 ∙ s.2,
      kept (λ g. g.graph.next_node) (λ g. same_n g.graph) (same_text name m) s.0 ∙ s.3,
      kept (λ g. g.graph.next_edge) (λ g. same_e g.graph) (same_text name m) s.0 ∙ s.4,
    )

-- what may be told of it next: what names a graph names one that is there
abbrev pub Names : CatalogData → Form → Type 0
Names c (node name r) = (g : CatalogGraph) × (held_in c name ≡ Some g)
Names c (edge name r) = (g : CatalogGraph) × (held_in c name ≡ Some g)
Names c _ = Unit {0}

-- ---- a node or an edge more

-- one of the nodes, or of the edges, of a graph of this name
abbrev IsPart : {R : Type 0} → (PropertyGraph → List R) → CatalogData → List ℕ → R → Type 0
IsPart part c m x = (g : CatalogGraph) × Has c.graphs (m, g) × Has (part g.graph) x

module _ (c : CatalogData) (name : List ℕ) (change : PropertyGraph → PropertyGraph) {R : Type 0} (part : PropertyGraph → List R) where
  abbrev after : CatalogData
  after = on_graph name change c

  -- the change leaves them
  module _ (same : (g : PropertyGraph) → part (change g) ≡ part g) where
    same_part : (m : List ℕ) (g : CatalogGraph) → part (on_held (same_text name m) change g).graph ≡ part g.graph
    same_part m g = kept name change (λ g. part g.graph) (λ g. same g.graph) (same_text name m) g

    same_back : (m : List ℕ) (x : R) → IsPart part after m x → IsPart part c m x
    same_back m x s =
        let b = graph_before name change c m s.0 s.1 in
        (b.0, b.1, subst (λ (rs : List R). Has rs x) (same_part m b.0) (subst (λ (w : CatalogGraph). Has (part w.graph) x) b.2 s.2))

    same_still : (m : List ℕ) (x : R) → IsPart part c m x → IsPart part after m x
    same_still m x s = (on_held (same_text name m) change s.0, graph_behind name change c m s.0 s.1, subst (λ (rs : List R). Has rs x) (sym (same_part m s.0)) s.2)

  -- the change adds one
  module _ (form : List ℕ → R → Form) (r : R) (more : (g : PropertyGraph) → part (change g) ≡ part g ++ r ∷ []) where
    more_case : (b : Bool) (m : List ℕ) (x : R) (g h : CatalogGraph) → same_text name m ≡ b → h ≡ on_held b change g → Has c.graphs (m, g) → Has (part h.graph) x → IsPart part c m x ⊎ (form m x ≡ form name r)
    more_case true m x g h e is there k =
        elim (has_push (part g.graph) r x (subst (λ (rs : List R). Has rs x) (more g.graph) (subst (λ (w : CatalogGraph). Has (part w.graph) x) is k))) [
          | inl a ↦ inl (g, there, a)
          | inr a ↦ inr (ap (form m) a ∙ ap (λ (n : List ℕ). form n r) (sym (same_is name m e)))
        ]
    more_case false m x g h e is there k = inl (g, there, subst (λ (w : CatalogGraph). Has (part w.graph) x) is k)

    more_back : (m : List ℕ) (x : R) → IsPart part after m x → IsPart part c m x ⊎ (form m x ≡ form name r)
    more_back m x s =
        let b = graph_before name change c m s.0 s.1 in
        more_case (same_text name m) m x b.0 s.0 refl b.2 b.1 s.2

    more_stays : (b : Bool) (x : R) (g : CatalogGraph) → Has (part g.graph) x → Has (part (on_held b change g).graph) x
    more_stays true x g h = subst (λ (rs : List R). Has rs x) (sym (more g.graph)) (has_left (part g.graph) (r ∷ []) x h)
    more_stays false x g h = h

    more_still : (m : List ℕ) (x : R) → IsPart part c m x → IsPart part after m x
    more_still m x s = (on_held (same_text name m) change s.0, graph_behind name change c m s.0 s.1, more_stays (same_text name m) x s.0 s.2)

    more_new : (g : CatalogGraph) → held_in c name ≡ Some g → IsPart part after name r
    more_new g e =
        let there = graph_behind name change c name g (named_has name c.graphs g e) in
        let is : on_held (same_text name name) change g ≡ changed change g = ap (λ (b : Bool). on_held b change g) (text_same name) in
        (changed change g, subst (λ (h : CatalogGraph). Has after.graphs (name, h)) is there, subst (λ (rs : List R). Has rs r) (sym (more g.graph)) (has_last (part g.graph) r))

abbrev nodes_in : PropertyGraph → List NodeRecord
nodes_in g = g.nodes

abbrev edges_in : PropertyGraph → List EdgeRecord
edges_in g = g.edges

-- a form, by what becomes of nodes and of edges
module _ (c : CatalogData) (name : List ℕ) (change : PropertyGraph → PropertyGraph) (same_n : (g : PropertyGraph) → (change g).next_node ≡ g.next_node) (same_e : (g : PropertyGraph) → (change g).next_edge ≡ g.next_edge) where
  back : (told : Form) → ((m : List ℕ) (x : NodeRecord) → Says (on_graph name change c) (node m x) → Says c (node m x) ⊎ (node m x ≡ told))
      → ((m : List ℕ) (x : EdgeRecord) → Says (on_graph name change c) (edge m x) → Says c (edge m x) ⊎ (edge m x ≡ told))
      → (f : Form) → Says (on_graph name change c) f → Says c f ⊎ (f ≡ told)
  back told of_node of_edge version s = inl tt
  back told of_node of_edge (graph_type m t) s = inl s
  back told of_node of_edge (graph m k x y) s = inl (graph_said_back name change c same_n same_e m k x y s)
  back told of_node of_edge (node m x) s = of_node m x s
  back told of_node of_edge (edge m x) s = of_edge m x s

  still : ((m : List ℕ) (x : NodeRecord) → Says c (node m x) → Says (on_graph name change c) (node m x)) → ((m : List ℕ) (x : EdgeRecord) → Says c (edge m x) → Says (on_graph name change c) (edge m x))
      → (f : Form) → Says c f → Says (on_graph name change c) f
  still of_node of_edge version s = tt
  still of_node of_edge (graph_type m t) s = s
  still of_node of_edge (graph m k x y) s = graph_still_said name change c same_n same_e m k x y s
  still of_node of_edge (node m x) s = of_node m x s
  still of_node of_edge (edge m x) s = of_edge m x s

-- ---- a type or a graph more

module _ (c : CatalogData) (name : List ℕ) (t : GraphType) where
  type_back : (f : Form) → Says (with_form c (graph_type name t)) f → Says c f ⊎ (f ≡ graph_type name t)
  type_back version s = inl tt
  type_back (graph_type m u) s =
      elim (put_back name t c.types (m, u) s) [
        | inl a ↦ inl a
        | inr a ↦ inr (ap (λ (p : List ℕ × GraphType). graph_type p.0 p.1) a)
      ]
  type_back (graph m k x y) s = inl s
  type_back (node m x) s = inl s
  type_back (edge m x) s = inl s

  type_still : (f : Form) → Says c f → Says (with_form c (graph_type name t)) f
  type_still version s = tt
  type_still (graph_type m u) s = put_keeps name t c.types (m, u) s
  type_still (graph m k x y) s = s
  type_still (node m x) s = s
  type_still (edge m x) s = s

module _ (c : CatalogData) (name : List ℕ) (kind : Option (List ℕ)) (n e : ℕ) where
  abbrev new_graph : CatalogGraph
  new_graph = record { graph = record { nodes = []; edges = []; next_node = n; next_edge = e }; kind = kind }

  graph_back : (f : Form) → Says (with_form c (graph name kind n e)) f → Says c f ⊎ (f ≡ graph name kind n e)
  graph_back version s = inl tt
  graph_back (graph_type m u) s = inl s
  graph_back (graph m k x y) s =
      elim (put_back name new_graph c.graphs (m, s.0) s.1) [
        | inl a ↦ inl (s.0, a, s.2, s.3, s.4)
        | inr a ↦
            let m_is : m ≡ name = ap (λ (p : List ℕ × CatalogGraph). p.0) a in
            let g_is : s.0 ≡ new_graph = ap (λ (p : List ℕ × CatalogGraph). p.1) a in
            let k_is : k ≡ kind = sym s.2 ∙ ap (λ (g : CatalogGraph). g.kind) g_is in
            let x_is : x ≡ n = sym s.3 ∙ ap (λ (g : CatalogGraph). g.graph.next_node) g_is in
            let y_is : y ≡ e = sym s.4 ∙ ap (λ (g : CatalogGraph). g.graph.next_edge) g_is in
            inr (cc)
      ]
  graph_back (node m x) s =
      elim (put_back name new_graph c.graphs (m, s.0) s.1) [
        | inl a ↦ inl (s.0, a, s.2)
        | inr a ↦ absurd (subst (λ (p : List ℕ × CatalogGraph). Has p.1.graph.nodes x) a s.2)
      ]
  graph_back (edge m x) s =
      elim (put_back name new_graph c.graphs (m, s.0) s.1) [
        | inl a ↦ inl (s.0, a, s.2)
        | inr a ↦ absurd (subst (λ (p : List ℕ × CatalogGraph). Has p.1.graph.edges x) a s.2)
      ]

  graph_still : (f : Form) → Says c f → Says (with_form c (graph name kind n e)) f
  graph_still version s = tt
  graph_still (graph_type m u) s = s
  graph_still (graph m k x y) s = (s.0, put_keeps name new_graph c.graphs (m, s.0) s.1, s.2, s.3, s.4)
  graph_still (node m x) s = (s.0, put_keeps name new_graph c.graphs (m, s.0) s.1, s.2)
  graph_still (edge m x) s = (s.0, put_keeps name new_graph c.graphs (m, s.0) s.1, s.2)

-- ---- a form more is one thing more that is said

pub said_before : (c : CatalogData) (f g : Form) → Says (with_form c f) g → Says c g ⊎ (g ≡ f)
said_before c version g s = inl s
said_before c (graph_type name t) g s = type_back c name t g s
said_before c (graph name kind n e) g s = graph_back c name kind n e g s
said_before c (node name r) g s =
    back c name (and_node r) (λ g. refl) (λ g. refl) (node name r) (more_back c name (and_node r) nodes_in node r (λ g. refl)) (λ m x h. inl (same_back c name (and_node r) edges_in (λ g. refl) m x h)) g s
said_before c (edge name r) g s =
    back c name (and_edge r) (λ g. refl) (λ g. refl) (edge name r) (λ m x h. inl (same_back c name (and_edge r) nodes_in (λ g. refl) m x h)) (more_back c name (and_edge r) edges_in edge r (λ g. refl)) g s

pub still_said : (c : CatalogData) (f g : Form) → Says c g → Says (with_form c f) g
still_said c version g s = s
still_said c (graph_type name t) g s = type_still c name t g s
still_said c (graph name kind n e) g s = graph_still c name kind n e g s
still_said c (node name r) g s = still c name (and_node r) (λ g. refl) (λ g. refl) (more_still c name (and_node r) nodes_in node r (λ g. refl)) (same_still c name (and_node r) edges_in (λ g. refl)) g s
still_said c (edge name r) g s = still c name (and_edge r) (λ g. refl) (λ g. refl) (same_still c name (and_edge r) nodes_in (λ g. refl)) (more_still c name (and_edge r) edges_in edge r (λ g. refl)) g s

pub newly_said : (c : CatalogData) (f : Form) → Names c f → Says (with_form c f) f
newly_said c version h = tt
newly_said c (graph_type name t) h = put_has name t c.types
newly_said c (graph name kind n e) h = (new_graph c name kind n e, put_has name (new_graph c name kind n e) c.graphs, refl, refl, refl)
newly_said c (node name r) h = more_new c name (and_node r) nodes_in node r (λ g. refl) h.0 h.1
newly_said c (edge name r) h = more_new c name (and_edge r) edges_in edge r (λ g. refl) h.0 h.1
