-- What forms describe that may follow one another: a sound catalog, of which they and nothing else are said. Each form adds one thing that
-- is said. Since keys ascend, no name and no number comes twice.
use Rattle.std.proofs.Common.{◌≡◌, ◌≢◌, ℕ, ◌∙◌, ◌^◌, ◌<◌, cond, ltb, Bool, true, false, ◌&&◌, List, [], ◌∷◌, ◌++◌, map, Option, Some, None, refl, sym, ap, subst, arith, inl, inr, ◌⊎◌}
use Rattle.std.proofs.lemmas.Bool.{ltb-true, lt-ltb, and_from, and_parts}
use Rattle.gql_values3.specs.Texts.{same_text, texts_ascend}
use Rattle.gql_values3.specs.PropertyGraph.{PropertyGraph, are_ends, are_properties, is_node_record, is_edge_record}
use Rattle.gql_values3.specs.declared.records.NodeRecord.{NodeRecord}
use Rattle.gql_values3.specs.declared.records.EdgeRecord.{EdgeRecord}
use Rattle.gql_values3.proofs.WordLemmas.{same_is}
use Rattle.gql_graph.specs.Catalog.{CatalogGraph, CatalogData, named, held_in, put_named}
use Rattle.gql_type.specs.SoundCatalog.{fits_kind}
use Rattle.gql_graph.specs.declared.graph_type.GraphType.{GraphType}
use Rattle.gql_type.specs.Conformance.{node_fits, edge_fits, conforms}
use Rattle.gql_type.specs.GraphTypes.{is_graph_type}
use Rattle.gql_rowcode.specs.Records.{Form, version, graph_type, graph, node, edge, key_of, IsForm}
use Rattle.gql_rowcode.specs.FirstBad.{and_node, and_edge, on_graph, with_form, with_forms, described, passes_type, JoinsAsNode, JoinsAsEdge, Follows}
use Rattle.gql_rowcode.proofs.MemberLemmas.{Has, has_left, has_last, has_push}
use Rattle.gql_rowcode.proofs.NameLemmas.{named_has, has_named, one_named, names_in_order, put_back, put_keeps, text_same, below_itself}
use Rattle.gql_graph.proofs.CatalogLemmas.{names}
use Rattle.gql_graph.proofs.NamedLemmas.{names_ascend-put}
use Rattle.gql_rowcode.proofs.FittingLemmas.{conforms_node, conforms_edge}
use Rattle.gql_rowcode.proofs.SoundLemmas.{IsGraph, Sound, graph_node, graph_edge, kind_type, kind_from, passes}
use Rattle.gql_rowcode.proofs.SaidLemmas.{Says, Names, changed, on_held, on_one, graph_before, said_before, still_said, newly_said}
use Rattle.gql_rowcode.proofs.KeyLemmas.{ComesBefore, nodes_before, edges_before}

-- the catalog of which the forms are said
pub record Describes (forms : List Form) (c : CatalogData) : Type 0 where
  pub said : (f : Form) → Has forms f → Says c f
  pub says : (f : Form) → Says c f → (f ≡ version) ⊎ Has forms f
  pub begins : (forms ≡ []) ⊎ Has forms version
  pub sound : Sound c

-- one form more
pub described-push : (c : CatalogData) (fs : List Form) (f : Form) → with_forms c (fs ++ f ∷ []) ≡ with_form (with_forms c fs) f
described-push c [] f = refl
described-push c (g ∷ gs) f = described-push (with_form c g) gs f

-- what may follow names what is there
node_graph : (types : List (List ℕ × GraphType)) (r : NodeRecord) (o : Option CatalogGraph) → JoinsAsNode types r o → (g : CatalogGraph) × (o ≡ Some g) × JoinsAsNode types r (Some g)
node_graph types r None j = absurd j
node_graph types r (Some g) j = (g, refl, j)

edge_graph : (types : List (List ℕ × GraphType)) (r : EdgeRecord) (o : Option CatalogGraph) → JoinsAsEdge types r o → (g : CatalogGraph) × (o ≡ Some g) × JoinsAsEdge types r (Some g)
edge_graph types r None j = absurd j
edge_graph types r (Some g) j = (g, refl, j)

module _ (forms : List Form) where
  abbrev c : CatalogData
  c = described forms

  names_there : (f : Form) → Follows forms f → Names c f
  names_there version h = tt
  names_there (graph_type name t) h = tt
  names_there (graph name k n e) h = tt
  names_there (node name r) h = let j = node_graph c.types r (held_in c name) h in (j.0, j.1)
  names_there (edge name r) h = let j = edge_graph c.types r (held_in c name) h in (j.0, j.1)

  module _ (so_far : Describes forms c) (f : Form) (before : (g : Form) → Has forms g → ComesBefore g f) where
    -- what is said comes before the form
    said_earlier : (g : Form) → (g ≢ version) → Says c g → ComesBefore g f
    said_earlier g other s = elim (so_far.says g s) [ inl e ↦ absurd (other e) | inr h ↦ before g h ]

-- ---- it stays sound

-- a type more
module _ (c : CatalogData) (sound : Sound c) (name : List ℕ) (t : GraphType) (absent : named name c.types ≡ None) where
  type_names_ascend : texts_ascend (names (put_named name t c.types)) ≡ true
  type_names_ascend = names_ascend-put name t c.types absent sound.type_names

  type_stays : (m : List ℕ) (u : GraphType) → named m c.types ≡ Some u → named m (put_named name t c.types) ≡ Some u
  type_stays m u e = has_named m (put_named name t c.types) u (names_in_order (put_named name t c.types) type_names_ascend) (put_keeps name t c.types (m, u) (named_has m c.types u e))

  kind_stays : (g : PropertyGraph) (k : Option (List ℕ)) → fits_kind c.types g k ≡ true → fits_kind (put_named name t c.types) g k ≡ true
  kind_stays g None h = refl
  kind_stays g (Some m) h = let u = kind_type c.types g m h in kind_from (put_named name t c.types) g m u.0 (type_stays m u.0 u.1) u.2

  pub sound_type : is_graph_type t ≡ true → Sound (with_form c (graph_type name t))
  sound_type fits = record {
    graph_names = sound.graph_names;
    type_names = type_names_ascend;
    types_fit = λ u h. elim (put_back name t c.types u h) [ inl a ↦ sound.types_fit u a | inr a ↦ ap (λ (p : List ℕ × GraphType). is_graph_type p.1) a ∙ fits ];
    graphs_fit = sound.graphs_fit;
    kinds_fit = λ p h. kind_stays p.1.graph p.1.kind (sound.kinds_fit p h);
  }

-- a graph more
module _ (c : CatalogData) (sound : Sound c) (name : List ℕ) (kind : Option (List ℕ)) (n e : ℕ) (absent : named name c.graphs ≡ None) where
  abbrev fresh : CatalogGraph
  fresh = record { graph = record { nodes = []; edges = []; next_node = n; next_edge = e }; kind = kind }

  fresh_graph : 0 < n → 0 < e → n < 2 ^ 32 → e < 2 ^ 32 → IsGraph fresh.graph
  fresh_graph n_some e_some n_small e_small = record {
    node_order = lt-ltb 0 n n_some;
    node_limit = lt-ltb n (2 ^ 32) n_small;
    nodes_fit = λ r h. absurd h;
    edge_order = lt-ltb 0 e e_some;
    edge_limit = lt-ltb e (2 ^ 32) e_small;
    edges_fit = λ r h. absurd h;
  }

  fresh_kind : (k : Option (List ℕ)) → passes_type (λ t. true) c.types k ≡ true → fits_kind c.types fresh.graph k ≡ true
  fresh_kind None h = refl
  fresh_kind (Some m) h = let u = passes (λ t. true) c.types m h in kind_from c.types fresh.graph m u.0 u.1 refl

  pub sound_graph : passes_type (λ t. true) c.types kind ≡ true → 0 < n → 0 < e → n < 2 ^ 32 → e < 2 ^ 32 → Sound (with_form c (graph name kind n e))
  sound_graph there n_some e_some n_small e_small = record {
    graph_names = names_ascend-put name fresh c.graphs absent sound.graph_names;
    type_names = sound.type_names;
    types_fit = sound.types_fit;
    graphs_fit = λ p h. elim (put_back name fresh c.graphs p h) [
      | inl a ↦ sound.graphs_fit p a
      | inr a ↦ subst (λ (q : List ℕ × CatalogGraph). IsGraph q.1.graph) (sym a) (fresh_graph n_some e_some n_small e_small)
    ];
    kinds_fit = λ p h. elim (put_back name fresh c.graphs p h) [
      | inl a ↦ sound.kinds_fit p a
      | inr a ↦ ap (λ (q : List ℕ × CatalogGraph). fits_kind c.types q.1.graph q.1.kind) a ∙ fresh_kind kind there
    ];
  }

-- a graph changed
module _ (c : CatalogData) (sound : Sound c) (name : List ℕ) (change : PropertyGraph → PropertyGraph) where
  same_first : (gs : List (List ℕ × CatalogGraph)) → names (map (on_one name change) gs) ≡ names gs
  same_first [] = refl
  same_first (g ∷ gs) = ap (λ (n : List ℕ). n ∷ names (map (on_one name change) gs)) (first (same_text name g.0) g) ∙ ap (λ (ns : List (List ℕ)). g.0 ∷ ns) (same_first gs)
    where
      first : (b : Bool) (p : List ℕ × CatalogGraph) → (cond b (p.0, changed change p.1) p).0 ≡ p.0
      first true p = refl
      first false p = refl

  module _ (g : CatalogGraph) (there : held_in c name ≡ Some g) where
    changed_case : (P : CatalogGraph → Type 0) (b : Bool) (m : List ℕ) (h : CatalogGraph) → same_text name m ≡ b → Has c.graphs (m, h) → P (changed change g) → P h → P (on_held b change h)
    changed_case P true m h e k new old =
        let m_is : name ≡ m = same_is name m e in
        let here : Has c.graphs (name, h) = subst (λ (n : List ℕ). Has c.graphs (n, h)) (sym m_is) k in
        let same : g ≡ h = one_named name c.graphs g h (names_in_order c.graphs sound.graph_names) (named_has name c.graphs g there) here in
        subst (λ (w : CatalogGraph). P (changed change w)) same new
    changed_case P false m h e k new old = old

    each_graph : (P : CatalogGraph → Type 0) → P (changed change g) → ((p : List ℕ × CatalogGraph) → Has c.graphs p → P p.1) → (p : List ℕ × CatalogGraph) → Has (on_graph name change c).graphs p → P p.1
    each_graph P new old p h =
        let b = graph_before name change c p.0 p.1 h in
        subst P (sym b.2) (changed_case P (same_text name p.0) p.0 b.0 refl b.1 new (old (p.0, b.0) b.1))

    pub sound_change : IsGraph (change g.graph) → fits_kind c.types (change g.graph) g.kind ≡ true → Sound (on_graph name change c)
    sound_change graph_fits kind_fits = record {
      graph_names = ap texts_ascend (same_first c.graphs) ∙ sound.graph_names;
      type_names = sound.type_names;
      types_fit = sound.types_fit;
      graphs_fit = each_graph (λ (w : CatalogGraph). IsGraph w.graph) graph_fits sound.graphs_fit;
      kinds_fit = each_graph (λ (w : CatalogGraph). fits_kind c.types w.graph w.kind ≡ true) kind_fits sound.kinds_fit;
    }

-- ---- the step

node_kind : (types : List (List ℕ × GraphType)) (g : PropertyGraph) (r : NodeRecord) (k : Option (List ℕ)) → fits_kind types g k ≡ true → passes_type (λ t. node_fits t r) types k ≡ true → fits_kind types (and_node r g) k ≡ true
node_kind types g r None h p = refl
node_kind types g r (Some m) h p =
    let u = kind_type types g m h in
    let v = passes (λ t. node_fits t r) types m p in
    let same : u.0 ≡ v.0 = (let a = u.1 in let b = v.1 in cc) in
    kind_from types (and_node r g) m u.0 u.1 (conforms_node g u.0 r u.2 (ap (λ (t : GraphType). node_fits t r) same ∙ v.2))

edge_kind : (types : List (List ℕ × GraphType)) (g : PropertyGraph) (r : EdgeRecord) (k : Option (List ℕ)) → fits_kind types g k ≡ true → passes_type (λ t. edge_fits g t r) types k ≡ true → fits_kind types (and_edge r g) k ≡ true
edge_kind types g r None h p = refl
edge_kind types g r (Some m) h p =
    let u = kind_type types g m h in
    let v = passes (λ t. edge_fits g t r) types m p in
    let same : u.0 ≡ v.0 = (let a = u.1 in let b = v.1 in cc) in
    kind_from types (and_edge r g) m u.0 u.1 (conforms_edge g u.0 r u.2 (ap (λ (t : GraphType). edge_fits g t r) same ∙ v.2))

none_or : {A : Type 0} (o : Option A) → ((a : A) → o ≡ Some a → ⊥) → o ≡ None
none_or None h = refl
none_or (Some a) h = absurd (h a refl)

module _ (forms : List Form) (so_far : Describes forms (described forms)) (kept : (g : Form) → Has forms g → IsForm g) where
  abbrev d : CatalogData
  d = described forms

  node_earlier : (name : List ℕ) (r x : NodeRecord) → ((g : Form) → Has forms g → ComesBefore g (node name r)) → r.number.0 < 2 ^ 32 → Says d (node name x) → x.number.0 < r.number.0
  node_earlier name r x before small s =
      elim (so_far.says (node name x) s) [
        | inl e ↦ absurd (cc)
        | inr h ↦ nodes_before name x r (kept (node name x) h).1 small (before (node name x) h)
      ]

  edge_earlier : (name : List ℕ) (r x : EdgeRecord) → ((g : Form) → Has forms g → ComesBefore g (edge name r)) → r.number.0 < 2 ^ 32 → Says d (edge name x) → x.number.0 < r.number.0
  edge_earlier name r x before small s =
      elim (so_far.says (edge name x) s) [
        | inl e ↦ absurd (cc)
        | inr h ↦ edges_before name x r (kept (edge name x) h).1 small (before (edge name x) h)
      ]

  sound_step : (f : Form) → ((g : Form) → Has forms g → ComesBefore g f) → IsForm f → Follows forms f → Sound (with_form d f)
  sound_step version before fits follows = so_far.sound
  sound_step (graph_type name t) before fits follows =
      sound_type d so_far.sound name t
      (none_or (named name d.types) (λ u e. below_itself (key_of (graph_type name u)) (said_earlier forms so_far (graph_type name t) before (graph_type name u) (λ same. cc) (named_has name d.types u e)))) follows.1
  sound_step (graph name k n e) before fits follows =
      sound_graph d so_far.sound name k n e
      (none_or (named name d.graphs) (λ g is. below_itself (key_of (graph name k n e)) (said_earlier forms so_far (graph name k n e) before (graph name g.kind g.graph.next_node g.graph.next_edge) (λ same. cc) (g, named_has name d.graphs g is, refl, refl, refl))))
      follows.1 follows.2 follows.3 fits.2 fits.3
  sound_step (node name r) before fits follows =
      let j = node_graph d.types r (held_in d name) follows in
      let there : Has d.graphs (name, j.0) = named_has name d.graphs j.0 j.1 in
      let labels_ascend : texts_ascend r.labels ≡ true = fits.2.0.ascend in
      let properties_fit : are_properties r.properties ≡ true = fits.2.1.fit in
      sound_change d so_far.sound name (and_node r) j.0 j.1
      (graph_node j.0.graph r (so_far.sound.graphs_fit (name, j.0) there) (and_from (texts_ascend r.labels) (are_properties r.properties) labels_ascend properties_fit)
      (λ x h. node_earlier name r x before fits.1 (j.0, there, h)) j.2.0 j.2.1)
      (node_kind d.types j.0.graph r j.0.kind (so_far.sound.kinds_fit (name, j.0) there) j.2.2)
  sound_step (edge name r) before fits follows =
      let j = edge_graph d.types r (held_in d name) follows in
      let there : Has d.graphs (name, j.0) = named_has name d.graphs j.0 j.1 in
      let labels_ascend : texts_ascend r.labels ≡ true = fits.3.0.ascend in
      let properties_fit : are_properties r.properties ≡ true = fits.3.1.fit in
      sound_change d so_far.sound name (and_edge r) j.0 j.1
      (graph_edge j.0.graph r (so_far.sound.graphs_fit (name, j.0) there)
      (and_from (texts_ascend r.labels && are_properties r.properties) (are_ends j.0.graph.nodes r.ends) (and_from (texts_ascend r.labels) (are_properties r.properties) labels_ascend properties_fit) j.2.2)
      (λ x h. edge_earlier name r x before fits.1 (j.0, there, h)) j.2.0 j.2.1)
      (edge_kind d.types j.0.graph r j.0.kind (so_far.sound.kinds_fit (name, j.0) there) j.2.3)

  begins_still : (f : Form) → Follows forms f → Has (forms ++ f ∷ []) version
  begins_still f follows = elim so_far.begins [ inr h ↦ has_left forms (f ∷ []) version h | inl e ↦ first f follows e ]
    where
      first : (f : Form) → Follows forms f → forms ≡ [] → Has (forms ++ f ∷ []) version
      first version follows e = has_last forms version
      first (graph_type name t) follows e = absurd (follows.0 e)
      first (graph name k n m) follows e = absurd (follows.0 e)
      first (node name r) follows e =
          let j = node_graph d.types r (held_in d name) follows in
          let none : held_in d name ≡ None = ap (λ (fs : List Form). held_in (described fs) name) e in
          let some = j.1 in
          absurd (cc)
      first (edge name r) follows e =
          let j = edge_graph d.types r (held_in d name) follows in
          let none : held_in d name ≡ None = ap (λ (fs : List Form). held_in (described fs) name) e in
          let some = j.1 in
          absurd (cc)

  -- a form that may follow is described, too
  pub describes_more : (f : Form) → ((g : Form) → Has forms g → ComesBefore g f) → IsForm f → Follows forms f → Describes (forms ++ f ∷ []) (described (forms ++ f ∷ []))
  describes_more f before fits follows =
      let is : described (forms ++ f ∷ []) ≡ with_form d f = described-push _ forms f in
      let more : Describes (forms ++ f ∷ []) (with_form d f) = record {
        said = λ g h. elim (has_push forms f g h) [
          | inl a ↦ still_said d f g (so_far.said g a)
          | inr a ↦ subst (Says (with_form d f)) (sym a) (newly_said d f (names_there forms f follows))
        ];
        says = λ g s. elim (said_before d f g s) [
          | inl a ↦ elim (so_far.says g a) [ inl e ↦ inl e | inr h ↦ inr (has_left forms (f ∷ []) g h) ]
          | inr a ↦ inr (subst (Has (forms ++ f ∷ [])) (sym a) (has_last forms f))
        ];
        begins = inr (begins_still f follows);
        sound = sound_step f before fits follows;
      } in
      subst (Describes (forms ++ f ∷ [])) (sym is) more

-- nothing describes nothing
pub describes_nothing : Describes [] (described [])
describes_nothing = record {
  said = λ f h. absurd h;
  says = says;
  begins = inl refl;
  sound = record {
    graph_names = refl;
    type_names = refl;
    types_fit = λ t h. absurd h;
    graphs_fit = λ p h. absurd h;
    kinds_fit = λ p h. absurd h;
  };
}
  where
    says : (f : Form) → Says (described []) f → (f ≡ version) ⊎ Has [] f
    says version s = inl refl
    says (graph_type name t) s = absurd s
    says (graph name k n e) s = absurd s.1
    says (node name r) s = absurd s.1
    says (edge name r) s = absurd s.1
