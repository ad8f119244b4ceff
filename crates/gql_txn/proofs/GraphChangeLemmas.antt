-- Where one graph of a catalog is another: what is said now was said before or is new, and what was said has a key still or is gone.
use Rattle.std.proofs.Common.{◌≡◌, ℕ, ◌^◌, ◌<◌, Bool, true, false, cond, eqb, List, [], ◌∷◌, map, drop, Option, Some, None, refl, sym, ap, subst, ◌∙◌, inl, inr, ◌⊎◌, arith}
use Rattle.std.specs.Prelude.{find, is_some}
use Rattle.std.proofs.lemmas.Bool.{eqb-true, eq-eqb, ltb-true}
use Rattle.gql_values3.specs.PropertyGraph.{PropertyGraph}
use Rattle.gql_values3.specs.Lookup.{node_of, edge_of, has_node}
use Rattle.gql_values3.specs.Texts.{same_text}
use Rattle.gql_values3.proofs.WordLemmas.{same_is}
use Rattle.gql_values3.specs.declared.element.NodeId.{NodeId}
use Rattle.gql_values3.specs.declared.element.EdgeId.{EdgeId}
use Rattle.gql_values3.specs.declared.records.NodeRecord.{NodeRecord}
use Rattle.gql_values3.specs.declared.records.EdgeRecord.{EdgeRecord}
use Rattle.gql_graph.specs.Catalog.{CatalogGraph, CatalogData, held_in, replaced}
use Rattle.gql_graph.specs.Edits.{has_edge}
use Rattle.gql_rowcode.specs.Records.{Form, version, graph_type, graph, node, edge, key_of, node_key, edge_key}
use Rattle.gql_rowcode.specs.StandFor.{graph_forms}
use Rattle.gql_rowcode.proofs.MemberLemmas.{Has, InOrder, has_left, has_right, has_either, has_map, has_map_back, has_flat_map, has_flat_map_back, find_has}
use Rattle.gql_rowcode.proofs.NameLemmas.{NameLess, named_has, one_named, text_same}
use Rattle.gql_rowcode.proofs.NumberLemmas.{number_within}
use Rattle.gql_rowcode.proofs.SoundLemmas.{IsGraph, node_number, edge_number}
use Rattle.gql_rowcode.proofs.OrderingKeys.{name_same, number_behind}
use Rattle.gql_rowcode.proofs.SaidLemmas.{Says, graph_says, on_held, graph_before, graph_behind}
use Rattle.gql_txn.specs.Machinery.GraphChanges.{is_node, is_edge, is_said, is_keyed, unless, new_forms, with_type_of, gone_forms}
use Rattle.gql_txn.proofs.SameGraph.{node_decides, edge_decides, numbers_decide}

-- ---- what a look-up says

-- what is in the list is found by a test that it passes
found_some : {X : Type 0} (p : X → Bool) (xs : List X) (x : X) → Has xs x → p x ≡ true → is_some (find p xs) ≡ true
found_some p [] x h e = absurd h
found_some {X} p (y ∷ ys) x (inl same) e = first (p y) (ap p (sym same) ∙ e)
  where
    first : (b : Bool) → b ≡ true → is_some (cond b (Some y) (find p ys)) ≡ true
    first true h = refl
    first false h = absurd (cc)
found_some {X} p (y ∷ ys) x (inr h) e = either (p y) (found_some p ys x h e)
  where
    either : (b : Bool) → is_some (find p ys) ≡ true → is_some (cond b (Some y) (find p ys)) ≡ true
    either true more = refl
    either false more = more

some_found : {X : Type 0} (o : Option X) → is_some o ≡ true → (x : X) × (o ≡ Some x)
some_found None e = absurd (cc)
some_found (Some x) e = (x, refl)

-- the node of this number
abbrev by_node : NodeId → NodeRecord → Bool
by_node n r = eqb r.number.0 n.0

abbrev by_edge : EdgeId → EdgeRecord → Bool
by_edge n r = eqb r.number.0 n.0

node_there : (g : PropertyGraph) (o : Option NodeRecord) (r : NodeRecord) → node_of g r.number ≡ o → is_node o r ≡ true → Has g.nodes r
node_there g None r e is = absurd (cc)
node_there g (Some old) r e is = subst (Has g.nodes) ((node_decides old r).0 is) (find_has (by_node r.number) g.nodes old e).0

edge_there : (g : PropertyGraph) (o : Option EdgeRecord) (r : EdgeRecord) → edge_of g r.number ≡ o → is_edge o r ≡ true → Has g.edges r
edge_there g None r e is = absurd (cc)
edge_there g (Some old) r e is = subst (Has g.edges) ((edge_decides old r).0 is) (find_has (by_edge r.number) g.edges old e).0

-- there is an edge exactly where one is found
edge_some : (g : PropertyGraph) (n : EdgeId) → has_edge g n ≡ is_some (edge_of g n)
edge_some g n = told (edge_of g n) refl
  where
    told : (o : Option EdgeRecord) → edge_of g n ≡ o → has_edge g n ≡ is_some (edge_of g n)
    told None e = rw e refl
    told (Some r) e = rw e refl

-- ---- a form alone, or none

unless_has : (b : Bool) (f g : Form) → Has (unless b f) g → (b ≡ false) × (g ≡ f)
unless_has true f g h = absurd h
unless_has false f g (inl e) = (refl, e)
unless_has false f g (inr h) = absurd h

has_unless : (b : Bool) (f : Form) → b ≡ false → Has (unless b f) f
has_unless true f e = absurd (cc)
has_unless false f e = inl refl

module _ (c : CatalogData) (name : List ℕ) (before : PropertyGraph) (after : CatalogGraph) (there : held_in c name ≡ Some after) (up : InOrder NameLess c.graphs) where
  abbrev pub was : CatalogData
  was = replaced name before c

  abbrev pub then_graph : CatalogGraph
  then_graph = with_type_of after before

  abbrev swap : PropertyGraph → PropertyGraph
  swap g = before

  now_there : Has c.graphs (name, after)
  now_there = named_has name c.graphs after there

  was_there : Has was.graphs (name, then_graph)
  was_there =
      let is : on_held (same_text name name) swap after ≡ then_graph = ap (λ (b : Bool). on_held b swap after) (text_same name) in
      subst (λ (h : CatalogGraph). Has was.graphs (name, h)) is (graph_behind name swap c name after now_there)

  -- a graph of another name is in both
  other_there : (m : List ℕ) (g : CatalogGraph) → same_text name m ≡ false → Has c.graphs (m, g) → Has was.graphs (m, g)
  other_there m g other h = subst (λ (x : CatalogGraph). Has was.graphs (m, x)) (ap (λ (b : Bool). on_held b swap g) other) (graph_behind name swap c m g h)

  other_back : (m : List ℕ) (h : CatalogGraph) → same_text name m ≡ false → Has was.graphs (m, h) → Has c.graphs (m, h)
  other_back m h other k =
      let b = graph_before name swap c m h k in
      subst (λ (x : CatalogGraph). Has c.graphs (m, x)) (sym (b.2 ∙ ap (λ (d : Bool). on_held d swap b.0) other)) b.1

  -- the graph of the name is that one
  now_is : (m : List ℕ) (g : CatalogGraph) → same_text name m ≡ true → Has c.graphs (m, g) → (m ≡ name) × (g ≡ after)
  now_is m g same h =
      let m_is : m ≡ name = sym (same_is name m same) in
      (m_is, one_named name c.graphs g after up (subst (λ (n : List ℕ). Has c.graphs (n, g)) m_is h) now_there)

  was_is : (m : List ℕ) (h : CatalogGraph) → same_text name m ≡ true → Has was.graphs (m, h) → (m ≡ name) × (h ≡ then_graph)
  was_is m h same k =
      let b = graph_before name swap c m h k in
      let n = now_is m b.0 same b.1 in
      (n.0, b.2 ∙ ap (λ (d : Bool). on_held d swap b.0) same ∙ ap (λ (g : CatalogGraph). with_type_of g before) n.1)

  abbrev now_forms : List Form
  now_forms = graph_forms (name, after)

  abbrev then_forms : List Form
  then_forms = graph_forms (name, then_graph)

  abbrev head_now : Form
  head_now = graph name after.kind after.graph.next_node after.graph.next_edge

  -- ---- what is said now is of another graph, or of this one

  part_graph : (b : Bool) (m : List ℕ) (k : Option (List ℕ)) (x y : ℕ) → same_text name m ≡ b → Says c (graph m k x y) → Says was (graph m k x y) ⊎ Has now_forms (graph m k x y)
  part_graph true m k x y e s =
      let is = now_is m s.0 e s.1 in
      let k_is : k ≡ after.kind = sym s.2 ∙ ap (λ (g : CatalogGraph). g.kind) is.1 in
      let x_is : x ≡ after.graph.next_node = sym s.3 ∙ ap (λ (g : CatalogGraph). g.graph.next_node) is.1 in
      let y_is : y ≡ after.graph.next_edge = sym s.4 ∙ ap (λ (g : CatalogGraph). g.graph.next_edge) is.1 in
      inr (inl (λ i. graph (is.0 i) (k_is i) (x_is i) (y_is i)))
  part_graph false m k x y e s = inl (s.0, other_there m s.0 e s.1, s.2, s.3, s.4)

  part_node : (b : Bool) (m : List ℕ) (r : NodeRecord) → same_text name m ≡ b → Says c (node m r) → Says was (node m r) ⊎ Has now_forms (node m r)
  part_node true m r e s =
      let is = now_is m s.0 e s.1 in
      let here : Has after.graph.nodes r = subst (λ (g : CatalogGraph). Has g.graph.nodes r) is.1 s.2 in
      inr (subst (λ (n : List ℕ). Has now_forms (node n r)) (sym is.0) (inr (has_left (map (node name) after.graph.nodes) (map (edge name) after.graph.edges) (node name r) (has_map (node name) after.graph.nodes r here))))
  part_node false m r e s = inl (s.0, other_there m s.0 e s.1, s.2)

  part_edge : (b : Bool) (m : List ℕ) (r : EdgeRecord) → same_text name m ≡ b → Says c (edge m r) → Says was (edge m r) ⊎ Has now_forms (edge m r)
  part_edge true m r e s =
      let is = now_is m s.0 e s.1 in
      let here : Has after.graph.edges r = subst (λ (g : CatalogGraph). Has g.graph.edges r) is.1 s.2 in
      inr (subst (λ (n : List ℕ). Has now_forms (edge n r)) (sym is.0) (inr (has_right (map (node name) after.graph.nodes) (map (edge name) after.graph.edges) (edge name r) (has_map (edge name) after.graph.edges r here))))
  part_edge false m r e s = inl (s.0, other_there m s.0 e s.1, s.2)

  part : (f : Form) → Says c f → Says was f ⊎ Has now_forms f
  part version s = inl tt
  part (graph_type m t) s = inl s
  part (graph m k x y) s = part_graph (same_text name m) m k x y refl s
  part (node m r) s = part_node (same_text name m) m r refl s
  part (edge m r) s = part_edge (same_text name m) m r refl s

  -- ---- what is said of this graph was said of it, or is new

  said_head : is_said before head_now ≡ true → Says was head_now
  said_head e = let n = (numbers_decide before after.graph).0 e in (then_graph, was_there, refl, n.0, n.1)

  said_was : (f : Form) → Has now_forms f → is_said before f ≡ true → Says was f
  said_was f (inl is) e = subst (Says was) (sym is) (said_head (ap (is_said before) (sym is) ∙ e))
  said_was f (inr h) e =
      elim (has_either (map (node name) after.graph.nodes) (map (edge name) after.graph.edges) f h) [
        | inl a ↦
            let b = has_map_back (node name) after.graph.nodes f a in
            subst (Says was) (sym b.2) (then_graph, was_there, node_there before (node_of before b.0.number) b.0 refl (ap (is_said before) (sym b.2) ∙ e))
        | inr a ↦
            let b = has_map_back (edge name) after.graph.edges f a in
            subst (Says was) (sym b.2) (then_graph, was_there, edge_there before (edge_of before b.0.number) b.0 refl (ap (is_said before) (sym b.2) ∙ e))
      ]

  abbrev say_new : Form → List Form
  say_new f = unless (is_said before f) f

  new_case : (b : Bool) (f : Form) → is_said before f ≡ b → Has now_forms f → Says was f ⊎ Has (new_forms name before after) f
  new_case true f e h = inl (said_was f h e)
  new_case false f e h = inr (has_flat_map say_new now_forms f f h (has_unless (is_said before f) f e))

  -- all that is said now was said, or is new
  pub was_or_new : (f : Form) → Says c f → Says was f ⊎ Has (new_forms name before after) f
  was_or_new f s = elim (part f s) [ inl a ↦ inl a | inr h ↦ new_case (is_said before f) f refl h ]

  -- what is new is said now
  pub new_says : (f : Form) → Has (new_forms name before after) f → Says c f
  new_says f h =
      let b = has_flat_map_back say_new now_forms f h in
      let is = unless_has (is_said before b.0) b.0 f b.2 in
      subst (Says c) (sym is.1) (graph_says c (name, after) b.0 now_there b.1)

  -- ---- what was said has its key still, or is gone

  abbrev say_gone : Form → List Form
  say_gone f = unless (is_keyed after.graph f) f

  -- something is said now with the same key
  abbrev pub Keyed : Form → Type 0
  Keyed f = (g : Form) × Says c g × (key_of g ≡ key_of f)

  keyed_node : (b : Bool) (r : NodeRecord) → has_node after.graph r.number ≡ b → Has before.nodes r → Keyed (node name r) ⊎ Has (gone_forms name before after) (node name r)
  keyed_node true r e h =
      let found = some_found (node_of after.graph r.number) e in
      let is = find_has (by_node r.number) after.graph.nodes found.0 found.1 in
      let number : found.0.number.0 ≡ r.number.0 = eqb-true found.0.number.0 r.number.0 is.1 in
      inl (node name found.0, (after, now_there, is.0), ap (node_key name) number)
  keyed_node false r e h =
      let in_forms : Has then_forms (node name r) = inr (has_left (map (node name) before.nodes) (map (edge name) before.edges) (node name r) (has_map (node name) before.nodes r h)) in
      inr (has_flat_map say_gone then_forms (node name r) (node name r) in_forms (has_unless (has_node after.graph r.number) (node name r) e))

  keyed_edge : (b : Bool) (r : EdgeRecord) → has_edge after.graph r.number ≡ b → Has before.edges r → Keyed (edge name r) ⊎ Has (gone_forms name before after) (edge name r)
  keyed_edge true r e h =
      let found = some_found (edge_of after.graph r.number) (sym (edge_some after.graph r.number) ∙ e) in
      let is = find_has (by_edge r.number) after.graph.edges found.0 found.1 in
      let number : found.0.number.0 ≡ r.number.0 = eqb-true found.0.number.0 r.number.0 is.1 in
      inl (edge name found.0, (after, now_there, is.0), ap (edge_key name) number)
  keyed_edge false r e h =
      let in_forms : Has then_forms (edge name r) = inr (has_right (map (node name) before.nodes) (map (edge name) before.edges) (edge name r) (has_map (edge name) before.edges r h)) in
      inr (has_flat_map say_gone then_forms (edge name r) (edge name r) in_forms (has_unless (has_edge after.graph r.number) (edge name r) e))

  old_node : (b : Bool) (m : List ℕ) (r : NodeRecord) → same_text name m ≡ b → Says was (node m r) → Keyed (node m r) ⊎ Has (gone_forms name before after) (node m r)
  old_node true m r e s =
      let is = was_is m s.0 e s.1 in
      let here : Has before.nodes r = subst (λ (g : CatalogGraph). Has g.graph.nodes r) is.1 s.2 in
      subst (λ (n : List ℕ). Keyed (node n r) ⊎ Has (gone_forms name before after) (node n r)) (sym is.0) (keyed_node (has_node after.graph r.number) r refl here)
  old_node false m r e s = inl (node m r, (s.0, other_back m s.0 e s.1, s.2), refl)

  old_edge : (b : Bool) (m : List ℕ) (r : EdgeRecord) → same_text name m ≡ b → Says was (edge m r) → Keyed (edge m r) ⊎ Has (gone_forms name before after) (edge m r)
  old_edge true m r e s =
      let is = was_is m s.0 e s.1 in
      let here : Has before.edges r = subst (λ (g : CatalogGraph). Has g.graph.edges r) is.1 s.2 in
      subst (λ (n : List ℕ). Keyed (edge n r) ⊎ Has (gone_forms name before after) (edge n r)) (sym is.0) (keyed_edge (has_edge after.graph r.number) r refl here)
  old_edge false m r e s = inl (edge m r, (s.0, other_back m s.0 e s.1, s.2), refl)

  -- all that was said has its key, or is gone
  pub keyed_or_gone : (f : Form) → Says was f → Keyed f ⊎ Has (gone_forms name before after) f
  keyed_or_gone version s = inl (version, tt, refl)
  keyed_or_gone (graph_type m t) s = inl (graph_type m t, s, refl)
  keyed_or_gone (graph m k x y) s =
      let b = graph_before name swap c m s.0 s.1 in
      inl (graph m b.0.kind b.0.graph.next_node b.0.graph.next_edge, (b.0, b.1, refl, refl, refl), refl)
  keyed_or_gone (node m r) s = old_node (same_text name m) m r refl s
  keyed_or_gone (edge m r) s = old_edge (same_text name m) m r refl s

  -- ---- what is gone has a key that nothing has now

  never : (b : Bool) → b ≡ true → b ≡ false → ⊥
  never true e f = cc
  never false e f = cc

  -- a node of the graph now, and an edge
  has_number : (m : List ℕ) (r : NodeRecord) (n : NodeId) → Says c (node m r) → m ≡ name → r.number.0 ≡ n.0 → has_node after.graph n ≡ true
  has_number m r n s m_is number =
      let is = now_is m s.0 (ap (same_text name) m_is ∙ text_same name) s.1 in
      let here : Has after.graph.nodes r = subst (λ (g : CatalogGraph). Has g.graph.nodes r) is.1 s.2 in
      found_some (by_node n) after.graph.nodes r here (ap (λ (k : ℕ). eqb k n.0) number ∙ eq-eqb n.0 n.0 refl)

  has_edge_number : (m : List ℕ) (r : EdgeRecord) (n : EdgeId) → Says c (edge m r) → m ≡ name → r.number.0 ≡ n.0 → has_edge after.graph n ≡ true
  has_edge_number m r n s m_is number =
      let is = now_is m s.0 (ap (same_text name) m_is ∙ text_same name) s.1 in
      let here : Has after.graph.edges r = subst (λ (g : CatalogGraph). Has g.graph.edges r) is.1 s.2 in
      edge_some after.graph n ∙ found_some (by_edge n) after.graph.edges r here (ap (λ (k : ℕ). eqb k n.0) number ∙ eq-eqb n.0 n.0 refl)

  -- numbers of elements fit in four bytes
  module _ (fit : (p : List ℕ × CatalogGraph) → Has c.graphs p → IsGraph p.1.graph) (was_fit : IsGraph before) where
    small_node : (g : PropertyGraph) → IsGraph g → (r : NodeRecord) → Has g.nodes r → r.number.0 < 2 ^ 32
    small_node g is r h =
        let below = (number_within node_number g.nodes 0 g.next_node is.node_order r h).1 in
        let limit = ltb-true g.next_node (2 ^ 32) is.node_limit in
        omega arith

    small_edge : (g : PropertyGraph) → IsGraph g → (r : EdgeRecord) → Has g.edges r → r.number.0 < 2 ^ 32
    small_edge g is r h =
        let below = (number_within edge_number g.edges 0 g.next_edge is.edge_order r h).1 in
        let limit = ltb-true g.next_edge (2 ^ 32) is.edge_limit in
        omega arith

    gone_node : (x : NodeRecord) → Has before.nodes x → has_node after.graph x.number ≡ false → (g : Form) → Says c g → key_of g ≡ node_key name x.number.0 → ⊥
    gone_node x was_x none version s e = absurd (cc)
    gone_node x was_x none (graph_type m t) s e = absurd (cc)
    gone_node x was_x none (graph m k a b) s e = absurd (cc)
    gone_node x was_x none (edge m r) s e = absurd (cc)
    gone_node x was_x none (node m r) s e =
        let m_is : m ≡ name = name_same m name r.number.0 x.number.0 (ap (drop 1) e) in
        let same : node_key name r.number.0 ≡ node_key name x.number.0 = ap (λ (n : List ℕ). node_key n r.number.0) (sym m_is) ∙ e in
        let small : r.number.0 < 2 ^ 32 = small_node s.0.graph (fit (m, s.0) s.1) r s.2 in
        never (has_node after.graph x.number) (has_number m r x.number s m_is (number_behind name r.number.0 x.number.0 small (small_node before was_fit x was_x) (ap (drop 1) same))) none

    gone_edge : (x : EdgeRecord) → Has before.edges x → has_edge after.graph x.number ≡ false → (g : Form) → Says c g → key_of g ≡ edge_key name x.number.0 → ⊥
    gone_edge x was_x none version s e = absurd (cc)
    gone_edge x was_x none (graph_type m t) s e = absurd (cc)
    gone_edge x was_x none (graph m k a b) s e = absurd (cc)
    gone_edge x was_x none (node m r) s e = absurd (cc)
    gone_edge x was_x none (edge m r) s e =
        let m_is : m ≡ name = name_same m name r.number.0 x.number.0 (ap (drop 1) e) in
        let same : edge_key name r.number.0 ≡ edge_key name x.number.0 = ap (λ (n : List ℕ). edge_key n r.number.0) (sym m_is) ∙ e in
        let small : r.number.0 < 2 ^ 32 = small_edge s.0.graph (fit (m, s.0) s.1) r s.2 in
        never (has_edge after.graph x.number) (has_edge_number m r x.number s m_is (number_behind name r.number.0 x.number.0 small (small_edge before was_fit x was_x) (ap (drop 1) same))) none

    gone_of : (f : Form) → Has then_forms f → is_keyed after.graph f ≡ false → (g : Form) → Says c g → key_of g ≡ key_of f → ⊥
    gone_of f (inl is) none g s e = never (is_keyed after.graph f) (ap (is_keyed after.graph) is) none
    gone_of f (inr h) none g s e =
        elim (has_either (map (node name) before.nodes) (map (edge name) before.edges) f h) [
          | inl a ↦
              let b = has_map_back (node name) before.nodes f a in
              gone_node b.0 b.1 (ap (is_keyed after.graph) (sym b.2) ∙ none) g s (e ∙ ap key_of b.2)
          | inr a ↦
              let b = has_map_back (edge name) before.edges f a in
              gone_edge b.0 b.1 (ap (is_keyed after.graph) (sym b.2) ∙ none) g s (e ∙ ap key_of b.2)
        ]

    pub gone_unsaid : (f : Form) → Has (gone_forms name before after) f → (g : Form) → Says c g → key_of g ≡ key_of f → ⊥
    gone_unsaid f h g s e =
        let b = has_flat_map_back say_gone then_forms f h in
        let is = unless_has (is_keyed after.graph b.0) b.0 f b.2 in
        gone_of b.0 b.1 is.0 g s (e ∙ ap key_of is.1)
