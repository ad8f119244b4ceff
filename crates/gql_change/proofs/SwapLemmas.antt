-- One change for an element: it leads from the graph behind all acts on the others to the graph behind them all.
use Rattle.std.proofs.Common.{◌≡◌, ℕ, ◌<◌, ◌≤◌, Bool, true, false, cond, List, [], ◌∷◌, ◌++◌, map, refl, sym, ap, subst, ◌∙◌, arith, Option, Some, None, eqb-true, eq-eqb}
use Rattle.std.proofs.lemmas.Bool.{and_from, and_parts}
use Rattle.std.specs.Prelude.{◌==◌, find, is_some, option_map, nat_lt, ◌^◌}
use Rattle.std.specs.List.{AllByRecursion}
use Rattle.std.proofs.lemmas.List.{map-id}
use Rattle.std.proofs.lemmas.Bool.Decides.{nat_tests}
use Rattle.gql_values3.specs.PropertyGraph.{PropertyGraph, is_graph, numbers_ascend}
use Rattle.gql_values3.specs.Lookup.{node_of, edge_of, has_node, labels_in, properties_in, labels_of, properties_of, has_element}
use Rattle.gql_values3.specs.declared.element.NodeId.{NodeId}
use Rattle.gql_values3.specs.declared.element.EdgeId.{EdgeId}
use Rattle.gql_values3.specs.declared.element.Ends.{Ends}
use Rattle.gql_values3.specs.declared.element.Ends.TheVariants.{Directed, Undirected}
use Rattle.gql_values3.specs.declared.element.Elem.{Elem}
use Rattle.gql_values3.specs.declared.element.Elem.TheVariants as elem
use Rattle.gql_values3.specs.declared.records.NodeRecord.{NodeRecord}
use Rattle.gql_values3.specs.declared.records.EdgeRecord.{EdgeRecord}
use Rattle.gql_values3.proofs.FindLemmas.{find-map}
use Rattle.gql_graph.specs.Edits.{put_over, node_key, edge_key, changed, has_ends, same_ends, can_act, can_act_each}
use Rattle.gql_graph.specs.declared.change.Change.{Change}
use Rattle.gql_graph.specs.declared.change.Change.TheVariants as change
use Rattle.gql_change.specs.AssignedGraph.{acts_on, properties_after, labels_after, node_after, edge_after, assigned}
use Rattle.gql_change.specs.Plans.{LeadTo}
use Rattle.gql_change.specs.Machinery.Swaps.{swap_edge, swaps, all_fit, others}
use Rattle.gql_change.specs.declared.assignment.Act.{Act}
use Rattle.gql_change.specs.declared.assignment.Assignment.{Assignment}
use Rattle.gql_change.proofs.AssignedLemmas.{map-map, map_same, all_weaker, acts_on-others, node_with, edge_with, node_numbers, edge_numbers, is_graph-assigned}

-- An item of ascending numbers is the one that its number finds.
module _ {X : Type 0} (key : X → ℕ) (n : ℕ) where
  abbrev found : List X → Option X
  found xs = find (λ r. key r == n) xs

  abbrev pub FindsItself : List X → X → Type 0
  FindsItself xs x = (key x == n) ≡ true → found xs ≡ Some x

  above : (low k high : ℕ) (xs : List X) → low ≤ k → numbers_ascend k (map key xs) high ≡ true → AllByRecursion (λ x. low < key x) xs
  above low k high [] le h = tt
  above low k high (x ∷ xs) le h =
      let first : k < key x = grind (arith, nat_tests, (and_parts (nat_lt k (key x)) (numbers_ascend (key x) (map key xs) high) h).0) in
      (omega arith, above low (key x) high xs (omega arith) ((and_parts (nat_lt k (key x)) (numbers_ascend (key x) (map key xs) high) h).1))

  apart : (y z : X) → key y < key z → (key z == n) ≡ true → (key y == n) ≡ false
  apart y z h p = let same : key z ≡ n = eqb-true (key z) n p in grind (arith, nat_tests)

  skip : (y : X) (ys zs : List X) → AllByRecursion (FindsItself ys) zs → AllByRecursion (λ x. key y < key x) zs → AllByRecursion (FindsItself (y ∷ ys)) zs
  skip y ys [] a b = tt
  skip y ys (z ∷ zs) a b = (λ p. ap (λ t. cond t (Some y) (found ys)) (apart y z b.0 p) ∙ a.0 p, skip y ys zs a.1 b.1)

  pub found_self : (low high : ℕ) (xs : List X) → numbers_ascend low (map key xs) high ≡ true → AllByRecursion (FindsItself xs) xs
  found_self low high [] h = tt
  found_self low high (y ∷ ys) h =
      let rest = (and_parts (nat_lt low (key y)) (numbers_ascend (key y) (map key ys) high) h).1 in
      (λ p. ap (λ t. cond t (Some y) (found ys)) p, skip y ys ys (found_self (key y) high ys rest) (above (key y) (key y) high ys (omega arith) rest))

-- an item is put over the one of its number, and all others are changed
pub put_over-map : {X : Type 0} (key : X → ℕ) (item : X) (before after : X → X) (high : ℕ) (xs : List X) → numbers_ascend 0 (map key xs) high ≡ true
    → ((x : X) → FindsItself key (key item) xs x → cond (key (before x) == key item) item (before x) ≡ after x) → put_over key item (map before xs) ≡ map after xs
put_over-map {X} key item before after high xs up each =
    map-map before (λ (y : X). cond (key y == key item) item y) xs
    ∙ map_same (λ (x : X). cond (key (before x) == key item) item (before x)) after xs
    (all_weaker (FindsItself key (key item) xs) (λ (x : X). cond (key (before x) == key item) item (before x) ≡ after x) xs each (found_self key (key item) 0 high xs up))

is_some-map : {A B : Type 0} (f : A → B) (o : Option A) → is_some (option_map f o) ≡ is_some o
is_some-map f None = refl
is_some-map f (Some x) = refl

same_ends_itself : (e : Ends) → same_ends e e ≡ true
same_ends_itself (Directed s t) = and_from (s.0 == s.0) (t.0 == t.0) (eq-eqb s.0 s.0 refl) (eq-eqb t.0 t.0 refl)
same_ends_itself (Undirected l h) = and_from (l.0 == l.0) (h.0 == h.0) (eq-eqb l.0 l.0 refl) (eq-eqb h.0 h.0 refl)

has_ends_if : (g : PropertyGraph) (r old : EdgeRecord) → edge_of g r.number ≡ Some old → same_ends old.ends r.ends ≡ true → has_ends g r ≡ true
has_ends_if g r old p q = rw p q

module _ (g : PropertyGraph) (one : is_graph g ≡ true) (xs : List Assignment) (fit : all_fit g xs ≡ true) where
  -- A node.
  module _ (n : NodeId) where
    abbrev swapped_node : NodeRecord
    swapped_node = record {
      number = n;
      labels = labels_after (acts_on (elem.Node n) xs) (labels_of g (elem.Node n));
      properties = properties_after (acts_on (elem.Node n) xs) (properties_of g (elem.Node n));
    }

    node_case : (b : Bool) (x : NodeRecord) → (x.number.0 == n.0) ≡ b → (b ≡ true → node_of g n ≡ Some x)
        → cond b swapped_node (node_with (others (elem.Node n) xs) x) ≡ node_with xs x
    node_case true x p h =
        let k : n.0 ≡ x.number.0 = sym (eqb-true x.number.0 n.0 p) in
        let num : n ≡ x.number = ap (λ (m : ℕ). let i : NodeId = record { 0 = m } in i) k in
        let it : node_of g n ≡ Some x = h refl in
        let ls : labels_of g (elem.Node n) ≡ x.labels = ap (λ (o : Option NodeRecord). labels_in (option_map (λ (r : NodeRecord). r.labels) o)) it in
        let ps : properties_of g (elem.Node n) ≡ x.properties = ap (λ (o : Option NodeRecord). properties_in (option_map (λ (r : NodeRecord). r.properties) o)) it in
        λ i. record {
          number = num i;
          labels = labels_after (acts_on (elem.Node (num i)) xs) (ls i);
          properties = properties_after (acts_on (elem.Node (num i)) xs) (ps i);
        }
    node_case false x p h = ap (λ (acts : List Act). node_after acts x) (acts_on-others (elem.Node x.number) (elem.Node n) xs p)

    nodes_swapped : put_over node_key swapped_node (map (node_with (others (elem.Node n) xs)) g.nodes) ≡ map (node_with xs) g.nodes
    nodes_swapped =
        put_over-map node_key swapped_node (node_with (others (elem.Node n) xs)) (node_with xs) g.next_node g.nodes
        ((and_parts (numbers_ascend 0 (map node_key g.nodes) g.next_node) (nat_lt g.next_node (2 ^ 32)) (node_numbers g one)).0)
        (λ x h. node_case (x.number.0 == n.0) x refl h)

    edges_stay : map (edge_with (others (elem.Node n) xs)) g.edges ≡ map (edge_with xs) g.edges
    edges_stay = λ i. map (λ (x : EdgeRecord). edge_after (acts_on-others (elem.Edge x.number) (elem.Node n) xs refl i) x) g.edges

    node_changed : changed (change.SwapNode swapped_node) (assigned (others (elem.Node n) xs) g) ≡ assigned xs g
    node_changed = λ i. record { nodes = nodes_swapped i; edges = edges_stay i; next_node = g.next_node; next_edge = g.next_edge }

    node_there : is_some (node_of g n) ≡ true → has_node (assigned (others (elem.Node n) xs) g) n ≡ true
    node_there there =
        ap (λ o. is_some o) (find-map (λ (r : NodeRecord). r.number.0 == n.0) (node_with (others (elem.Node n) xs)) g.nodes)
        ∙ is_some-map (node_with (others (elem.Node n) xs)) (node_of g n) ∙ there

    node_leads : is_some (node_of g n) ≡ true → LeadTo (assigned (others (elem.Node n) xs) g) (change.SwapNode swapped_node ∷ []) (assigned xs g)
    node_leads there = (
      and_from (can_act (change.SwapNode swapped_node) (assigned (others (elem.Node n) xs) g)) true
          (and_from (has_node (assigned (others (elem.Node n) xs) g) n) (is_graph (changed (change.SwapNode swapped_node) (assigned (others (elem.Node n) xs) g)))
          (node_there there) (ap is_graph node_changed ∙ is_graph-assigned g one xs fit)) refl,
      node_changed,
    )

  -- An edge.
  module _ (n : EdgeId) (old : EdgeRecord) (it : edge_of g n ≡ Some old) where
    abbrev swapped_edge : EdgeRecord
    swapped_edge = record {
      number = n;
      ends = old.ends;
      labels = labels_after (acts_on (elem.Edge n) xs) (labels_of g (elem.Edge n));
      properties = properties_after (acts_on (elem.Edge n) xs) (properties_of g (elem.Edge n));
    }

    edge_case : (b : Bool) (x : EdgeRecord) → (x.number.0 == n.0) ≡ b → (b ≡ true → edge_of g n ≡ Some x)
        → cond b swapped_edge (edge_with (others (elem.Edge n) xs) x) ≡ edge_with xs x
    edge_case true x p h =
        let k : n.0 ≡ x.number.0 = sym (eqb-true x.number.0 n.0 p) in
        let num : n ≡ x.number = ap (λ (m : ℕ). let i : EdgeId = record { 0 = m } in i) k in
        let here : edge_of g n ≡ Some x = h refl in
        let same : old ≡ x = some_one old x (sym it ∙ here) in
        let ls : labels_of g (elem.Edge n) ≡ x.labels = ap (λ (o : Option EdgeRecord). labels_in (option_map (λ (r : EdgeRecord). r.labels) o)) here in
        let ps : properties_of g (elem.Edge n) ≡ x.properties = ap (λ (o : Option EdgeRecord). properties_in (option_map (λ (r : EdgeRecord). r.properties) o)) here in
        λ i. record {
          number = num i;
          ends = (same i).ends;
          labels = labels_after (acts_on (elem.Edge (num i)) xs) (ls i);
          properties = properties_after (acts_on (elem.Edge (num i)) xs) (ps i);
        }
      where
        some_one : (a b : EdgeRecord) → Some a ≡ Some b → a ≡ b
        some_one a b e = cc
    edge_case false x p h = ap (λ (acts : List Act). edge_after acts x) (acts_on-others (elem.Edge x.number) (elem.Edge n) xs p)

    edges_swapped : put_over edge_key swapped_edge (map (edge_with (others (elem.Edge n) xs)) g.edges) ≡ map (edge_with xs) g.edges
    edges_swapped =
        put_over-map edge_key swapped_edge (edge_with (others (elem.Edge n) xs)) (edge_with xs) g.next_edge g.edges
        ((and_parts (numbers_ascend 0 (map edge_key g.edges) g.next_edge) (nat_lt g.next_edge (2 ^ 32)) (edge_numbers g one)).0)
        (λ x h. edge_case (x.number.0 == n.0) x refl h)

    nodes_stay : map (node_with (others (elem.Edge n) xs)) g.nodes ≡ map (node_with xs) g.nodes
    nodes_stay = λ i. map (λ (x : NodeRecord). node_after (acts_on-others (elem.Node x.number) (elem.Edge n) xs refl i) x) g.nodes

    edge_changed : changed (change.SwapEdge swapped_edge) (assigned (others (elem.Edge n) xs) g) ≡ assigned xs g
    edge_changed = λ i. record { nodes = nodes_stay i; edges = edges_swapped i; next_node = g.next_node; next_edge = g.next_edge }

    edge_there : has_ends (assigned (others (elem.Edge n) xs) g) swapped_edge ≡ true
    edge_there =
        has_ends_if (assigned (others (elem.Edge n) xs) g) swapped_edge (edge_with (others (elem.Edge n) xs) old)
        (find-map (λ (r : EdgeRecord). r.number.0 == n.0) (edge_with (others (elem.Edge n) xs)) g.edges ∙ ap (option_map (edge_with (others (elem.Edge n) xs))) it)
        (same_ends_itself old.ends)

    edge_leads : LeadTo (assigned (others (elem.Edge n) xs) g) (change.SwapEdge swapped_edge ∷ []) (assigned xs g)
    edge_leads = (
      and_from (can_act (change.SwapEdge swapped_edge) (assigned (others (elem.Edge n) xs) g)) true
          (and_from (has_ends (assigned (others (elem.Edge n) xs) g) swapped_edge) (is_graph (changed (change.SwapEdge swapped_edge) (assigned (others (elem.Edge n) xs) g)))
          edge_there (ap is_graph edge_changed ∙ is_graph-assigned g one xs fit)) refl,
      edge_changed,
    )

  edge_swaps : (n : EdgeId) (o : Option EdgeRecord) → edge_of g n ≡ o → is_some o ≡ true
      → LeadTo (assigned (others (elem.Edge n) xs) g)
      (swap_edge n (option_map (λ (r : EdgeRecord). r.ends) o) (labels_after (acts_on (elem.Edge n) xs) (labels_of g (elem.Edge n))) (properties_after (acts_on (elem.Edge n) xs) (properties_of g (elem.Edge n))))
      (assigned xs g)
  edge_swaps n None it there = absurd (cc)
  edge_swaps n (Some old) it there = edge_leads n old it

  pub swaps_lead : (e : Elem) → has_element g e ≡ true → LeadTo (assigned (others e xs) g) (swaps g e (acts_on e xs)) (assigned xs g)
  swaps_lead (elem.Node n) there = node_leads n there
  swaps_lead (elem.Edge n) there = edge_swaps n (edge_of g n) refl there

pub leads_append : (g h k : PropertyGraph) (cs ds : List Change) → LeadTo g cs h → LeadTo h ds k → LeadTo g (cs ++ ds) k
leads_append g h k [] ds p q = subst (λ (x : PropertyGraph). LeadTo x ds k) (sym p.1) q
leads_append g h k (c ∷ cs) ds p q =
    let rest = leads_append (changed c g) h k cs ds ((and_parts (can_act c g) (can_act_each cs (changed c g)) p.0).1, p.1) q in
    (and_from (can_act c g) (can_act_each (cs ++ ds) (changed c g)) ((and_parts (can_act c g) (can_act_each cs (changed c g)) p.0).0) rest.0, rest.1)

-- nothing is done
pub nothing_leads : (g : PropertyGraph) → LeadTo g [] (assigned [] g)
nothing_leads g = (refl, λ i. record { nodes = sym (map-id g.nodes) i; edges = sym (map-id g.edges) i; next_node = g.next_node; next_edge = g.next_edge })
