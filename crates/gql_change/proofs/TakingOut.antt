-- Taking edges and nodes out of a graph one by one: it stays a graph, and what is left is a filter of its lists.
use Rattle.std.proofs.Common.{◌≡◌, ℕ, ◌^◌, Bool, true, false, not, cond, eqb, ◌&&◌, List, [], ◌∷◌, ◌++◌, map, reverse, Option, Some, None, refl, sym, ap, ◌∙◌, arith}
use Rattle.std.proofs.Math.Bool.{and-true}
use Rattle.std.proofs.lemmas.Bool.{and_from, and_parts}
use Rattle.std.specs.Prelude.{◌||◌, filter, find, is_some, nat_lt, nat_le}
use Rattle.std.specs.List.{list_all}
use Rattle.std.proofs.lemmas.List.{reverse-append, map-append}
use Rattle.std.proofs.lemmas.Map.Views.{any-filter_same}
use Rattle.std.proofs.lemmas.Bool.Decides.{nat_tests}
use Rattle.gql_values3.specs.PropertyGraph.{PropertyGraph, numbers_ascend, are_numbers, are_nodes, are_edges, are_ends, is_among, is_node_record, is_edge_record, is_graph}
use Rattle.gql_values3.specs.Texts.{texts_ascend}
use Rattle.gql_values3.specs.PropertyGraph.{are_properties}
use Rattle.gql_values3.specs.Lookup.{edge_of, has_node}
use Rattle.gql_values3.specs.declared.element.NodeId.{NodeId}
use Rattle.gql_values3.specs.declared.element.EdgeId.{EdgeId}
use Rattle.gql_values3.specs.declared.element.Ends.{Ends}
use Rattle.gql_values3.specs.declared.element.Ends.TheVariants.{Directed, Undirected}
use Rattle.gql_values3.specs.declared.records.NodeRecord.{NodeRecord}
use Rattle.gql_values3.specs.declared.records.EdgeRecord.{EdgeRecord}
use Rattle.gql_graph.specs.Edits.{taken_out, node_key, edge_key, with_nodes, with_edges, changed, has_edge, can_act, can_act_each, changed_by_each}
use Rattle.gql_graph.specs.declared.change.Change.{Change}
use Rattle.gql_change.specs.Machinery.Rising.{rises}
use Rattle.gql_change.specs.Machinery.DeletionSteps.{has_number, edge_out, node_out}
use Rattle.gql_change.proofs.ApplyLemmas.{can_act_each-append, changed_by_each-append}
use Rattle.gql_change.proofs.RisingLemmas.{eqb_same, not_among, rises_tail}

-- some of the items
module _ {X : Type 0} where
  pub list_all-filter : (t p : X → Bool) (xs : List X) → list_all t xs ≡ true → list_all t (filter p xs) ≡ true
  list_all-filter t p [] h = refl
  list_all-filter t p (x ∷ xs) h = by_case (p x) (list_all-filter t p xs ((and_parts (t x) (list_all t xs) h).1))
    where
      by_case : (b : Bool) → list_all t (filter p xs) ≡ true → list_all t (cond b (x ∷ filter p xs) (filter p xs)) ≡ true
      by_case true rest = and_from (t x) (list_all t (filter p xs)) ((and_parts (t x) (list_all t xs) h).0) rest
      by_case false rest = rest

  pub list_all_both : (s t : X → Bool) (xs : List X) → list_all s xs ≡ true → list_all t xs ≡ true → list_all (λ x. s x && t x) xs ≡ true
  list_all_both s t [] h k = refl
  list_all_both s t (x ∷ xs) h k =
      and_from (s x && t x) (list_all (λ y. s y && t y) xs) (and_from (s x) (t x) ((and_parts (s x) (list_all s xs) h).0) ((and_parts (t x) (list_all t xs) k).0))
      (list_all_both s t xs ((and_parts (s x) (list_all s xs) h).1) ((and_parts (t x) (list_all t xs) k).1))

  pub list_all_weaker : (s t : X → Bool) → ((x : X) → s x ≡ true → t x ≡ true) → (xs : List X) → list_all s xs ≡ true → list_all t xs ≡ true
  list_all_weaker s t to [] h = refl
  list_all_weaker s t to (x ∷ xs) h =
      and_from (t x) (list_all t xs) (to x ((and_parts (s x) (list_all s xs) h).0)) (list_all_weaker s t to xs ((and_parts (s x) (list_all s xs) h).1))

  -- two tests that agree on the items
  pub filter_where : (t p q : X → Bool) → ((x : X) → t x ≡ true → p x ≡ q x) → (xs : List X) → list_all t xs ≡ true → filter p xs ≡ filter q xs
  filter_where t p q same [] h = refl
  filter_where t p q same (x ∷ xs) h =
      let rest = filter_where t p q same xs ((and_parts (t x) (list_all t xs) h).1) in
      let here = same x ((and_parts (t x) (list_all t xs) h).0) in
      λ i. cond (here i) (x ∷ rest i) (rest i)

  pub filter_all : (xs : List X) → filter (λ (x : X). true) xs ≡ xs
  filter_all [] = refl
  filter_all (x ∷ xs) = ap (λ l. x ∷ l) (filter_all xs)

  both_filters : (a b : Bool) (x : X) (xs ys : List X) → xs ≡ ys → cond b (cond (not a) (x ∷ xs) xs) xs ≡ cond (not a && b) (x ∷ ys) ys
  both_filters true true x xs ys h = h
  both_filters true false x xs ys h = h
  both_filters false true x xs ys h = ap (λ l. x ∷ l) h
  both_filters false false x xs ys h = h

  lower : (b : Bool) (f : X → Bool) (x : X) (xs : List X) → filter f (cond b (x ∷ xs) xs) ≡ cond b (cond (f x) (x ∷ filter f xs) (filter f xs)) (filter f xs)
  lower true f x xs = refl
  lower false f x xs = refl

-- the items without these numbers
abbrev pub without : {X : Type 0} → (X → ℕ) → List ℕ → List X → List X
without key ns xs = filter (λ y. not (has_number ns (key y))) xs

not_or : (a b : Bool) → (not a && not b) ≡ not (a || b)
not_or true b = refl
not_or false b = refl

module _ {X : Type 0} (key : X → ℕ) where
  -- one more is taken out
  pub without_one : (n : ℕ) (ns : List ℕ) (xs : List X) → taken_out key n (without key ns xs) ≡ without key (n ∷ ns) xs
  without_one n ns [] = refl
  without_one n ns (x ∷ xs) =
      lower (not (has_number ns (key x))) (λ y. not (eqb (key y) n)) x (without key ns xs)
      ∙ both_filters (eqb (key x) n) (not (has_number ns (key x))) x (taken_out key n (without key ns xs)) (without key (n ∷ ns) xs) (without_one n ns xs)
      ∙ ap (λ (b : Bool). cond b (x ∷ without key (n ∷ ns) xs) (without key (n ∷ ns) xs)) (not_or (eqb (key x) n) (has_number ns (key x)))

  -- one that isn't among them is still there
  pub there_still : (n : ℕ) (ns : List ℕ) (xs : List X) → has_number ns n ≡ false → find (λ y. eqb (key y) n) (without key ns xs) ≡ find (λ y. eqb (key y) n) xs
  there_still n ns [] h = refl
  there_still n ns (x ∷ xs) h = by_case (has_number ns (key x)) (eqb (key x) n) refl refl (there_still n ns xs h)
    where
      by_case : (b c : Bool) → has_number ns (key x) ≡ b → eqb (key x) n ≡ c → find (λ y. eqb (key y) n) (without key ns xs) ≡ find (λ y. eqb (key y) n) xs
          → find (λ y. eqb (key y) n) (cond (not b) (x ∷ without key ns xs) (without key ns xs)) ≡ cond c (Some x) (find (λ y. eqb (key y) n) xs)
      by_case true true out same rest = let e : true ≡ false = sym out ∙ ap (has_number ns) (eqb_same (key x) n same) ∙ h in absurd (cc)
      by_case true false out same rest = rest
      by_case false true out same rest = ap (λ (t : Bool). cond t (Some x) (find (λ y. eqb (key y) n) (without key ns xs))) same
      by_case false false out same rest = ap (λ (t : Bool). cond t (Some x) (find (λ y. eqb (key y) n) (without key ns xs))) same ∙ rest

  -- the numbers of some items still ascend to the same bound
  below : (low m high : ℕ) (ns : List ℕ) → nat_lt low m ≡ true → numbers_ascend m ns high ≡ true → numbers_ascend low ns high ≡ true
  below low m high [] lt h = grind (arith, nat_tests, lt, h)
  below low m high (n ∷ ns) lt h =
      and_from (nat_lt low n) (numbers_ascend n ns high) (let k = (and_parts (nat_lt m n) (numbers_ascend n ns high) h).0 in grind (arith, nat_tests, lt, k))
      ((and_parts (nat_lt m n) (numbers_ascend n ns high) h).1)

  pub numbers-filter : (p : X → Bool) (low high : ℕ) (xs : List X) → numbers_ascend low (map key xs) high ≡ true → numbers_ascend low (map key (filter p xs)) high ≡ true
  numbers-filter p low high [] h = h
  numbers-filter p low high (x ∷ xs) h =
      by_case (p x) ((and_parts (nat_lt low (key x)) (numbers_ascend (key x) (map key xs) high) h).0)
      (numbers-filter p (key x) high xs ((and_parts (nat_lt low (key x)) (numbers_ascend (key x) (map key xs) high) h).1))
    where
      by_case : (b : Bool) → nat_lt low (key x) ≡ true → numbers_ascend (key x) (map key (filter p xs)) high ≡ true → numbers_ascend low (map key (cond b (x ∷ filter p xs) (filter p xs))) high ≡ true
      by_case true here rest = and_from (nat_lt low (key x)) (numbers_ascend (key x) (map key (filter p xs)) high) here rest
      by_case false here rest = below low (key x) high (map key (filter p xs)) here rest

  are-filter : (p : X → Bool) (next : ℕ) (xs : List X) → are_numbers (map key xs) next ≡ true → are_numbers (map key (filter p xs)) next ≡ true
  are-filter p next xs h =
      and_from (numbers_ascend 0 (map key (filter p xs)) next) (nat_lt next (2 ^ 32)) (numbers-filter p 0 next xs ((and_parts (numbers_ascend 0 (map key xs) next) (nat_lt next (2 ^ 32)) h).0))
      ((and_parts (numbers_ascend 0 (map key xs) next) (nat_lt next (2 ^ 32)) h).1)

-- neither end is among the nodes that go
abbrev pub ends_stay : List ℕ → Ends → Bool
ends_stay ns (Directed s t) = not (has_number ns s.0) && not (has_number ns t.0)
ends_stay ns (Undirected l h) = not (has_number ns l.0) && not (has_number ns h.0)

among_without : (ns : List ℕ) (nodes : List NodeRecord) (s : NodeId) → not (has_number ns s.0) ≡ true → is_among nodes s ≡ true → is_among (without node_key ns nodes) s ≡ true
among_without ns nodes s out there =
    any-filter_same (λ (r : NodeRecord). eqb r.number.0 s.0) (λ (r : NodeRecord). not (has_number ns (node_key r))) true
    (λ r same. ap (λ k. not (has_number ns k)) (eqb_same r.number.0 s.0 same) ∙ out) nodes ∙ there

ends_there : (ns : List ℕ) (nodes : List NodeRecord) (ends : Ends) → ends_stay ns ends ≡ true → are_ends nodes ends ≡ true → are_ends (without node_key ns nodes) ends ≡ true
ends_there ns nodes (Directed s t) out there =
    and_from (is_among (without node_key ns nodes) s) (is_among (without node_key ns nodes) t)
    (among_without ns nodes s ((and_parts (not (has_number ns s.0)) (not (has_number ns t.0)) out).0) ((and_parts (is_among nodes s) (is_among nodes t) there).0))
    (among_without ns nodes t ((and_parts (not (has_number ns s.0)) (not (has_number ns t.0)) out).1) ((and_parts (is_among nodes s) (is_among nodes t) there).1))
ends_there ns nodes (Undirected l h) out there =
    let both = (and_parts (is_among nodes l && is_among nodes h) (nat_le l.0 h.0) there).0 in
    and_from (is_among (without node_key ns nodes) l && is_among (without node_key ns nodes) h) (nat_le l.0 h.0)
    (and_from (is_among (without node_key ns nodes) l) (is_among (without node_key ns nodes) h)
    (among_without ns nodes l ((and_parts (not (has_number ns l.0)) (not (has_number ns h.0)) out).0) ((and_parts (is_among nodes l) (is_among nodes h) both).0))
    (among_without ns nodes h ((and_parts (not (has_number ns l.0)) (not (has_number ns h.0)) out).1) ((and_parts (is_among nodes l) (is_among nodes h) both).1)))
    ((and_parts (is_among nodes l && is_among nodes h) (nat_le l.0 h.0) there).1)

edge_without : (ns : List ℕ) (nodes : List NodeRecord) (r : EdgeRecord) → (is_edge_record nodes r && ends_stay ns r.ends) ≡ true → is_edge_record (without node_key ns nodes) r ≡ true
edge_without ns nodes r h =
    let one = (and_parts (is_edge_record nodes r) (ends_stay ns r.ends) h).0 in
    and_from (texts_ascend r.labels && are_properties r.properties) (are_ends (without node_key ns nodes) r.ends)
    ((and_parts (texts_ascend r.labels && are_properties r.properties) (are_ends nodes r.ends) one).0)
    (ends_there ns nodes r.ends ((and_parts (is_edge_record nodes r) (ends_stay ns r.ends) h).1) ((and_parts (texts_ascend r.labels && are_properties r.properties) (are_ends nodes r.ends) one).1))

module _ (g : PropertyGraph) (one : is_graph g ≡ true) where
  pub nodes_are : are_nodes g.nodes g.next_node ≡ true
  nodes_are = (and_parts (are_nodes g.nodes g.next_node) (are_edges g.nodes g.edges g.next_edge) one).0

  pub edges_are : are_edges g.nodes g.edges g.next_edge ≡ true
  edges_are = (and_parts (are_nodes g.nodes g.next_node) (are_edges g.nodes g.edges g.next_edge) one).1

  pub node_numbers : are_numbers (map node_key g.nodes) g.next_node ≡ true
  node_numbers = (and_parts (are_numbers (map node_key g.nodes) g.next_node) (list_all is_node_record g.nodes) nodes_are).0

  pub edge_numbers : are_numbers (map edge_key g.edges) g.next_edge ≡ true
  edge_numbers = (and_parts (are_numbers (map edge_key g.edges) g.next_edge) (list_all (is_edge_record g.nodes) g.edges) edges_are).0

  pub edge_records : list_all (is_edge_record g.nodes) g.edges ≡ true
  edge_records = (and_parts (are_numbers (map edge_key g.edges) g.next_edge) (list_all (is_edge_record g.nodes) g.edges) edges_are).1

  -- without some edges it is a graph
  pub graph_of_edges : (p : EdgeRecord → Bool) → is_graph (with_edges g (filter p g.edges) g.next_edge) ≡ true
  graph_of_edges p =
      and_from (are_nodes g.nodes g.next_node) (are_edges g.nodes (filter p g.edges) g.next_edge) nodes_are
      (and_from (are_numbers (map edge_key (filter p g.edges)) g.next_edge) (list_all (is_edge_record g.nodes) (filter p g.edges)) (are-filter edge_key p g.next_edge g.edges edge_numbers)
      (list_all-filter (is_edge_record g.nodes) p g.edges edge_records))

  -- and without nodes that no edge touches
  pub graph_of_nodes : (ns : List ℕ) → list_all (λ (r : EdgeRecord). ends_stay ns r.ends) g.edges ≡ true → is_graph (with_nodes g (without node_key ns g.nodes) g.next_node) ≡ true
  graph_of_nodes ns stay =
      and_from (are_nodes (without node_key ns g.nodes) g.next_node) (are_edges (without node_key ns g.nodes) g.edges g.next_edge)
      (and_from (are_numbers (map node_key (without node_key ns g.nodes)) g.next_node) (list_all is_node_record (without node_key ns g.nodes))
      (are-filter node_key (λ (r : NodeRecord). not (has_number ns (node_key r))) g.next_node g.nodes node_numbers)
      (list_all-filter is_node_record (λ (r : NodeRecord). not (has_number ns (node_key r))) g.nodes
      ((and_parts (are_numbers (map node_key g.nodes) g.next_node) (list_all is_node_record g.nodes) nodes_are).1)))
      (and_from (are_numbers (map edge_key g.edges) g.next_edge) (list_all (is_edge_record (without node_key ns g.nodes)) g.edges) edge_numbers
      (list_all_weaker (λ (r : EdgeRecord). is_edge_record g.nodes r && ends_stay ns r.ends) (is_edge_record (without node_key ns g.nodes)) (edge_without ns g.nodes) g.edges
      (list_all_both (is_edge_record g.nodes) (λ (r : EdgeRecord). ends_stay ns r.ends) g.edges edge_records stay)))

-- an edge is there where one is found
pub has_edge_if : (g : PropertyGraph) (e : EdgeId) (o : Option EdgeRecord) → edge_of g e ≡ o → has_edge g e ≡ is_some o
has_edge_if g e None h = rw h refl
has_edge_if g e (Some r) h = rw h refl

last_out : (out : ℕ → Change) (n : ℕ) (ns : List ℕ) → map out (reverse (n ∷ ns)) ≡ map out (reverse ns) ++ out n ∷ []
last_out out n ns = ap (map out) (reverse-append (n ∷ []) ns) ∙ map-append out (reverse ns) (n ∷ [])

module _ (cs : List Change) (c : Change) (all : List Change) (g h k : PropertyGraph) (is : all ≡ cs ++ c ∷ []) (leads : changed_by_each cs g ≡ h) where
  acts_too : can_act_each cs g ≡ true → can_act c h ≡ true → can_act_each all g ≡ true
  acts_too acts act =
      ap (λ (l : List Change). can_act_each l g) is ∙ can_act_each-append cs (c ∷ []) g
      ∙ and_from (can_act_each cs g) (can_act c (changed_by_each cs g) && true) acts (and-true (can_act c (changed_by_each cs g)) ∙ ap (can_act c) leads ∙ act)

  leads_too : changed c h ≡ k → changed_by_each all g ≡ k
  leads_too leads_on = ap (λ (l : List Change). changed_by_each l g) is ∙ changed_by_each-append cs (c ∷ []) g ∙ ap (changed c) leads ∙ leads_on

head_not_among : (n : ℕ) (ns : List ℕ) → rises (n ∷ ns) ≡ true → has_number ns n ≡ false
head_not_among n ns up = not_among n ns n up (omega arith)

module _ (g : PropertyGraph) (one : is_graph g ≡ true) where
  abbrev edges_left : List ℕ → PropertyGraph
  edges_left ns = with_edges g (without edge_key ns g.edges) g.next_edge

  pub edges_out : (ns : List ℕ) → rises ns ≡ true → list_all (λ n. has_edge g (record { 0 = n })) ns ≡ true
      → (can_act_each (map edge_out (reverse ns)) g ≡ true) × (changed_by_each (map edge_out (reverse ns)) g ≡ edges_left ns)
  edges_out [] up there = (refl, λ i. with_edges g (sym (filter_all g.edges) i) g.next_edge)
  edges_out (n ∷ ns) up there =
      let before = edges_out ns (rises_tail n ns up) ((and_parts (has_edge g (record { 0 = n })) (list_all (λ m. has_edge g (record { 0 = m })) ns) there).1) in
      let leads_on : changed (edge_out n) (edges_left ns) ≡ edges_left (n ∷ ns) = ap (λ (l : List EdgeRecord). with_edges g l g.next_edge) (without_one edge_key n ns g.edges) in
      let found : has_edge (edges_left ns) (record { 0 = n }) ≡ true =
      has_edge_if (edges_left ns) (record { 0 = n }) (edge_of g (record { 0 = n })) (there_still edge_key n ns g.edges (head_not_among n ns up))
      ∙ sym (has_edge_if g (record { 0 = n }) (edge_of g (record { 0 = n })) refl) ∙ (and_parts (has_edge g (record { 0 = n })) (list_all (λ m. has_edge g (record { 0 = m })) ns) there).0 in
      let act : can_act (edge_out n) (edges_left ns) ≡ true =
      and_from (has_edge (edges_left ns) (record { 0 = n })) (is_graph (changed (edge_out n) (edges_left ns))) found
      (ap is_graph leads_on ∙ graph_of_edges g one (λ (r : EdgeRecord). not (has_number (n ∷ ns) (edge_key r)))) in (
        acts_too (map edge_out (reverse ns)) (edge_out n) (map edge_out (reverse (n ∷ ns))) g (edges_left ns) (edges_left (n ∷ ns)) (last_out edge_out n ns) before.1 before.0 act,
        leads_too (map edge_out (reverse ns)) (edge_out n) (map edge_out (reverse (n ∷ ns))) g (edges_left ns) (edges_left (n ∷ ns)) (last_out edge_out n ns) before.1 leads_on,
      )

  abbrev nodes_left : List ℕ → PropertyGraph
  nodes_left ns = with_nodes g (without node_key ns g.nodes) g.next_node

  both_stay : (n : ℕ) (ns : List ℕ) (k m : ℕ) → (not (has_number (n ∷ ns) k) && not (has_number (n ∷ ns) m)) ≡ true → (not (has_number ns k) && not (has_number ns m)) ≡ true
  both_stay n ns k m h =
      let parts = and_parts (not (has_number (n ∷ ns) k)) (not (has_number (n ∷ ns) m)) h in
      and_from (not (has_number ns k)) (not (has_number ns m)) (weaker (eqb k n) (has_number ns k) parts.0) (weaker (eqb m n) (has_number ns m) parts.1)
    where
      weaker : (a b : Bool) → not (a || b) ≡ true → not b ≡ true
      weaker true b h = absurd (cc)
      weaker false b h = h

  fewer_stay : (n : ℕ) (ns : List ℕ) (e : Ends) → ends_stay (n ∷ ns) e ≡ true → ends_stay ns e ≡ true
  fewer_stay n ns (Directed s t) h = both_stay n ns s.0 t.0 h
  fewer_stay n ns (Undirected s t) h = both_stay n ns s.0 t.0 h

  pub nodes_out : (ns : List ℕ) → rises ns ≡ true → list_all (λ n. has_node g (record { 0 = n })) ns ≡ true → list_all (λ (r : EdgeRecord). ends_stay ns r.ends) g.edges ≡ true
      → (can_act_each (map node_out (reverse ns)) g ≡ true) × (changed_by_each (map node_out (reverse ns)) g ≡ nodes_left ns)
  nodes_out [] up there stay = (refl, λ i. with_nodes g (sym (filter_all g.nodes) i) g.next_node)
  nodes_out (n ∷ ns) up there stay =
      let before = nodes_out ns (rises_tail n ns up) ((and_parts (has_node g (record { 0 = n })) (list_all (λ m. has_node g (record { 0 = m })) ns) there).1)
      (list_all_weaker (λ (r : EdgeRecord). ends_stay (n ∷ ns) r.ends) (λ (r : EdgeRecord). ends_stay ns r.ends) (λ r. fewer_stay n ns r.ends) g.edges stay) in
      let leads_on : changed (node_out n) (nodes_left ns) ≡ nodes_left (n ∷ ns) = ap (λ (l : List NodeRecord). with_nodes g l g.next_node) (without_one node_key n ns g.nodes) in
      let found : has_node (nodes_left ns) (record { 0 = n }) ≡ true =
      ap is_some (there_still node_key n ns g.nodes (head_not_among n ns up)) ∙ (and_parts (has_node g (record { 0 = n })) (list_all (λ m. has_node g (record { 0 = m })) ns) there).0 in
      let act : can_act (node_out n) (nodes_left ns) ≡ true =
      and_from (has_node (nodes_left ns) (record { 0 = n })) (is_graph (changed (node_out n) (nodes_left ns))) found
      (ap is_graph leads_on ∙ graph_of_nodes g one (n ∷ ns) stay) in (
        acts_too (map node_out (reverse ns)) (node_out n) (map node_out (reverse (n ∷ ns))) g (nodes_left ns) (nodes_left (n ∷ ns)) (last_out node_out n ns) before.1 before.0 act,
        leads_too (map node_out (reverse ns)) (node_out n) (map node_out (reverse (n ∷ ns))) g (nodes_left ns) (nodes_left (n ∷ ns)) (last_out node_out n ns) before.1 leads_on,
      )
