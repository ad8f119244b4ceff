-- The records of a catalog have each a key of its own: the first byte tells what it is about, and behind it names or numbers differ.
use Rattle.std.proofs.Common.{◌≡◌, ◌≢◌, ℕ, ◌+◌, ◌^◌, ◌<◌, Bool, true, ltb, ◌&&◌, List, [], ◌∷◌, ◌++◌, map, length, take, drop, Option, refl, sym, ap, ◌∙◌, arith}
use Rattle.std.specs.Int.{w32, from_be_bytes, to_be_bytes}
use Rattle.std.specs.List.{AllByRecursion, flat_map, list_all}
use Rattle.std.specs.declared.cmp.Ordering.TheVariants.{Less, Equal}
use Rattle.std.proofs.lemmas.Bool.{and_parts, ltb-true}
use Rattle.std.proofs.lemmas.Cmp.{nat_list_cmp_total, tied_itself}
use Rattle.std.proofs.lemmas.List.{append_cancel_left, take_at, length-append}
use Rattle.std.proofs.lemmas.Nat.{from_be_bytes-to_be_bytes_4}
use Rattle.gql_values3.specs.Texts.{ascend_above, texts_ascend}
use Rattle.gql_values3.specs.PropertyGraph.{numbers_ascend, are_numbers, are_nodes, are_edges, is_node_record, is_edge_record, is_graph}
use Rattle.gql_values3.specs.declared.records.NodeRecord.{NodeRecord}
use Rattle.gql_values3.specs.declared.records.EdgeRecord.{EdgeRecord}
use Rattle.gql_graph.specs.Catalog.{CatalogGraph, CatalogData, is_catalog}
use Rattle.gql_graph.specs.declared.graph_type.GraphType.{GraphType}
use Rattle.gql_graph.proofs.AscendingTexts.{first_above, rest_above}
use Rattle.gql_fields.specs.Spelling.{spelled}
use Rattle.gql_rowcode.specs.Records.{Form, version, graph_type, graph, node, edge, key_of}
use Rattle.gql_rowcode.specs.StandFor.{graph_forms, catalog_forms}
use Rattle.gql_rowcode.specs.Machinery.Writing.{text_cmp}
use Rattle.gql_rowcode.proofs.NumberLemmas.{numbers_bound}
use Rattle.gql_rowcode.proofs.OrderingLists.{all_always, all_weaker, all_append, all_map, all_flat_map, Across, Pairs, pairs_append, pairs_weaker, pairs_map, pairs_of_map, pairs_flat_map}

-- ---- parts of keys

pub spelled_same : (a b : List ℕ) → spelled a ≡ spelled b → a ≡ b
spelled_same a b e = ap (drop 8) e

-- names in front of numbers of four bytes
pub name_same : (a b : List ℕ) (n m : ℕ) → spelled a ++ to_be_bytes w32 n ≡ spelled b ++ to_be_bytes w32 m → a ≡ b
name_same a b n m e =
    let rest : a ++ to_be_bytes w32 n ≡ b ++ to_be_bytes w32 m = ap (drop 8) e in
    let lengths : length a + 4 ≡ length b + 4 = sym (length-append a (to_be_bytes w32 n)) ∙ ap length rest ∙ length-append b (to_be_bytes w32 m) in
    let long : length b ≡ length a = omega (arith, lengths) in
    sym (take_at a (to_be_bytes w32 n) (length a) refl) ∙ ap (take (length a)) rest ∙ take_at b (to_be_bytes w32 m) (length a) long

number_same : (n m : ℕ) → n < 2 ^ 32 → m < 2 ^ 32 → to_be_bytes w32 n ≡ to_be_bytes w32 m → n ≡ m
number_same n m p q e = sym (from_be_bytes-to_be_bytes_4 n p) ∙ ap (from_be_bytes w32) e ∙ from_be_bytes-to_be_bytes_4 m q

-- numbers behind one name
pub number_behind : (a : List ℕ) (n m : ℕ) → n < 2 ^ 32 → m < 2 ^ 32 → spelled a ++ to_be_bytes w32 n ≡ spelled a ++ to_be_bytes w32 m → n ≡ m
number_behind a n m p q e = number_same n m p q (append_cancel_left (spelled a) (to_be_bytes w32 n) (to_be_bytes w32 m) e)

-- ---- names in order differ

pub less_differs : (a b : List ℕ) → text_cmp a b ≡ Less → a ≢ b
less_differs a b p e =
    let never : Less ≡ Equal = sym p ∙ ap (text_cmp a) (sym e) ∙ tied_itself nat_list_cmp_total a in
    absurd cc

-- a bound of texts in order is below each
pub all_above : (low : List ℕ) (ks : List (List ℕ)) → ascend_above low ks ≡ true → AllByRecursion (λ k. text_cmp low k ≡ Less) ks
all_above low [] h = tt
all_above low (k ∷ ks) h =
    let first : text_cmp low k ≡ Less = first_above low k ks h in
    (first, all_weaker (λ j. text_cmp k j ≡ Less) (λ j. text_cmp low j ≡ Less) (λ j p. nat_list_cmp_total.trans low k j first p) ks (all_above k ks (rest_above low k ks h)))

names_above : (low : List ℕ) (ks : List (List ℕ)) → ascend_above low ks ≡ true → Pairs (λ a b. a ≢ b) ks
names_above low [] h = tt
names_above low (k ∷ ks) h =
    let rest : ascend_above k ks ≡ true = rest_above low k ks h in
    (all_weaker (λ j. text_cmp k j ≡ Less) (λ j. k ≢ j) (less_differs k) ks (all_above k ks rest), names_above k ks rest)

pub names_differ : (ks : List (List ℕ)) → texts_ascend ks ≡ true → Pairs (λ a b. a ≢ b) ks
names_differ [] h = tt
names_differ (k ∷ ks) h = (all_weaker (λ j. text_cmp k j ≡ Less) (λ j. k ≢ j) (less_differs k) ks (all_above k ks h), names_above k ks h)

-- ---- numbers in order differ

-- one number below another, both below a bound
abbrev Below : ℕ → ℕ → ℕ → Type 0
Below high n m = (n < m) × (m < high)

numbers_above : (low : ℕ) (ns : List ℕ) (high : ℕ) → numbers_ascend low ns high ≡ true → AllByRecursion (Below high low) ns
numbers_above low [] high h = tt
numbers_above low (n ∷ ns) high h =
    let parts = and_parts (ltb low n) (numbers_ascend n ns high) h in
    let first : low < n = ltb-true low n parts.0 in
    ((first, numbers_bound n ns high parts.1), all_weaker (Below high n) (Below high low) (λ m p. (omega (arith, first, p.0), p.1)) ns (numbers_above n ns high parts.1))

numbers_pairs : (low : ℕ) (ns : List ℕ) (high : ℕ) → numbers_ascend low ns high ≡ true → Pairs (Below high) ns
numbers_pairs low [] high h = tt
numbers_pairs low (n ∷ ns) high h =
    let rest : numbers_ascend n ns high ≡ true = (and_parts (ltb low n) (numbers_ascend n ns high) h).1 in
    (numbers_above n ns high rest, numbers_pairs n ns high rest)

-- ---- what is said of one graph

-- the keys differ
abbrev pub Apart : Form → Form → Type 0
Apart f g = key_of f ≢ key_of g

-- elements whose numbers tell their keys apart
elements_apart : {Y : Type 0} (number : Y → ℕ) (say : Y → Form) (exact : (x y : Y) → number x < 2 ^ 32 → number y < 2 ^ 32 → key_of (say x) ≡ key_of (say y) → number x ≡ number y) (ys : List Y) (high : ℕ)
    → are_numbers (map number ys) high ≡ true → Pairs Apart (map say ys)
elements_apart number say exact ys high h =
    let parts = and_parts (numbers_ascend 0 (map number ys) high) (ltb high (2 ^ 32)) h in
    let small : high < 2 ^ 32 = ltb-true high (2 ^ 32) parts.1 in
    let ordered = pairs_of_map (Below high) number ys (numbers_pairs 0 (map number ys) high parts.0) in
    pairs_map Apart say ys
    (pairs_weaker (λ x y. Below high (number x) (number y)) (λ x y. Apart (say x) (say y))
    (λ x y p e. let same : number x ≡ number y = exact x y (omega (arith, p.0, p.1, small)) (omega (arith, p.1, small)) e in omega (arith, p.0, same)) ys ordered)

nodes_apart : (name : List ℕ) (nodes : List NodeRecord) (next : ℕ) → are_numbers (map (λ (r : NodeRecord). r.number.0) nodes) next ≡ true → Pairs Apart (map (node name) nodes)
nodes_apart name nodes next h = elements_apart (λ (r : NodeRecord). r.number.0) (node name) (λ x y p q e. number_behind name x.number.0 y.number.0 p q (ap (drop 1) e)) nodes next h

edges_apart : (name : List ℕ) (edges : List EdgeRecord) (next : ℕ) → are_numbers (map (λ (r : EdgeRecord). r.number.0) edges) next ≡ true → Pairs Apart (map (edge name) edges)
edges_apart name edges next h = elements_apart (λ (r : EdgeRecord). r.number.0) (edge name) (λ x y p q e. number_behind name x.number.0 y.number.0 p q (ap (drop 1) e)) edges next h

-- whatever holds of the three kinds of forms holds of all that is said of a graph
pub all_of_graph : (P : Form → Type 0) (p : List ℕ × CatalogGraph) → P (graph p.0 p.1.kind p.1.graph.next_node p.1.graph.next_edge) → ((r : NodeRecord) → P (node p.0 r)) → ((r : EdgeRecord) → P (edge p.0 r)) → AllByRecursion P (graph_forms p)
all_of_graph P p first nodes edges = (
  first,
  all_append P (map (node p.0) p.1.graph.nodes) (map (edge p.0) p.1.graph.edges)
      (all_map P (node p.0) p.1.graph.nodes (all_always (λ r. P (node p.0 r)) nodes p.1.graph.nodes))
      (all_map P (edge p.0) p.1.graph.edges (all_always (λ r. P (edge p.0 r)) edges p.1.graph.edges)),
)

node_no_edge : (name : List ℕ) (r : NodeRecord) (s : EdgeRecord) → Apart (node name r) (edge name s)
node_no_edge name r s e = absurd cc

graph_no_node : (name other : List ℕ) (kind : Option (List ℕ)) (n m : ℕ) (r : NodeRecord) → Apart (graph name kind n m) (node other r)
graph_no_node name other kind n m r e = absurd cc

graph_no_edge : (name other : List ℕ) (kind : Option (List ℕ)) (n m : ℕ) (r : EdgeRecord) → Apart (graph name kind n m) (edge other r)
graph_no_edge name other kind n m r e = absurd cc

pub graph_apart : (p : List ℕ × CatalogGraph) → is_graph p.1.graph ≡ true → Pairs Apart (graph_forms p)
graph_apart p h =
    let g = p.1.graph in
    let parts = and_parts (are_nodes g.nodes g.next_node) (are_edges g.nodes g.edges g.next_edge) h in
    let nodes = and_parts (are_numbers (map (λ (r : NodeRecord). r.number.0) g.nodes) g.next_node) (list_all is_node_record g.nodes) parts.0 in
    let edges = and_parts (are_numbers (map (λ (r : EdgeRecord). r.number.0) g.edges) g.next_edge) (list_all (is_edge_record g.nodes) g.edges) parts.1 in
    let head : Form = graph p.0 p.1.kind g.next_node g.next_edge in
    let across : Across Apart (map (node p.0) g.nodes) (map (edge p.0) g.edges) =
    all_map (λ f. AllByRecursion (Apart f) (map (edge p.0) g.edges)) (node p.0) g.nodes
    (all_always (λ (r : NodeRecord). AllByRecursion (Apart (node p.0 r)) (map (edge p.0) g.edges)) (λ r. all_map (Apart (node p.0 r)) (edge p.0) g.edges (all_always (λ (s : EdgeRecord). Apart (node p.0 r) (edge p.0 s)) (node_no_edge p.0 r) g.edges)) g.nodes) in (
      all_append (Apart head) (map (node p.0) g.nodes) (map (edge p.0) g.edges)
          (all_map (Apart head) (node p.0) g.nodes (all_always (λ (r : NodeRecord). Apart head (node p.0 r)) (graph_no_node p.0 p.0 p.1.kind g.next_node g.next_edge) g.nodes))
          (all_map (Apart head) (edge p.0) g.edges (all_always (λ (r : EdgeRecord). Apart head (edge p.0 r)) (graph_no_edge p.0 p.0 p.1.kind g.next_node g.next_edge) g.edges)),
      pairs_append Apart (map (node p.0) g.nodes) (map (edge p.0) g.edges) (nodes_apart p.0 g.nodes g.next_node nodes.0) (edges_apart p.0 g.edges g.next_edge edges.0) across,
    )

-- ---- what is said of two graphs

-- it is said of the graph of this name
abbrev IsOf : List ℕ → Form → Type 0
IsOf name version = ⊥
IsOf name (graph_type other t) = ⊥
IsOf name (graph other kind n m) = other ≡ name
IsOf name (node other r) = other ≡ name
IsOf name (edge other r) = other ≡ name

named_apart : (a b : List ℕ) → a ≢ b → (f g : Form) → IsOf a f → IsOf b g → Apart f g
named_apart a b differ version g here there e = here
named_apart a b differ (graph_type c t) g here there e = here
named_apart a b differ (graph c k n m) version here there e = there
named_apart a b differ (graph c k n m) (graph_type d t) here there e = there
named_apart a b differ (graph c k n m) (graph d l i j) here there e = differ (sym here ∙ spelled_same c d (ap (drop 1) e) ∙ there)
named_apart a b differ (graph c k n m) (node d s) here there e = absurd cc
named_apart a b differ (graph c k n m) (edge d s) here there e = absurd cc
named_apart a b differ (node c r) version here there e = there
named_apart a b differ (node c r) (graph_type d t) here there e = there
named_apart a b differ (node c r) (graph d l i j) here there e = absurd cc
named_apart a b differ (node c r) (node d s) here there e = differ (sym here ∙ name_same c d r.number.0 s.number.0 (ap (drop 1) e) ∙ there)
named_apart a b differ (node c r) (edge d s) here there e = absurd cc
named_apart a b differ (edge c r) version here there e = there
named_apart a b differ (edge c r) (graph_type d t) here there e = there
named_apart a b differ (edge c r) (graph d l i j) here there e = absurd cc
named_apart a b differ (edge c r) (node d s) here there e = absurd cc
named_apart a b differ (edge c r) (edge d s) here there e = differ (sym here ∙ name_same c d r.number.0 s.number.0 (ap (drop 1) e) ∙ there)

of_graph : (p : List ℕ × CatalogGraph) → AllByRecursion (IsOf p.0) (graph_forms p)
of_graph p = all_of_graph (IsOf p.0) p refl (λ r. refl) (λ r. refl)

graphs_apart : (p q : List ℕ × CatalogGraph) → p.0 ≢ q.0 → Across Apart (graph_forms p) (graph_forms q)
graphs_apart p q differ =
    all_weaker (IsOf p.0) (λ f. AllByRecursion (Apart f) (graph_forms q))
    (λ f here. all_weaker (IsOf q.0) (Apart f) (λ g there. named_apart p.0 q.0 differ f g here there) (graph_forms q) (of_graph q))
    (graph_forms p) (of_graph p)

-- ---- all that is said of a catalog

all_pass : {X : Type 0} (test : X → Bool) (xs : List X) → list_all test xs ≡ true → AllByRecursion (λ x. test x ≡ true) xs
all_pass test [] h = tt
all_pass test (x ∷ xs) h =
    let parts = and_parts (test x) (list_all test xs) h in
    (parts.0, all_pass test xs parts.1)

types_apart : (ts : List (List ℕ × GraphType)) → texts_ascend (map (λ (t : List ℕ × GraphType). t.0) ts) ≡ true → Pairs Apart (map (λ (t : List ℕ × GraphType). graph_type t.0 t.1) ts)
types_apart ts h =
    pairs_map Apart (λ (t : List ℕ × GraphType). graph_type t.0 t.1) ts
    (pairs_weaker (λ (s t : List ℕ × GraphType). s.0 ≢ t.0) (λ (s t : List ℕ × GraphType). Apart (graph_type s.0 s.1) (graph_type t.0 t.1)) (λ s t differ e. differ (spelled_same s.0 t.0 (ap (drop 1) e))) ts
    (pairs_of_map (λ a b. a ≢ b) (λ (t : List ℕ × GraphType). t.0) ts (names_differ (map (λ (t : List ℕ × GraphType). t.0) ts) h)))

type_no_graph : (name : List ℕ) (t : GraphType) (p : List ℕ × CatalogGraph) → AllByRecursion (Apart (graph_type name t)) (graph_forms p)
type_no_graph name t p = all_of_graph (Apart (graph_type name t)) p (λ e. absurd cc) (λ r e. absurd cc) (λ r e. absurd cc)

version_alone : (p : List ℕ × CatalogGraph) → AllByRecursion (Apart version) (graph_forms p)
version_alone p = all_of_graph (Apart version) p (λ e. absurd cc) (λ r e. absurd cc) (λ r e. absurd cc)

version_no_type : (t : List ℕ × GraphType) → Apart version (graph_type t.0 t.1)
version_no_type t e = absurd cc

-- the keys of what is said of a catalog differ
pub catalog_apart : (c : CatalogData) → is_catalog c ≡ true → Pairs Apart (catalog_forms c)
catalog_apart c h =
    let say : List ℕ × GraphType → Form = λ t. graph_type t.0 t.1 in
    let ones = and_parts (texts_ascend (map (λ (g : List ℕ × CatalogGraph). g.0) c.graphs) && texts_ascend (map (λ (t : List ℕ × GraphType). t.0) c.types)) (list_all (λ (g : List ℕ × CatalogGraph). is_graph g.1.graph) c.graphs) h in
    let names = and_parts (texts_ascend (map (λ (g : List ℕ × CatalogGraph). g.0) c.graphs)) (texts_ascend (map (λ (t : List ℕ × GraphType). t.0) c.types)) ones.0 in
    let graphs : Pairs Apart (flat_map graph_forms c.graphs) =
    pairs_flat_map (λ (p q : List ℕ × CatalogGraph). p.0 ≢ q.0) Apart graph_forms graphs_apart c.graphs
    (all_weaker (λ (p : List ℕ × CatalogGraph). is_graph p.1.graph ≡ true) (λ p. Pairs Apart (graph_forms p)) graph_apart c.graphs (all_pass (λ (g : List ℕ × CatalogGraph). is_graph g.1.graph) c.graphs ones.1))
    (pairs_of_map (λ a b. a ≢ b) (λ (p : List ℕ × CatalogGraph). p.0) c.graphs (names_differ (map (λ (g : List ℕ × CatalogGraph). g.0) c.graphs) names.0)) in
    let across : Across Apart (map say c.types) (flat_map graph_forms c.graphs) =
    all_map (λ f. AllByRecursion (Apart f) (flat_map graph_forms c.graphs)) say c.types
    (all_always (λ (t : List ℕ × GraphType). AllByRecursion (Apart (say t)) (flat_map graph_forms c.graphs))
    (λ t. all_flat_map (Apart (say t)) graph_forms c.graphs (all_always (λ p. AllByRecursion (Apart (say t)) (graph_forms p)) (type_no_graph t.0 t.1) c.graphs)) c.types) in
    let alone : AllByRecursion (Apart version) (map say c.types ++ flat_map graph_forms c.graphs) =
    all_append (Apart version) (map say c.types) (flat_map graph_forms c.graphs)
    (all_map (Apart version) say c.types (all_always (λ (t : List ℕ × GraphType). Apart version (say t)) version_no_type c.types))
    (all_flat_map (Apart version) graph_forms c.graphs (all_always (λ p. AllByRecursion (Apart version) (graph_forms p)) version_alone c.graphs)) in
    (alone, pairs_append Apart (map say c.types) (flat_map graph_forms c.graphs) (types_apart c.types names.1) graphs across)
