-- Records that are made one after the other say what is said of a catalog; in order by key they stand for it.
use Rattle.std.proofs.Common.{◌≡◌, ℕ, zero, suc, ◌+◌, ◌<◌, ◌≤◌, Bool, true, false, ltb, ◌&&◌, List, [], ◌∷◌, ◌++◌, map, length, get_or, take, refl, sym, ap, subst, ◌∙◌, append_assoc, arith}
use Rattle.std.specs.Prelude.{Result, Ok, Err, OnOk, Option, Some, None, if◌then◌else◌}
use Rattle.std.specs.List.{AllByRecursion, flat_map, list_all}
use Rattle.std.specs.List.Sorted.{IsPermutation}
use Rattle.std.proofs.lemmas.Bool.{and_parts}
use Rattle.std.proofs.lemmas.List.{append-nil, map-append, map_push, take_more, take_all}
use Rattle.std.proofs.lemmas.List.Concat.{flat_map-append, flat_map-cons}
use Rattle.std.proofs.lemmas.List.Sorted.{Contains-permutation, IsPermutation-sym, length_permutation}
use Rattle.gql_values3.specs.Datum.{Datum}
use Rattle.gql_values3.specs.Texts.{texts_ascend}
use Rattle.gql_values3.specs.PropertyGraph.{PropertyGraph, are_numbers, are_nodes, are_edges, are_ends, are_properties, is_edge_record, is_graph}
use Rattle.gql_values3.specs.declared.records.EdgeRecord.{EdgeRecord}
use Rattle.gql_ports.specs.Held.{keys_ascend}
use Rattle.gql_ports.specs.declared.stored.Record.{Record}
use Rattle.gql_eval.specs.StableSort.{stably_sorted}
use Rattle.gql_graph.specs.Catalog.{CatalogGraph, CatalogData, is_catalog}
use Rattle.gql_graph.specs.declared.graph_type.PropType.{PropType}
use Rattle.gql_graph.specs.declared.graph_type.EdgeType.{EdgeType}
use Rattle.gql_graph.specs.declared.graph_type.GraphType.{GraphType}
use Rattle.gql_type.specs.GraphTypes.{is_content_type, is_node_type, is_edge_type, is_graph_type}
use Rattle.gql_type.specs.SoundCatalog.{is_sound}
use Rattle.gql_typecode.specs.TypeOrder.{IsNodeTypeInOrder, IsEdgeTypeInOrder, IsTypeInOrder}
use Rattle.gql_rowcode.specs.Records.{Form, version, graph_type, graph, node, edge, record_of, IsForm, Says}
use Rattle.gql_rowcode.specs.StandFor.{graph_forms, catalog_forms, AreRecordsOf, StandFor}
use Rattle.gql_rowcode.specs.Machinery.Writing.{SayAlso, key_before}
use Rattle.gql_rowcode.proofs.OrderingLists.{all_append, pairs_map, contains_of_map, contains_map}
use Rattle.gql_rowcode.proofs.CatalogLemmas.{sound_catalog}
use Rattle.gql_rowcode.proofs.OrderingKeys.{catalog_apart}
use Rattle.gql_rowcode.proofs.OrderingSort.{KeysDiffer, sorted_ascends}

-- ---- records one after the other

-- those that say these, and behind them those that say more
pub say_then : (fs gs : List Form) (a b c : List Record) → SayAlso fs a b → SayAlso gs b c → SayAlso (fs ++ gs) a c
say_then fs gs a b c p q = (
  all_append IsForm fs gs p.0 q.0,
  q.1 ∙ ap (λ rs. rs ++ map record_of gs) p.1 ∙ append_assoc a (map record_of fs) (map record_of gs) ∙ ap (λ rs. a ++ rs) (sym (map-append record_of fs gs)),
)

-- one record more
pub say_one : (f : Form) (r : Record) (a : List Record) → Says f r → SayAlso (f ∷ []) a (a ++ r ∷ [])
say_one f r a says = ((says.0, tt), ap (λ s. a ++ s ∷ []) says.1)

pub say_push : (fs : List Form) (f : Form) (r : Record) (a b : List Record) → SayAlso fs a b → Says f r → SayAlso (fs ++ f ∷ []) a (b ++ r ∷ [])
say_push fs f r a b p says = say_then fs (f ∷ []) a b (b ++ r ∷ []) p (say_one f r b says)

-- one record in front
pub say_first : (f : Form) (fs : List Form) (r : Record) (a c : List Record) → Says f r → SayAlso fs (a ++ r ∷ []) c → SayAlso (f ∷ fs) a c
say_first f fs r a c says rest = say_then (f ∷ []) fs a (a ++ r ∷ []) c (say_one f r a says) rest

-- what is said of one graph
pub say_graph : (p : List ℕ × CatalogGraph) (r : Record) (a b m c : List Record) → Says (graph p.0 p.1.kind p.1.graph.next_node p.1.graph.next_edge) r → b ≡ a ++ r ∷ [] → SayAlso (map (node p.0) p.1.graph.nodes) b m → SayAlso (map (edge p.0) p.1.graph.edges) m c → SayAlso (graph_forms p) a c
say_graph p r a b m c says pushed nodes edges =
    say_first (graph p.0 p.1.kind p.1.graph.next_node p.1.graph.next_edge) (map (node p.0) p.1.graph.nodes ++ map (edge p.0) p.1.graph.edges) r a c says
    (subst (λ rs. SayAlso (map (node p.0) p.1.graph.nodes ++ map (edge p.0) p.1.graph.edges) rs c) pushed (say_then (map (node p.0) p.1.graph.nodes) (map (edge p.0) p.1.graph.edges) b m c nodes edges))

-- what is said of a catalog
pub say_catalog : (c : CatalogData) (r : Record) (b m all : List Record) → Says version r → b ≡ r ∷ [] → SayAlso (map (λ (t : List ℕ × GraphType). graph_type t.0 t.1) c.types) b m → SayAlso (flat_map graph_forms c.graphs) m all → SayAlso (catalog_forms c) [] all
say_catalog c r b m all says pushed types graphs =
    say_first version (map (λ (t : List ℕ × GraphType). graph_type t.0 t.1) c.types ++ flat_map graph_forms c.graphs) r [] all says
    (subst (λ rs. SayAlso (map (λ (t : List ℕ × GraphType). graph_type t.0 t.1) c.types ++ flat_map graph_forms c.graphs) rs all) pushed
    (say_then (map (λ (t : List ℕ × GraphType). graph_type t.0 t.1) c.types) (flat_map graph_forms c.graphs) b m all types graphs))

-- ---- loops that make a record for each item, or several

taken_more : {Y : Type 0} (ys : List Y) (i : ℕ) (y : Y) → i < length ys → y ≡ get_or ys i y → take (i + 1) ys ≡ take i ys ++ y ∷ []
taken_more ys i y lt is = take_more ys i y lt ∙ ap (λ z. take i ys ++ z ∷ []) (sym is)

module _ {Y : Type 0} (say : Y → Form) where
  pub say_more : (ys : List Y) (i : ℕ) (y : Y) (r : Record) (a b : List Record) → i < length ys → y ≡ get_or ys i y → SayAlso (map say (take i ys)) a b → Says (say y) r → SayAlso (map say (take (i + 1) ys)) a (b ++ r ∷ [])
  say_more ys i y r a b lt is so_far says =
      let more : map say (take (i + 1) ys) ≡ map say (take i ys) ++ say y ∷ [] = ap (map say) (taken_more ys i y lt is) ∙ map_push say (take i ys) y in
      subst (λ fs. SayAlso fs a (b ++ r ∷ [])) (sym more) (say_push (map say (take i ys)) (say y) r a b so_far says)

module _ {Y : Type 0} (say : Y → List Form) where
  pub say_more_each : (ys : List Y) (i : ℕ) (y : Y) (a b c : List Record) → i < length ys → y ≡ get_or ys i y → SayAlso (flat_map say (take i ys)) a b → SayAlso (say y) b c → SayAlso (flat_map say (take (i + 1) ys)) a c
  say_more_each ys i y a b c lt is so_far says =
      let one : flat_map say (y ∷ []) ≡ say y = flat_map-cons say y [] ∙ append-nil (say y) in
      let more : flat_map say (take (i + 1) ys) ≡ flat_map say (take i ys) ++ say y = ap (flat_map say) (taken_more ys i y lt is) ∙ flat_map-append say (take i ys) (y ∷ []) ∙ ap (λ fs. flat_map say (take i ys) ++ fs) one in
      subst (λ fs. SayAlso fs a c) (sym more) (say_then (flat_map say (take i ys)) (say y) a b c so_far says)

  pub say_all_each : (ys : List Y) (i : ℕ) (a b : List Record) → length ys ≤ i → SayAlso (flat_map say (take i ys)) a b → SayAlso (flat_map say ys) a b
  say_all_each ys i a b le so_far = subst (λ zs. SayAlso (flat_map say zs) a b) (take_all i ys le) so_far

pub flat_map-map : {A B C : Type 0} (view : A → B) (say : B → List C) (xs : List A) → flat_map say (map view xs) ≡ flat_map (λ x. say (view x)) xs
flat_map-map view say [] = refl
flat_map-map view say (x ∷ xs) = flat_map-cons say (view x) (map view xs) ∙ ap (λ fs. say (view x) ++ fs) (flat_map-map view say xs) ∙ sym (flat_map-cons (λ y. say (view y)) x xs)

-- ---- what is known of elements and types

pub passes_at : {X : Type 0} (test : X → Bool) (xs : List X) (i : ℕ) (d : X) → list_all test xs ≡ true → i < length xs → test (get_or xs i d) ≡ true
passes_at test [] i d all lt = absurd (omega arith)
passes_at test (x ∷ xs) zero d all lt = (and_parts (test x) (list_all test xs) all).0
passes_at test (x ∷ xs) (suc i) d all lt = passes_at test xs i d (and_parts (test x) (list_all test xs) all).1 (omega arith)

-- the labels and the properties are in order
abbrev pub IsContent : List (List ℕ) → List (List ℕ × Datum) → Type 0
IsContent labels properties = (texts_ascend labels ≡ true) × (are_properties properties ≡ true)

pub edge_content : (g : PropertyGraph) (i : ℕ) (r : EdgeRecord) → is_graph g ≡ true → i < length g.edges → r ≡ get_or g.edges i r → IsContent r.labels r.properties
edge_content g i r h lt is =
    let edges = (and_parts (are_nodes g.nodes g.next_node) (are_edges g.nodes g.edges g.next_edge) h).1 in
    let all = (and_parts (are_numbers (map (λ (s : EdgeRecord). s.number.0) g.edges) g.next_edge) (list_all (is_edge_record g.nodes) g.edges) edges).1 in
    let one : is_edge_record g.nodes r ≡ true = ap (is_edge_record g.nodes) is ∙ passes_at (is_edge_record g.nodes) g.edges i r all lt in
    let content = (and_parts (texts_ascend r.labels && are_properties r.properties) (are_ends g.nodes r.ends) one).0 in
    and_parts (texts_ascend r.labels) (are_properties r.properties) content

-- each item passes, and so it has what the test says
all_told : {X : Type 0} (test : X → Bool) (P : X → Type 0) → ((x : X) → test x ≡ true → P x) → (xs : List X) → list_all test xs ≡ true → AllByRecursion P xs
all_told test P told [] h = tt
all_told test P told (x ∷ xs) h =
    let parts = and_parts (test x) (list_all test xs) h in
    (told x parts.0, all_told test P told xs parts.1)

-- sets of a graph type are in order
pub type_in_order : (t : GraphType) → is_graph_type t ≡ true → IsTypeInOrder t
type_in_order t h =
    let parts = and_parts (list_all is_node_type t.nodes) (list_all (is_edge_type (length t.nodes)) t.edges) h in
    record {
      nodes = all_told is_node_type IsNodeTypeInOrder (λ n p. and_parts (texts_ascend n.labels) (texts_ascend (map (λ (q : PropType). q.name) n.body)) p) t.nodes parts.0;
      edges = all_told (is_edge_type (length t.nodes)) IsEdgeTypeInOrder edge_in_order t.edges parts.1;
    }
  where
    edge_in_order : (e : EdgeType) → is_edge_type (length t.nodes) e ≡ true → IsEdgeTypeInOrder e
    edge_in_order e p =
        let both = and_parts (is_content_type e.labels e.body && ltb e.first (length t.nodes)) (ltb e.second (length t.nodes)) p in
        let content = and_parts (is_content_type e.labels e.body) (ltb e.first (length t.nodes)) both.0 in
        and_parts (texts_ascend e.labels) (texts_ascend (map (λ (q : PropType). q.name) e.body)) content.0

-- ---- in order by key

pub all_ascend : (c : CatalogData) (all sorted : List Record) → is_catalog c ≡ true → SayAlso (catalog_forms c) [] all → sorted ≡ stably_sorted key_before all → keys_ascend sorted ≡ true
all_ascend c all sorted h say order =
    ap keys_ascend (order ∙ ap (stably_sorted key_before) say.1)
    ∙ sorted_ascends (map record_of (catalog_forms c)) (pairs_map KeysDiffer record_of (catalog_forms c) (catalog_apart c h))

are_records : (c : CatalogData) (all sorted : List Record) → is_catalog c ≡ true → SayAlso (catalog_forms c) [] all → IsPermutation all sorted → sorted ≡ stably_sorted key_before all → AreRecordsOf sorted c
are_records c all sorted h say same order =
    let made : IsPermutation (map record_of (catalog_forms c)) sorted = subst (λ rs. IsPermutation rs sorted) say.1 same in
    record {
      ascend = all_ascend c all sorted h say order;
      said = λ r there. contains_of_map record_of version (catalog_forms c) r (Contains-permutation sorted (map record_of (catalog_forms c)) r (IsPermutation-sym (map record_of (catalog_forms c)) sorted made) there);
      kept = λ f there. Contains-permutation (map record_of (catalog_forms c)) sorted (record_of f) made (contains_map record_of (catalog_forms c) f there);
    }

-- there is a record at least, that of the version
pub some_records : (c : CatalogData) (all sorted : List Record) → SayAlso (catalog_forms c) [] all → IsPermutation all sorted → 0 < length sorted
some_records c all sorted say same =
    let made : length all ≡ length (map record_of (catalog_forms c)) = ap length say.1 in
    omega (arith, length_permutation all sorted same, made)

stand_by : (c : CatalogData) (records : List Record) → is_sound c ≡ true → AllByRecursion IsForm (catalog_forms c) → AreRecordsOf records c → 0 < length records → StandFor records c
stand_by c [] h fit are some = absurd (omega arith)
stand_by c (r ∷ rs) h fit are some = (h, fit, are)

pub stand_for : (c : CatalogData) (all sorted : List Record) → is_sound c ≡ true → SayAlso (catalog_forms c) [] all → IsPermutation all sorted → sorted ≡ stably_sorted key_before all → StandFor sorted c
stand_for c all sorted h say same order =
    stand_by c sorted h say.0 (are_records c all sorted (sound_catalog c h) say same order) (some_records c all sorted say same)

-- the records that were tested
pub was_tested : (o : Option (List Record)) (b : Bool) (records found : List Record) → o ≡ (if b then Some records else None) → b ≡ true → o ≡ Some found → found ≡ records
was_tested o true records found e t is = let one : Some records ≡ Some found = sym e ∙ is in cc
was_tested o false records found e t is = absurd cc

-- what follows from a promise of a call that went well
pub on_ok : {A E : Type 0} (r : Result A E) (P Q : Type 0) → (P → Q) → OnOk r P → OnOk r Q
on_ok (Ok x) P Q follows p = follows p
on_ok (Err e) P Q follows p = p
