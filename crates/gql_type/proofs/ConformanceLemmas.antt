-- Among elements and types that are in order, what the code finds is what conformance says.
use Rattle.std.proofs.Common.{◌≡◌, ℕ, zero, suc, ◌<◌, ◌≤◌, nat_lt, nat_le, ◌^◌, Bool, true, false, not, cond, ◌&&◌, ◌||◌, ◌==◌, List, [], ◌∷◌, map, length, Option, Some, None, refl, sym, ap, subst, ◌∙◌, arith}
use Rattle.std.proofs.Math.Bool.{and_assoc}
use Rattle.std.specs.Prelude.{find, option_map, is_some, slice_get}
use Rattle.std.specs.Option.{option_or}
use Rattle.std.specs.List.{list_all, list_any}
use Rattle.std.proofs.lemmas.Bool.{and_from, and_parts, not-false, or_right}
use Rattle.std.proofs.lemmas.Bool.Decides.{nat_tests}
use Rattle.gql_values3.specs.Datum.{Datum}
use Rattle.gql_values3.specs.Texts.{texts_ascend}
use Rattle.gql_values3.specs.PropertyGraph.{PropertyGraph, is_graph, is_node_record, is_edge_record, is_property, are_properties, are_ends, are_numbers, are_nodes, are_edges, numbers_ascend}
use Rattle.gql_values3.specs.Lookup.{node_of}
use Rattle.gql_values3.specs.declared.element.NodeId.{NodeId}
use Rattle.gql_values3.specs.declared.element.Elem.{Elem}
use Rattle.gql_values3.specs.declared.element.Elem.TheVariants as elem
use Rattle.gql_values3.specs.declared.element.Ends.{Ends}
use Rattle.gql_values3.specs.declared.element.Ends.TheVariants as ends
use Rattle.gql_values3.specs.declared.records.NodeRecord.{NodeRecord}
use Rattle.gql_values3.specs.declared.records.EdgeRecord.{EdgeRecord}
use Rattle.gql_graph.specs.declared.graph_type.PropType.{PropType}
use Rattle.gql_graph.specs.declared.graph_type.NodeType.{NodeType}
use Rattle.gql_graph.specs.declared.graph_type.EdgeType.{EdgeType}
use Rattle.gql_graph.specs.declared.graph_type.GraphType.{GraphType}
use Rattle.gql_graph.proofs.CatalogLemmas.{names}
use Rattle.gql_type.specs.GraphTypes.{is_content_type, is_node_type, is_edge_type, is_graph_type}
use Rattle.gql_type.specs.Conformance.{PropertyList, same_set, is_allowed, is_provided, has_content, fits_node_type, both_fit, is_end, has_ends, fits_edge_type, node_fits, edge_fits, conforms, first_misfit, is_least_misfit}
use Rattle.gql_type.specs.Machinery.InOrder.{matches_content, matches_node_type, both_match, end_matches, ends_match, matches_edge_type, node_matches, edge_matches, first_unmatched}
use Rattle.gql_graph.specs.Machinery.Ascending.{AscendsTo}
use Rattle.gql_type.proofs.SetLemmas.{same_names-in_order}
use Rattle.gql_type.proofs.MatchingLemmas.{names_of, are_matched-in_order}

-- two tests that agree on all items that pass a third
module _ {A : Type 0} (p f h : A → Bool) (agree : (x : A) → p x ≡ true → f x ≡ h x) where
  same_any : (xs : List A) → list_all p xs ≡ true → list_any f xs ≡ list_any h xs
  same_any [] all = refl
  same_any (x ∷ xs) all = let both = and_parts (p x) (list_all p xs) all in λ i. agree x both.0 i || same_any xs both.1 i

  same_find : (xs : List A) → list_all p xs ≡ true → find f xs ≡ find h xs
  same_find [] all = refl
  same_find (x ∷ xs) all = let both = and_parts (p x) (list_all p xs) all in λ i. cond (agree x both.0 i) (Some x) (same_find xs both.1 i)

found_case : {A : Type 0} (p : A → Bool) (b : Bool) (x y : A) (r : Option A) → p x ≡ true → (r ≡ Some y → p y ≡ true) → cond b (Some x) r ≡ Some y → p y ≡ true
found_case p true x y r h more e = let same : x ≡ y = cc in ap p (sym same) ∙ h
found_case p false x y r h more e = more e

-- what is found among items that pass a test passes it
found_passes : {A : Type 0} (p q : A → Bool) (xs : List A) (y : A) → list_all p xs ≡ true → find q xs ≡ Some y → p y ≡ true
found_passes p q [] y all e = absurd (cc)
found_passes p q (x ∷ xs) y all e =
    let both = and_parts (p x) (list_all p xs) all in
    found_case p (q x) x y (find q xs) both.0 (λ r. found_passes p q xs y both.1 r) e

-- so does what stands at a place
got_passes : {A : Type 0} (p : A → Bool) (xs : List A) (i : ℕ) (y : A) → list_all p xs ≡ true → slice_get xs i ≡ Some y → p y ≡ true
got_passes p [] i y all e = absurd (cc)
got_passes p (x ∷ xs) zero y all e = let same : x ≡ y = cc in ap p (sym same) ∙ (and_parts (p x) (list_all p xs) all).0
got_passes p (x ∷ xs) (suc i) y all e = got_passes p xs i y ((and_parts (p x) (list_all p xs) all).1) e

module _ (labels : List (List ℕ)) (body : List PropType) (ls : List (List ℕ)) (ps : PropertyList) (kind : is_content_type labels body ≡ true) (own : (texts_ascend ls && are_properties ps) ≡ true) where
  content_matches : matches_content labels body ls ps ≡ has_content labels body ls ps
  content_matches =
      let type_parts = and_parts (texts_ascend labels) (texts_ascend (names_of body)) kind in
      let own_parts = and_parts (texts_ascend ls) (are_properties ps) own in
      let rising = (and_parts (texts_ascend (names ps)) (list_all (λ (p : List ℕ × Datum). is_property p.1) ps) own_parts.1).0 in
      (λ i. same_names-in_order ls labels own_parts.0 type_parts.0 i && are_matched-in_order body ps type_parts.1 rising i)
      ∙ sym (and_assoc (same_set ls labels) (list_all (is_allowed body) ps) (list_all (is_provided ps) body))

node_agrees : (r : NodeRecord) (t : NodeType) → is_node_record r ≡ true → is_node_type t ≡ true → matches_node_type r t ≡ fits_node_type r t
node_agrees r t own kind = content_matches t.labels t.body r.labels r.properties kind own

-- of a graph type in order
module _ (t : GraphType) (typed : is_graph_type t ≡ true) where
  node_types : list_all is_node_type t.nodes ≡ true
  node_types = (and_parts (list_all is_node_type t.nodes) (list_all (is_edge_type (length t.nodes)) t.edges) typed).0

  edge_types : list_all (is_edge_type (length t.nodes)) t.edges ≡ true
  edge_types = (and_parts (list_all is_node_type t.nodes) (list_all (is_edge_type (length t.nodes)) t.edges) typed).1

  -- one node fits where the code finds that it does
  pub one_node : (r : NodeRecord) → is_node_record r ≡ true → node_matches t r ≡ node_fits t r
  one_node r own = same_any is_node_type (matches_node_type r) (fits_node_type r) (λ k kind. node_agrees r k own kind) t.nodes node_types

  both_agree : (r : Option NodeRecord) (k : Option NodeType) → ((x : NodeRecord) → r ≡ Some x → is_node_record x ≡ true) → ((x : NodeType) → k ≡ Some x → is_node_type x ≡ true)
      → both_match r k ≡ both_fit r k
  both_agree (Some r) (Some k) h j = node_agrees r k (h r refl) (j k refl)
  both_agree (Some r) None h j = refl
  both_agree None k h j = refl

  module _ (g : PropertyGraph) (records : list_all is_node_record g.nodes ≡ true) where
    end_agrees : (n : NodeId) (place : ℕ) → end_matches g.nodes t n place ≡ is_end g t n place
    end_agrees n place =
        both_agree (node_of g n) (slice_get t.nodes place)
        (λ x e. found_passes is_node_record _ g.nodes x records e) (λ x e. got_passes is_node_type t.nodes place x node_types e)

    ends_agree : (e : Ends) (k : EdgeType) → ends_match g.nodes t e k ≡ has_ends g t e k
    ends_agree (ends.Directed s d) k = λ i. k.directed && end_agrees s k.first i && end_agrees d k.second i
    ends_agree (ends.Undirected l h) k =
        λ i. not k.directed && ((end_agrees l k.first i && end_agrees h k.second i) || (end_agrees h k.first i && end_agrees l k.second i))

    edge_agrees : (r : EdgeRecord) → (texts_ascend r.labels && are_properties r.properties) ≡ true → (k : EdgeType) → is_edge_type (length t.nodes) k ≡ true → matches_edge_type g.nodes t r k ≡ fits_edge_type g t r k
    edge_agrees r own k kind =
        let content = (and_parts (is_content_type k.labels k.body) (nat_lt k.first (length t.nodes)) ((and_parts (is_content_type k.labels k.body && nat_lt k.first (length t.nodes)) (nat_lt k.second (length t.nodes)) kind).0)).0 in
        λ i. content_matches k.labels k.body r.labels r.properties content own i && ends_agree r.ends k i

    pub one_edge : (r : EdgeRecord) → (texts_ascend r.labels && are_properties r.properties) ≡ true → edge_matches g.nodes t r ≡ edge_fits g t r
    one_edge r own = same_any (is_edge_type (length t.nodes)) (matches_edge_type g.nodes t r) (fits_edge_type g t r) (λ k kind. edge_agrees r own k kind) t.edges edge_types

-- of nodes that are those of some graph
pub records_of : (nodes : List NodeRecord) (next : ℕ) → are_nodes nodes next ≡ true → list_all is_node_record nodes ≡ true
records_of nodes next are = (and_parts (are_numbers (map (λ (r : NodeRecord). r.number.0) nodes) next) (list_all is_node_record nodes) are).1

pub numbers_of : (nodes : List NodeRecord) (next : ℕ) → are_nodes nodes next ≡ true → AscendsTo (λ (r : NodeRecord). r.number.0) nodes
numbers_of nodes next are =
    let numbers = (and_parts (are_numbers (map (λ (r : NodeRecord). r.number.0) nodes) next) (list_all is_node_record nodes) are).0 in
    (next, (and_parts (numbers_ascend 0 (map (λ (r : NodeRecord). r.number.0) nodes) next) (nat_lt next (2 ^ 32)) numbers).0)

-- in any graph of these nodes
pub edge_in_any : (t : GraphType) (nodes : List NodeRecord) (r : EdgeRecord) (g : PropertyGraph) → is_graph_type t ≡ true → list_all is_node_record nodes ≡ true
    → (texts_ascend r.labels && are_properties r.properties) ≡ true → g.nodes ≡ nodes → edge_matches nodes t r ≡ edge_fits g t r
edge_in_any t nodes r g typed records own same =
    ap (λ (ns : List NodeRecord). edge_matches ns t r) (sym same) ∙ one_edge t typed g (ap (list_all is_node_record) same ∙ records) r own

module _ (g : PropertyGraph) (t : GraphType) (one : is_graph g ≡ true) (typed : is_graph_type t ≡ true) where
  abbrev nodes_part : (are_nodes g.nodes g.next_node ≡ true) × (are_edges g.nodes g.edges g.next_edge ≡ true)
  nodes_part = and_parts (are_nodes g.nodes g.next_node) (are_edges g.nodes g.edges g.next_edge) one

  node_records : list_all is_node_record g.nodes ≡ true
  node_records = records_of g.nodes g.next_node nodes_part.0

  edge_records : list_all (is_edge_record g.nodes) g.edges ≡ true
  edge_records = (and_parts (are_numbers (map (λ (r : EdgeRecord). r.number.0) g.edges) g.next_edge) (list_all (is_edge_record g.nodes) g.edges) nodes_part.1).1

  own_lists : (r : EdgeRecord) → is_edge_record g.nodes r ≡ true → (texts_ascend r.labels && are_properties r.properties) ≡ true
  own_lists r own = (and_parts (texts_ascend r.labels && are_properties r.properties) (are_ends g.nodes r.ends) own).0

  node_found : find (λ r. not (node_matches t r)) g.nodes ≡ find (λ r. not (node_fits t r)) g.nodes
  node_found = same_find is_node_record (λ r. not (node_matches t r)) (λ r. not (node_fits t r)) (λ r own. ap not (one_node t typed r own)) g.nodes node_records

  edge_found : find (λ r. not (edge_matches g.nodes t r)) g.edges ≡ find (λ r. not (edge_fits g t r)) g.edges
  edge_found = same_find (is_edge_record g.nodes) (λ r. not (edge_matches g.nodes t r)) (λ r. not (edge_fits g t r)) (λ r own. ap not (one_edge t typed g node_records r (own_lists r own))) g.edges edge_records

  pub first_is_found : first_unmatched g t ≡ first_misfit g t
  first_is_found = λ i. option_or (option_map (λ (r : NodeRecord). elem.Node r.number) (node_found i)) (option_map (λ (r : EdgeRecord). elem.Edge r.number) (edge_found i))

-- something is found where not all pass
found_unless : {A : Type 0} (p : A → Bool) (xs : List A) → is_some (find (λ x. not (p x)) xs) ≡ not (list_all p xs)
found_unless p [] = refl
found_unless p (x ∷ xs) = by_case (p x) x (find (λ y. not (p y)) xs) (list_all p xs) (found_unless p xs)
  where
    by_case : {A : Type 0} (b : Bool) (x : A) (r : Option A) (c : Bool) → is_some r ≡ not c → is_some (cond (not b) (Some x) r) ≡ not (b && c)
    by_case true x r c h = h
    by_case false x r c h = refl

none_found : {A : Type 0} (p : A → Bool) (xs : List A) → None ≡ find (λ x. not (p x)) xs → list_all p xs ≡ true
none_found p xs e = not-false (list_all p xs) (sym (found_unless p xs) ∙ ap is_some (sym e))

-- of items by ascending number, what is found first has the least
module _ {A : Type 0} (key : A → ℕ) (p : A → Bool) (high : ℕ) where
  later : (k low : ℕ) (xs : List A) → k ≤ low → numbers_ascend low (map key xs) high ≡ true → list_all (λ x. p x || nat_le k (key x)) xs ≡ true
  later k low [] le up = refl
  later k low (x ∷ xs) le up =
      let parts = and_parts (nat_lt low (key x)) (numbers_ascend (key x) (map key xs) high) up in
      let below : low < key x = grind (arith, nat_tests, parts.0) in
      let le_key : k ≤ key x = omega arith in
      and_from (p x || nat_le k (key x)) (list_all (λ y. p y || nat_le k (key y)) xs) (or_right (p x) (nat_le k (key x)) (grind (arith, nat_tests))) (later k (key x) xs le_key parts.1)

  abbrev Least : A → List A → Type 0
  Least y xs = (list_any (λ x. (key x == key y) && not (p x)) xs ≡ true) × (list_all (λ x. p x || nat_le (key y) (key x)) xs ≡ true)

  least_case : (b : Bool) (x y : A) (xs : List A) → p x ≡ b → numbers_ascend (key x) (map key xs) high ≡ true
      → (find (λ z. not (p z)) xs ≡ Some y → Least y xs) → cond (not b) (Some x) (find (λ z. not (p z)) xs) ≡ Some y → Least y (x ∷ xs)
  least_case true x y xs e up more h =
      let rest = more h in
      (or_right ((key x == key y) && not (p x)) _ rest.0, and_from (p x || nat_le (key y) (key x)) _ (ap (λ b. b || nat_le (key y) (key x)) e) rest.1)
  least_case false x y xs e up more h =
      let same : x ≡ y = cc in
      let own : Least x (x ∷ xs) = (
        ap (λ b. ((key x == key x) && not b) || list_any (λ z. (key z == key x) && not (p z)) xs) e ∙ itself (key x) _,
        and_from (p x || nat_le (key x) (key x)) _ (or_right (p x) (nat_le (key x) (key x)) (grind (arith, nat_tests))) (later (key x) (key x) xs (omega arith) up),
      ) in
      subst (λ (z : A). Least z (x ∷ xs)) same own
    where
      itself : (k : ℕ) (b : Bool) → (((k == k) && true) || b) ≡ true
      itself k b = grind (arith, nat_tests)

  least_found : (low : ℕ) (xs : List A) (y : A) → numbers_ascend low (map key xs) high ≡ true → find (λ x. not (p x)) xs ≡ Some y → Least y xs
  least_found low [] y up e = absurd (cc)
  least_found low (x ∷ xs) y up e =
      let parts = and_parts (nat_lt low (key x)) (numbers_ascend (key x) (map key xs) high) up in
      least_case (p x) x y xs refl parts.1 (λ r. least_found (key x) xs y parts.1 r) e

module _ (g : PropertyGraph) (t : GraphType) where
  abbrev some_of : {A : Type 0} {B : Type 0} (f : A → Elem) (h : B → Elem) (a : Option A) (b : Option B) → is_some (option_or (option_map f a) (option_map h b)) ≡ (is_some a || is_some b)
  some_of f h None None = refl
  some_of f h None (Some b) = refl
  some_of f h (Some a) b = refl

  pub found_conforms : is_some (first_misfit g t) ≡ not (conforms g t)
  found_conforms =
      some_of (λ (r : NodeRecord). elem.Node r.number) (λ (r : EdgeRecord). elem.Edge r.number) (find (λ r. not (node_fits t r)) g.nodes) (find (λ r. not (edge_fits g t r)) g.edges)
      ∙ (λ i. found_unless (node_fits t) g.nodes i || found_unless (edge_fits g t) g.edges i)
      ∙ either (list_all (node_fits t) g.nodes) (list_all (edge_fits g t) g.edges)
    where
      either : (a b : Bool) → (not a || not b) ≡ not (a && b)
      either true b = refl
      either false b = refl

  pub no_misfit : first_misfit g t ≡ None → conforms g t ≡ true
  no_misfit none = not-false (conforms g t) (sym found_conforms ∙ ap is_some none)

module _ (g : PropertyGraph) (t : GraphType) (one : is_graph g ≡ true) where
  parts : (are_nodes g.nodes g.next_node ≡ true) × (are_edges g.nodes g.edges g.next_edge ≡ true)
  parts = and_parts (are_nodes g.nodes g.next_node) (are_edges g.nodes g.edges g.next_edge) one

  node_numbers : numbers_ascend 0 (map (λ (r : NodeRecord). r.number.0) g.nodes) g.next_node ≡ true
  node_numbers = (and_parts _ _ (and_parts (are_numbers (map (λ (r : NodeRecord). r.number.0) g.nodes) g.next_node) (list_all is_node_record g.nodes) parts.0).0).0

  edge_numbers : numbers_ascend 0 (map (λ (r : EdgeRecord). r.number.0) g.edges) g.next_edge ≡ true
  edge_numbers = (and_parts _ _ (and_parts (are_numbers (map (λ (r : EdgeRecord). r.number.0) g.edges) g.next_edge) (list_all (is_edge_record g.nodes) g.edges) parts.1).0).0

  least_of : (a : Option NodeRecord) (b : Option EdgeRecord) (e : Elem) → a ≡ find (λ r. not (node_fits t r)) g.nodes → b ≡ find (λ r. not (edge_fits g t r)) g.edges
      → option_or (option_map (λ (r : NodeRecord). elem.Node r.number) a) (option_map (λ (r : EdgeRecord). elem.Edge r.number) b) ≡ Some e → is_least_misfit g t e ≡ true
  least_of (Some r) b e p q h =
      let same : elem.Node r.number ≡ e = cc in
      let least = least_found (λ (x : NodeRecord). x.number.0) (node_fits t) g.next_node 0 g.nodes r node_numbers (sym p) in
      ap (is_least_misfit g t) (sym same) ∙ and_from _ _ least.0 least.1
  least_of None (Some r) e p q h =
      let same : elem.Edge r.number ≡ e = cc in
      let least = least_found (λ (x : EdgeRecord). x.number.0) (edge_fits g t) g.next_edge 0 g.edges r edge_numbers (sym q) in
      ap (is_least_misfit g t) (sym same) ∙ and_from _ _ (and_from _ _ (none_found (node_fits t) g.nodes p) least.0) least.1
  least_of None None e p q h = absurd (cc)

  pub found_is_least : (e : Elem) → first_misfit g t ≡ Some e → is_least_misfit g t e ≡ true
  found_is_least e h = least_of _ _ e refl refl h
