-- The lists of an element, place by place: since names strictly ascend, each name finds its own property.
use Rattle.std.proofs.Common.{◌≡◌, ℕ, zero, suc, ◌+◌, Bool, true, false, cond, List, [], ◌∷◌, ◌++◌, map, take, refl, sym, ap, subst, ◌∙◌, arith, Option, Some, None, Bor, slice_get}
use Rattle.std.proofs.lemmas.Bool.{and_parts}
use Rattle.std.specs.Prelude.{◌&&◌, ◌==◌, find, option_map}
use Rattle.std.specs.List.{list_all}
use Rattle.std.specs.Option.{option_copied}
use Rattle.std.specs.declared.cmp.Ordering.TheVariants.{Less}
use Rattle.std.proofs.lemmas.Slice.Eq.{bytes_eq-Decides}
use Rattle.gql_values3.specs.Datum.{Datum}
use Rattle.gql_values3.specs.Texts.{same_text, ascend_above, texts_ascend}
use Rattle.gql_values3.specs.PropertyGraph.{PropertyGraph, is_graph, is_property, are_properties, are_numbers, are_nodes, are_edges, are_ends, is_node_record, is_edge_record}
use Rattle.gql_values3.specs.Lookup.{properties_in, properties_of, node_of, edge_of}
use Rattle.gql_values3.specs.declared.element.Elem.{Elem}
use Rattle.gql_values3.specs.declared.element.Elem.TheVariants as elem
use Rattle.gql_values3.specs.declared.records.NodeRecord.{NodeRecord}
use Rattle.gql_values3.specs.declared.records.EdgeRecord.{EdgeRecord}
use Rattle.gql_values3.specs.Datum.{or_null}
use Rattle.gql_graph.proofs.AscendingTexts.{text_cmp, first_above, above_rest, above_ascends, apart_turned}
use Rattle.gql_graph.proofs.CatalogLemmas.{names}
use Rattle.gql_change.specs.Storing.{PropertyList}

pub taken : {A : Type 0} (xs : List A) (n : ℕ) (x : A) → Some x ≡ slice_get xs n → take (n + 1) xs ≡ take n xs ++ x ∷ []
taken [] n x h = absurd (cc)
taken (y ∷ ys) zero x h = let same : x ≡ y = cc in ap (λ z. z ∷ []) (sym same)
taken (y ∷ ys) (suc n) x h =
    let one : suc n + 1 ≡ suc (n + 1) = omega arith in
    rw one (ap (λ zs. y ∷ zs) (taken ys n x h))

pub all_taken : {A : Type 0} (xs : List A) (n : ℕ) → None ≡ slice_get xs n → take n xs ≡ xs
all_taken [] zero h = refl
all_taken [] (suc n) h = refl
all_taken (y ∷ ys) zero h = absurd (cc)
all_taken (y ∷ ys) (suc n) h = ap (λ zs. y ∷ zs) (all_taken ys n h)

-- what is not Some is None
pub copied_none : {A : Type 0} (o : Option (Bor A)) (r : Option A) → ((x : Bor A) → o ≡ Some x → ⊥) → option_copied o ≡ r → None ≡ r
copied_none None r h p = p
copied_none (Some x) r h p = absurd (h x refl)

-- a text among those above a bound
above_at : (low : List ℕ) (ks : List (List ℕ)) (n : ℕ) (x : List ℕ) → ascend_above low ks ≡ true → Some x ≡ slice_get ks n → text_cmp low x ≡ Less
above_at low [] n x h p = absurd (cc)
above_at low (k ∷ ks) zero x h p = let same : x ≡ k = cc in ap (text_cmp low) same ∙ first_above low k ks h
above_at low (k ∷ ks) (suc n) x h p = above_at low ks n x (above_rest low k ks h) p

-- the value that a name finds
abbrev pub found_value : List ℕ → PropertyList → Datum
found_value x ps = or_null (option_map (λ (p : List ℕ × Datum). p.1) (find (λ (p : List ℕ × Datum). same_text x p.0) ps))

abbrev value_if : Bool → List ℕ × Datum → PropertyList → List ℕ → Datum
value_if b p ps x = or_null (option_map (λ (q : List ℕ × Datum). q.1) (cond b (Some p) (find (λ (q : List ℕ × Datum). same_text x q.0) ps)))

pub property_taken : (ps : PropertyList) (n : ℕ) (x : List ℕ) → texts_ascend (names ps) ≡ true → Some x ≡ slice_get (names ps) n
    → take (n + 1) ps ≡ take n ps ++ (x, found_value x ps) ∷ []
property_taken [] n x h p = absurd (cc)
property_taken (q ∷ qs) zero x h p =
    let same : x ≡ q.0 = cc in
    let here : same_text x q.0 ≡ true = (bytes_eq-Decides x q.0).1 same in
    λ i. (sym same i, value_if (sym here i) q qs x) ∷ []
property_taken (q ∷ qs) (suc n) x h p =
    let one : suc n + 1 ≡ suc (n + 1) = omega arith in
    let other : same_text x q.0 ≡ false = apart_turned q.0 x (above_at q.0 (names qs) n x h p) in
    rw one (ap (λ zs. q ∷ zs) (property_taken qs n x (above_ascends q.0 (names qs) h) p ∙ ap (λ b. take n qs ++ (x, value_if b q qs x) ∷ []) (sym other)))

-- what all have, one that is found has
found_case : {A : Type 0} (b : Bool) (p : A → Bool) (x r : A) (o : Option A) → p x ≡ true → (o ≡ Some r → p r ≡ true) → cond b (Some x) o ≡ Some r → p r ≡ true
found_case true p x r o h k e = let same : x ≡ r = cc in subst (λ z. p z ≡ true) same h
found_case false p x r o h k e = k e

pub found_has : {A : Type 0} (p q : A → Bool) (xs : List A) (r : A) → list_all p xs ≡ true → find q xs ≡ Some r → p r ≡ true
found_has p q [] r h e = absurd (cc)
found_has p q (x ∷ xs) r h e =
    found_case (q x) p x r (find q xs) ((and_parts (p x) (list_all p xs) h).0) (found_has p q xs r ((and_parts (p x) (list_all p xs) h).1)) e

module _ (g : PropertyGraph) (one : is_graph g ≡ true) where
  pub nodes_fit : list_all is_node_record g.nodes ≡ true
  nodes_fit =
      (and_parts (are_numbers (map (λ (r : NodeRecord). r.number.0) g.nodes) g.next_node) (list_all is_node_record g.nodes) ((and_parts (are_nodes g.nodes g.next_node) (are_edges g.nodes g.edges g.next_edge) one).0)).1

  pub edges_fit : list_all (is_edge_record g.nodes) g.edges ≡ true
  edges_fit =
      (and_parts (are_numbers (map (λ (r : EdgeRecord). r.number.0) g.edges) g.next_edge) (list_all (is_edge_record g.nodes) g.edges) ((and_parts (are_nodes g.nodes g.next_node) (are_edges g.nodes g.edges g.next_edge) one).1)).1

  node_properties : (o : Option NodeRecord) → ((r : NodeRecord) → o ≡ Some r → is_node_record r ≡ true) → are_properties (properties_in (option_map (λ (r : NodeRecord). r.properties) o)) ≡ true
  node_properties None h = refl
  node_properties (Some r) h = (and_parts (texts_ascend r.labels) (are_properties r.properties) (h r refl)).1

  edge_properties : (o : Option EdgeRecord) → ((r : EdgeRecord) → o ≡ Some r → is_edge_record g.nodes r ≡ true) → are_properties (properties_in (option_map (λ (r : EdgeRecord). r.properties) o)) ≡ true
  edge_properties None h = refl
  edge_properties (Some r) h =
      (and_parts (texts_ascend r.labels) (are_properties r.properties) ((and_parts (texts_ascend r.labels && are_properties r.properties) (are_ends g.nodes r.ends) (h r refl)).0)).1

  pub properties_fit : (e : Elem) → are_properties (properties_of g e) ≡ true
  properties_fit (elem.Node n) = node_properties (node_of g n) (λ r p. found_has is_node_record (λ (x : NodeRecord). x.number.0 == n.0) g.nodes r nodes_fit p)
  properties_fit (elem.Edge n) = edge_properties (edge_of g n) (λ r p. found_has (is_edge_record g.nodes) (λ (x : EdgeRecord). x.number.0 == n.0) g.edges r edges_fit p)

  pub names_fit : (e : Elem) → texts_ascend (names (properties_of g e)) ≡ true
  names_fit e = (and_parts (texts_ascend (names (properties_of g e))) (list_all (λ (p : List ℕ × Datum). is_property p.1) (properties_of g e)) (properties_fit e)).0

-- the names are over where the properties are
pub names_over : (ps : PropertyList) (n : ℕ) → None ≡ slice_get (names ps) n → None ≡ slice_get ps n
names_over [] n h = refl
names_over (p ∷ ps) zero h = absurd (cc)
names_over (p ∷ ps) (suc n) h = names_over ps n h
