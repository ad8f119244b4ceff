-- What is stored stays in order: names and labels ascend, and the values of properties may be kept.
use Rattle.std.proofs.Common.{◌≡◌, ℕ, Bool, true, not, List, [], ◌∷◌, refl, ap, ◌∙◌}
use Rattle.std.proofs.lemmas.Bool.{and_from, and_parts}
use Rattle.std.specs.Prelude.{◌&&◌}
use Rattle.std.specs.List.{list_all}
use Rattle.std.specs.declared.cmp.Ordering.{Ordering}
use Rattle.std.specs.declared.cmp.Ordering.TheVariants.{Less, Equal, Greater}
use Rattle.std.specs.Ordering.{is_lt}
use Rattle.std.proofs.lemmas.Map.Lookups.{exact_bytes}
use Rattle.gql_values3.specs.Datum.{Datum, null, boolean, integer, text, list, node, edge, path}
use Rattle.gql_values3.specs.Texts.{same_text, ascend_above, texts_ascend}
use Rattle.gql_values3.specs.PropertyGraph.{is_storable, is_property, are_properties}
use Rattle.gql_graph.proofs.AscendingTexts.{text_cmp, rest_above, turned, texts_ascend-filter}
use Rattle.gql_graph.proofs.CatalogLemmas.{names}
use Rattle.gql_graph.proofs.NamedLemmas.{names_ascend-without, list_all-without}
use Rattle.gql_change.specs.Storing.{PropertyList, by_order, put_property, without_property, with_property, put_label, without_label, label_set, property_set}

put_above_case : (o : Ordering) (low l k : List ℕ) (ks : List (List ℕ)) → text_cmp l k ≡ o → text_cmp low l ≡ Less → ascend_above low (k ∷ ks) ≡ true
    → (text_cmp k l ≡ Less → ascend_above k ks ≡ true → ascend_above k (put_label l ks) ≡ true)
    → ascend_above low (by_order o (l ∷ k ∷ ks) (k ∷ ks) (k ∷ put_label l ks)) ≡ true
put_above_case Less low l k ks p q h more =
    and_from (is_lt (text_cmp low l)) (is_lt (text_cmp l k) && ascend_above k ks) (ap is_lt q)
    (and_from (is_lt (text_cmp l k)) (ascend_above k ks) (ap is_lt p) (rest_above low k ks h))
put_above_case Equal low l k ks p q h more = h
put_above_case Greater low l k ks p q h more =
    and_from (is_lt (text_cmp low k)) (ascend_above k (put_label l ks)) ((and_parts (is_lt (text_cmp low k)) (ascend_above k ks) h).0)
    (more (turned l k p) (rest_above low k ks h))

put_above : (low l : List ℕ) (ks : List (List ℕ)) → text_cmp low l ≡ Less → ascend_above low ks ≡ true → ascend_above low (put_label l ks) ≡ true
put_above low l [] q h = and_from (is_lt (text_cmp low l)) true (ap is_lt q) refl
put_above low l (k ∷ ks) q h = put_above_case (text_cmp l k) low l k ks refl q h (λ r m. put_above k l ks r m)

put_case : (o : Ordering) (l k : List ℕ) (ks : List (List ℕ)) → text_cmp l k ≡ o → ascend_above k ks ≡ true
    → texts_ascend (by_order o (l ∷ k ∷ ks) (k ∷ ks) (k ∷ put_label l ks)) ≡ true
put_case Less l k ks p h = and_from (is_lt (text_cmp l k)) (ascend_above k ks) (ap is_lt p) h
put_case Equal l k ks p h = h
put_case Greater l k ks p h = put_above k l ks (turned l k p) h

pub texts_ascend-put_label : (l : List ℕ) (ks : List (List ℕ)) → texts_ascend ks ≡ true → texts_ascend (put_label l ks) ≡ true
texts_ascend-put_label l [] h = refl
texts_ascend-put_label l (k ∷ ks) h = put_case (text_cmp l k) l k ks refl h

pub texts_ascend-without_label : (l : List ℕ) (ks : List (List ℕ)) → texts_ascend ks ≡ true → texts_ascend (without_label l ks) ≡ true
texts_ascend-without_label l ks h = texts_ascend-filter (λ k. not (same_text l k)) ks h

pub texts_ascend-label_set : (ls : List (List ℕ)) → texts_ascend (label_set ls) ≡ true
texts_ascend-label_set [] = refl
texts_ascend-label_set (l ∷ ls) = texts_ascend-put_label l (label_set ls) (texts_ascend-label_set ls)

-- the names of properties
names_put_case : (o : Ordering) (x : List ℕ) (d : Datum) (p : List ℕ × Datum) (ps : PropertyList) → text_cmp x p.0 ≡ o → names (put_property x d ps) ≡ put_label x (names ps)
    → names (by_order o ((x, d) ∷ p ∷ ps) ((x, d) ∷ ps) (p ∷ put_property x d ps)) ≡ by_order o (x ∷ p.0 ∷ names ps) (p.0 ∷ names ps) (p.0 ∷ put_label x (names ps))
names_put_case Less x d p ps e h = refl
names_put_case Equal x d p ps e h = ap (λ k. k ∷ names ps) (exact_bytes x p.0 e)
names_put_case Greater x d p ps e h = ap (λ ks. p.0 ∷ ks) h

names-put : (x : List ℕ) (d : Datum) (ps : PropertyList) → names (put_property x d ps) ≡ put_label x (names ps)
names-put x d [] = refl
names-put x d (p ∷ ps) = names_put_case (text_cmp x p.0) x d p ps refl (names-put x d ps)

-- the values of properties
abbrev values_fit : PropertyList → Bool
values_fit ps = list_all (λ (p : List ℕ × Datum). is_property p.1) ps

values_put_case : (o : Ordering) (x : List ℕ) (d : Datum) (p : List ℕ × Datum) (ps rest : PropertyList) → is_property d ≡ true → values_fit (p ∷ ps) ≡ true → values_fit rest ≡ true
    → values_fit (by_order o ((x, d) ∷ p ∷ ps) ((x, d) ∷ ps) (p ∷ rest)) ≡ true
values_put_case Less x d p ps rest k h more = and_from (is_property d) (values_fit (p ∷ ps)) k h
values_put_case Equal x d p ps rest k h more = and_from (is_property d) (values_fit ps) k ((and_parts (is_property p.1) (values_fit ps) h).1)
values_put_case Greater x d p ps rest k h more = and_from (is_property p.1) (values_fit rest) ((and_parts (is_property p.1) (values_fit ps) h).0) more

values_put : (x : List ℕ) (d : Datum) (ps : PropertyList) → is_property d ≡ true → values_fit ps ≡ true → values_fit (put_property x d ps) ≡ true
values_put x d [] k h = and_from (is_property d) true k refl
values_put x d (p ∷ ps) k h =
    values_put_case (text_cmp x p.0) x d p ps (put_property x d ps) k h (values_put x d ps k ((and_parts (is_property p.1) (values_fit ps) h).1))

pub are_properties-put : (x : List ℕ) (d : Datum) (ps : PropertyList) → is_property d ≡ true → are_properties ps ≡ true → are_properties (put_property x d ps) ≡ true
are_properties-put x d ps k h =
    and_from (texts_ascend (names (put_property x d ps))) (values_fit (put_property x d ps))
    (ap texts_ascend (names-put x d ps) ∙ texts_ascend-put_label x (names ps) ((and_parts (texts_ascend (names ps)) (values_fit ps) h).0))
    (values_put x d ps k ((and_parts (texts_ascend (names ps)) (values_fit ps) h).1))

pub are_properties-without : (x : List ℕ) (ps : PropertyList) → are_properties ps ≡ true → are_properties (without_property x ps) ≡ true
are_properties-without x ps h =
    let parts = and_parts (texts_ascend (names ps)) (values_fit ps) h in
    and_from (texts_ascend (names (without_property x ps))) (values_fit (without_property x ps))
    (names_ascend-without x ps parts.0) (list_all-without x (λ (p : List ℕ × Datum). is_property p.1) ps parts.1)

pub are_properties-with : (x : List ℕ) (d : Datum) (ps : PropertyList) → is_storable d 64 ≡ true → are_properties ps ≡ true → are_properties (with_property x d ps) ≡ true
are_properties-with x null ps k h = are_properties-without x ps h
are_properties-with x (boolean b) ps k h = are_properties-put x (boolean b) ps k h
are_properties-with x (integer z) ps k h = are_properties-put x (integer z) ps k h
are_properties-with x (text t) ps k h = are_properties-put x (text t) ps k h
are_properties-with x (list ds) ps k h = are_properties-put x (list ds) ps k h
are_properties-with x (node n) ps k h = absurd (cc)
are_properties-with x (edge e) ps k h = absurd (cc)
are_properties-with x (path p) ps k h = absurd (cc)

-- properties of values that may be stored
pub are_properties-property_set : (ps : PropertyList) → list_all (λ (p : List ℕ × Datum). is_storable p.1 64) ps ≡ true → are_properties (property_set ps) ≡ true
are_properties-property_set [] h = refl
are_properties-property_set (p ∷ ps) h =
    let rest = list_all (λ (q : List ℕ × Datum). is_storable q.1 64) ps in
    are_properties-with p.0 p.1 (property_set ps) ((and_parts (is_storable p.1 64) rest h).0) (are_properties-property_set ps ((and_parts (is_storable p.1 64) rest h).1))
