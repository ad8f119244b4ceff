-- Properties in order by name: one walk over them and the types finds what the two questions of conformance ask.
use Rattle.std.proofs.Common.{◌≡◌, ℕ, Bool, true, false, not, ◌&&◌, ◌||◌, List, [], ◌∷◌, map, refl, sym, ap, ◌∙◌}
use Rattle.std.proofs.Math.Bool.{and-false}
use Rattle.std.specs.List.{list_all, list_any}
use Rattle.std.specs.Prelude.{if◌then◌else◌}
use Rattle.std.specs.declared.cmp.Ordering.{Ordering}
use Rattle.std.specs.declared.cmp.Ordering.TheVariants.{Less, Equal, Greater}
use Rattle.std.specs.Ordering.{is_lt}
use Rattle.std.proofs.lemmas.Map.Lookups.{exact_bytes}
use Rattle.gql_values3.specs.Datum.{Datum}
use Rattle.gql_values3.specs.Texts.{same_text, ascend_above, texts_ascend}
use Rattle.gql_graph.specs.declared.graph_type.PropType.{PropType}
use Rattle.gql_graph.proofs.CatalogLemmas.{names}
use Rattle.gql_type.specs.PropertyKinds.{is_of_kind}
use Rattle.gql_type.specs.Conformance.{PropertyList, is_allowed, is_provided}
use Rattle.gql_type.specs.Machinery.InOrder.{are_matched}
use Rattle.gql_graph.proofs.AscendingTexts.{text_cmp, first_above, lower, above_rest, above_ascends, turned, apart, apart_turned, tied}

-- the names of types
abbrev pub names_of : List PropType → List (List ℕ)
names_of ts = map (λ (t : PropType). t.name) ts

-- a property whose name is below those of all types is named by none
none_names : (ts : List PropType) (p : List ℕ × Datum) → ascend_above p.0 (names_of ts) ≡ true → is_allowed ts p ≡ false
none_names [] p h = refl
none_names (t ∷ ts) p h = λ i. (apart_turned p.0 t.name (first_above p.0 t.name (names_of ts) h) i && is_of_kind t.kind p.1) || none_names ts p (above_rest p.0 t.name (names_of ts) h) i

-- a type whose name is below those of all properties has none
none_has : (t : PropType) (ps : PropertyList) → ascend_above t.name (names ps) ≡ true → list_any (λ (p : List ℕ × Datum). same_text t.name p.0) ps ≡ false
none_has t [] h = refl
none_has t (p ∷ ps) h = λ i. apart t.name p.0 (first_above t.name p.0 (names ps) h) i || none_has t ps (above_rest t.name p.0 (names ps) h) i

-- that type plays no part in whether the properties are allowed
allowed_behind : (t : PropType) (ts : List PropType) (ps : PropertyList) → ascend_above t.name (names ps) ≡ true → list_all (is_allowed (t ∷ ts)) ps ≡ list_all (is_allowed ts) ps
allowed_behind t ts [] h = refl
allowed_behind t ts (p ∷ ps) h =
    λ i. ((apart t.name p.0 (first_above t.name p.0 (names ps) h) i && is_of_kind t.kind p.1) || is_allowed ts p) && allowed_behind t ts ps (above_rest t.name p.0 (names ps) h) i

-- and that property none in whether the types have theirs
provided_behind : (p : List ℕ × Datum) (ps : PropertyList) (ts : List PropType) → ascend_above p.0 (names_of ts) ≡ true → list_all (is_provided (p ∷ ps)) ts ≡ list_all (is_provided ps) ts
provided_behind p ps [] h = refl
provided_behind p ps (t ∷ ts) h =
    λ i. (not t.required || (apart_turned p.0 t.name (first_above p.0 t.name (names_of ts) h) i || list_any (λ (q : List ℕ × Datum). same_text t.name q.0) ps)) && provided_behind p ps ts (above_rest p.0 t.name (names_of ts) h) i

abbrev Fits : List PropType → PropertyList → Bool
Fits ts ps = list_all (is_allowed ts) ps && list_all (is_provided ps) ts

or_none : (a b : Bool) → b ≡ false → (a || b) ≡ a
or_none true b h = refl
or_none false b h = h

-- (r && (a && b)) and (a && (r && b)) are one
passed_by : (r a b : Bool) → (r && (a && b)) ≡ (a && (r && b))
passed_by true a b = refl
passed_by false true b = refl
passed_by false false b = refl

met : (k n a b : Bool) → (k && (a && b)) ≡ ((k && a) && ((n || true) && b))
met true true a b = refl
met true false a b = refl
met false n a b = refl

walk_case : (o : Ordering) (t : PropType) (ts : List PropType) (p : List ℕ × Datum) (ps : PropertyList) → text_cmp t.name p.0 ≡ o
    → ascend_above t.name (names_of ts) ≡ true → ascend_above p.0 (names ps) ≡ true
    → are_matched ts ps ≡ Fits ts ps → are_matched ts (p ∷ ps) ≡ Fits ts (p ∷ ps)
    → are_matched (t ∷ ts) (p ∷ ps) ≡ Fits (t ∷ ts) (p ∷ ps)
walk_case Less t ts p ps o h k both behind =
    let differ : same_text t.name p.0 ≡ false = apart t.name p.0 o in
    let above : ascend_above t.name (names (p ∷ ps)) ≡ true = λ i. ap is_lt o i && k i in
    let left : are_matched (t ∷ ts) (p ∷ ps) ≡ (not t.required && are_matched ts (p ∷ ps)) =
    ap (λ (b : Bool). if b then is_of_kind t.kind p.1 && are_matched ts ps else not t.required && are_matched ts (p ∷ ps)) differ in
    let one : list_all (is_allowed (t ∷ ts)) (p ∷ ps) ≡ list_all (is_allowed ts) (p ∷ ps) = allowed_behind t ts (p ∷ ps) above in
    let other : is_provided (p ∷ ps) t ≡ not t.required = or_none (not t.required) _ (none_has t (p ∷ ps) above) in
    left ∙ ap (λ (b : Bool). not t.required && b) behind ∙ passed_by (not t.required) (list_all (is_allowed ts) (p ∷ ps)) (list_all (is_provided (p ∷ ps)) ts)
    ∙ λ i. sym one i && (sym other i && list_all (is_provided (p ∷ ps)) ts)
walk_case Greater t ts p ps o h k both behind =
    let less = turned t.name p.0 o in
    let differ : same_text t.name p.0 ≡ false = apart_turned p.0 t.name less in
    let none : is_allowed ts p ≡ false = none_names ts p (lower p.0 t.name (names_of ts) less h) in
    let left : are_matched (t ∷ ts) (p ∷ ps) ≡ (not t.required && are_matched ts (p ∷ ps)) =
    ap (λ (b : Bool). if b then is_of_kind t.kind p.1 && are_matched ts ps else not t.required && are_matched ts (p ∷ ps)) differ in
    let nothing : Fits ts (p ∷ ps) ≡ false = ap (λ (b : Bool). (b && list_all (is_allowed ts) ps) && list_all (is_provided (p ∷ ps)) ts) none in
    let no_more : Fits (t ∷ ts) (p ∷ ps) ≡ false =
    λ i. (((differ i && is_of_kind t.kind p.1) || none i) && list_all (is_allowed (t ∷ ts)) ps) && list_all (is_provided (p ∷ ps)) (t ∷ ts) in
    left ∙ ap (λ (b : Bool). not t.required && b) (behind ∙ nothing) ∙ and-false (not t.required) ∙ sym no_more
walk_case Equal t ts p ps o h k both behind =
    let e : t.name ≡ p.0 = exact_bytes t.name p.0 o in
    let same : same_text t.name p.0 ≡ true = tied t.name p.0 o in
    let types_above : ascend_above p.0 (names_of ts) ≡ true = ap (λ (z : List ℕ). ascend_above z (names_of ts)) (sym e) ∙ h in
    let properties_above : ascend_above t.name (names ps) ≡ true = ap (λ (z : List ℕ). ascend_above z (names ps)) e ∙ k in
    let kind = is_of_kind t.kind p.1 in
    let left : are_matched (t ∷ ts) (p ∷ ps) ≡ (kind && are_matched ts ps) =
    ap (λ (b : Bool). if b then is_of_kind t.kind p.1 && are_matched ts ps else not t.required && are_matched ts (p ∷ ps)) same in
    let one : ((same_text t.name p.0 && kind) || is_allowed ts p) ≡ kind =
    ap (λ (b : Bool). (b && kind) || is_allowed ts p) same ∙ or_none kind (is_allowed ts p) (none_names ts p types_above) in
    let two : list_all (is_allowed (t ∷ ts)) ps ≡ list_all (is_allowed ts) ps = allowed_behind t ts ps properties_above in
    let three : is_provided (p ∷ ps) t ≡ (not t.required || true) = ap (λ (b : Bool). not t.required || (b || list_any (λ (q : List ℕ × Datum). same_text t.name q.0) ps)) same in
    let four : list_all (is_provided (p ∷ ps)) ts ≡ list_all (is_provided ps) ts = provided_behind p ps ts types_above in
    left ∙ ap (λ (b : Bool). kind && b) both ∙ met kind (not t.required) (list_all (is_allowed ts) ps) (list_all (is_provided ps) ts)
    ∙ λ i. (sym one i && sym two i) && (sym three i && sym four i)

pub are_matched-in_order : (ts : List PropType) (ps : PropertyList) → texts_ascend (names_of ts) ≡ true → texts_ascend (names ps) ≡ true
    → are_matched ts ps ≡ (list_all (is_allowed ts) ps && list_all (is_provided ps) ts)
are_matched-in_order [] [] h k = refl
are_matched-in_order [] (p ∷ ps) h k = refl
are_matched-in_order (t ∷ ts) [] h k =
    ap (λ (b : Bool). not t.required && b) (are_matched-in_order ts [] (above_ascends t.name (names_of ts) h) k)
    ∙ ap (λ (b : Bool). b && list_all (is_provided []) ts) (sym (or_none (not t.required) false refl))
are_matched-in_order (t ∷ ts) (p ∷ ps) h k =
    walk_case (text_cmp t.name p.0) t ts p ps refl h k
    (are_matched-in_order ts ps (above_ascends t.name (names_of ts) h) (above_ascends p.0 (names ps) k))
    (are_matched-in_order ts (p ∷ ps) (above_ascends t.name (names_of ts) h) k)
