-- The type that a text means is in order, where nothing is refused of the text.
use Rattle.std.proofs.Common.{◌≡◌, ◌≢◌, ℕ, suc, nat_lt, Bool, true, false, not, cond, ◌&&◌, ◌||◌, List, [], ◌∷◌, ◌++◌, map, length, Option, Some, None, refl, sym, ap, ◌∙◌, arith}
use Rattle.std.specs.Prelude.{if◌then◌else◌}
use Rattle.std.specs.List.{list_all, dedup, dedup_from}
use Rattle.std.specs.declared.cmp.Ordering.{Ordering}
use Rattle.std.specs.declared.cmp.Ordering.TheVariants.{Less, Equal, Greater}
use Rattle.std.specs.Ordering.{is_lt}
use Rattle.std.specs.Cmp.{IsStrictWeakOrder}
use Rattle.std.specs.Cmp.Lexicographic as texts
use Rattle.std.proofs.lemmas.Bool.{and_from, and_parts, or_left, or_right}
use Rattle.std.proofs.lemmas.Bool.Decides.{nat_tests}
use Rattle.std.proofs.lemmas.Cmp.{tied_itself, nat_list_cmp_total}
use Rattle.std.proofs.lemmas.List.Sorted.{ranks_by}
use Rattle.gql_values3.specs.Texts.{same_text, ascend_above, texts_ascend}
use Rattle.gql_ast.specs.declared.change.Arrow.{Arrow}
use Rattle.gql_ast.specs.declared.change.Arrow.TheVariants as arrow
use Rattle.gql_ast.specs.declared.graph_type.TypeProperty.{TypeProperty}
use Rattle.gql_ast.specs.declared.graph_type.ElementBody.{ElementBody}
use Rattle.gql_ast.specs.declared.graph_type.TypeElement.{TypeElement}
use Rattle.gql_ast.specs.declared.graph_type.TypeElement.TheVariants as element
use Rattle.gql_ast.specs.declared.graph_type.TypeBody.{TypeBody}
use Rattle.gql_graph.specs.Catalog.{is_before}
use Rattle.gql_graph.specs.declared.graph_type.PropType.{PropType}
use Rattle.gql_eval.specs.StableSort.{stably_sorted}
use Rattle.gql_eval.proofs.StableSort.{Ascends, sorted_ascends, sorted_all}
use Rattle.gql_type.specs.GraphTypes.{is_content_type, is_node_type, is_edge_type, is_graph_type}
use Rattle.gql_type.specs.Conformance.{contains_name}
use Rattle.gql_type.specs.BodyFaults.{repeated, alias_in, aliases_in, unknown, aliases_at_fault, wrong_aliases, names_given, repeated_names}
use Rattle.gql_type.specs.BodyMeaning.{labels_meant, property_type, name_before, properties_meant, node_type, node_types, place_of, edge_type, edge_types, graph_type_of}
use Rattle.gql_graph.proofs.AscendingTexts.{text_cmp, turned, tied}
use Rattle.gql_type.proofs.SortedTexts.{IsNew, inserted_ascends}
use Rattle.gql_type.proofs.MatchingLemmas.{names_of}

-- neither less nor the same is greater
above_case : (o : Ordering) (a b : List ℕ) → text_cmp a b ≡ o → is_before a b ≡ false → same_text a b ≡ false → text_cmp b a ≡ Less
above_case Less a b e less same = let no_less : true ≡ false = ap is_lt (sym e) ∙ less in absurd (cc)
above_case Equal a b e less same = let tie : same_text a b ≡ true = tied a b e in absurd (cc)
above_case Greater a b e less same = turned a b e

-- a sorted list of which each is kept once strictly ascends
deduped_case : (b : Bool) (low k x : List ℕ) (xs : List (List ℕ)) → same_text x k ≡ b → text_cmp low k ≡ Less → is_before x k ≡ false
    → (ascend_above low (dedup_from same_text k xs) ≡ true) → (text_cmp k x ≡ Less → ascend_above k (dedup_from same_text x xs) ≡ true)
    → ascend_above low (cond b (dedup_from same_text k xs) (k ∷ dedup_from same_text x xs)) ≡ true
deduped_case true low k x xs e p less same more = same
deduped_case false low k x xs e p less same more = and_from (is_lt (text_cmp low k)) (ascend_above k (dedup_from same_text x xs)) (ap is_lt p) (more (above_case (text_cmp x k) x k refl less e))

deduped_above : (low k : List ℕ) (xs : List (List ℕ)) → text_cmp low k ≡ Less → Ascends is_before (k ∷ xs) → ascend_above low (dedup_from same_text k xs) ≡ true
deduped_above low k [] p up = and_from (is_lt (text_cmp low k)) true (ap is_lt p) refl
deduped_above low k (x ∷ xs) p up =
    deduped_case (same_text x k) low k x xs refl p up.0.0 (deduped_above low k xs p (up.0.1, up.1.1)) (λ q. deduped_above k x xs q up.1)

first_case : (b : Bool) (k x : List ℕ) (xs : List (List ℕ)) → same_text x k ≡ b → is_before x k ≡ false
    → (texts_ascend (dedup_from same_text k xs) ≡ true) → (text_cmp k x ≡ Less → ascend_above k (dedup_from same_text x xs) ≡ true)
    → texts_ascend (cond b (dedup_from same_text k xs) (k ∷ dedup_from same_text x xs)) ≡ true
first_case true k x xs e less same more = same
first_case false k x xs e less same more = more (above_case (text_cmp x k) x k refl less e)

deduped : (k : List ℕ) (xs : List (List ℕ)) → Ascends is_before (k ∷ xs) → texts_ascend (dedup_from same_text k xs) ≡ true
deduped k [] up = refl
deduped k (x ∷ xs) up = first_case (same_text x k) k x xs refl up.0.0 (deduped k xs (up.0.1, up.1.1)) (λ q. deduped_above k x xs q up.1)

by_bytes : IsStrictWeakOrder is_before
by_bytes = ranks_by nat_list_cmp_total (λ (t : List ℕ). t)

all_deduped : (xs : List (List ℕ)) → Ascends is_before xs → texts_ascend (dedup same_text xs) ≡ true
all_deduped [] up = refl
all_deduped (x ∷ xs) up = deduped x xs up

labels_ascend : (labels : Option (List (List ℕ))) → texts_ascend (labels_meant labels) ≡ true
labels_ascend None = refl
labels_ascend (Some labels) = all_deduped (stably_sorted is_before labels) (sorted_ascends is_before by_bytes labels)

-- where no name repeats
none_repeats : (b : Bool) (x : List ℕ) (rest other : List (List ℕ)) → (if b then x ∷ rest else other) ≡ [] → (b ≡ false) × (other ≡ [])
none_repeats true x rest other e = absurd (cc)
none_repeats false x rest other e = (refl, e)

not_there : (b : Bool) (z y : List ℕ) (before : List (List ℕ)) → b ≡ same_text z y → contains_name before z ≡ true → contains_name before y ≡ false → not b ≡ true
not_there true z y before e there none =
    let same : z ≡ y = texts.same_text z y e in
    let here : contains_name before y ≡ true = ap (contains_name before) (sym same) ∙ there in
    absurd (cc)
not_there false z y before e there none = refl

itself : (x : List ℕ) (before : List (List ℕ)) → contains_name (x ∷ before) x ≡ true
itself x before = or_left (same_text x x) (contains_name before x) (tied x x (tied_itself nat_list_cmp_total x))

-- the name of a type differs from those of all others
abbrev other_name : PropType → PropType → Bool
other_name t u = not (same_text t.name u.name)

names_apart : (t u : PropType) → other_name t u ≡ true → t.name ≢ u.name
names_apart t u other e =
    let same : same_text t.name u.name ≡ true = ap (same_text t.name) (sym e) ∙ tied t.name t.name (tied_itself nat_list_cmp_total t.name) in
    let never : false ≡ true = ap not (sym same) ∙ other in
    cc

all_apart : (t : PropType) (us : List PropType) → list_all (other_name t) us ≡ true → IsNew (λ (u : PropType). u.name) t us
all_apart t [] other = tt
all_apart t (u ∷ us) other =
    let both = and_parts (other_name t u) (list_all (other_name t) us) other in
    (names_apart t u both.0, all_apart t us both.1)

-- of properties whose names differ
others_differ : (before : List (List ℕ)) (p : TypeProperty) (ps : List TypeProperty) → repeated before (names_given (Some ps)) ≡ [] → contains_name before p.name ≡ true
    → list_all (other_name (property_type p)) (map property_type ps) ≡ true
others_differ before p [] e there = refl
others_differ before p (q ∷ qs) e there =
    let now = none_repeats (contains_name before q.name) q.name (repeated before (names_given (Some qs))) (repeated (q.name ∷ before) (names_given (Some qs))) e in
    and_from (not (same_text p.name q.name)) (list_all (other_name (property_type p)) (map property_type qs)) (not_there (same_text p.name q.name) p.name q.name before refl there now.0)
    (others_differ (q.name ∷ before) p qs now.1 (or_right (same_text p.name q.name) (contains_name before p.name) there))

names_ascend : (before : List (List ℕ)) (ps : List TypeProperty) → repeated before (names_given (Some ps)) ≡ [] → texts_ascend (names_of (stably_sorted name_before (map property_type ps))) ≡ true
names_ascend before [] e = refl
names_ascend before (p ∷ ps) e =
    let now = none_repeats (contains_name before p.name) p.name (repeated before (names_given (Some ps))) (repeated (p.name ∷ before) (names_given (Some ps))) e in
    inserted_ascends (λ (t : PropType). t.name) (property_type p) (stably_sorted name_before (map property_type ps)) (names_ascend (p.name ∷ before) ps now.1)
    (all_apart (property_type p) (stably_sorted name_before (map property_type ps))
    (sorted_all name_before (other_name (property_type p)) (map property_type ps) (others_differ (p.name ∷ before) p ps now.1 (itself p.name before))))

properties_ascend : (ps : Option (List TypeProperty)) → repeated [] (names_given ps) ≡ [] → texts_ascend (names_of (properties_meant ps)) ≡ true
properties_ascend None e = refl
properties_ascend (Some ps) e = names_ascend [] ps e

content_in_order : (body : ElementBody) → repeated [] (names_given body.properties) ≡ [] → is_content_type (labels_meant body.labels) (properties_meant body.properties) ≡ true
content_in_order body e = and_from (texts_ascend (labels_meant body.labels)) (texts_ascend (names_of (properties_meant body.properties))) (labels_ascend body.labels) (properties_ascend body.properties e)

nothing_in : {A : Type 0} (xs ys : List A) → xs ++ ys ≡ [] → (xs ≡ []) × (ys ≡ [])
nothing_in [] ys e = (refl, e)
nothing_in (x ∷ xs) ys e = absurd (cc)

node_types_in_order : (es : List TypeElement) → repeated_names es ≡ [] → list_all is_node_type (node_types es) ≡ true
node_types_in_order [] e = refl
node_types_in_order (element.Node alias body ∷ es) e =
    let now = nothing_in (repeated [] (names_given body.properties)) (repeated_names es) e in
    and_from (is_node_type (node_type body)) (list_all is_node_type (node_types es)) (content_in_order body now.0) (node_types_in_order es now.1)
node_types_in_order (element.Edge a way body b ∷ es) e =
    node_types_in_order es ((nothing_in (repeated [] (names_given body.properties)) (repeated_names es) e).1)

-- an alias that is declared is that of a node type
place_case : (b : Bool) (place count : ℕ) (more : Bool) → (more ≡ true → nat_lt place count ≡ true) → (b || more) ≡ true → nat_lt (if b then 0 else suc place) (suc count) ≡ true
place_case true place count more h e = grind (arith, nat_tests)
place_case false place count more h e = let below : nat_lt place count ≡ true = h e in grind (arith, nat_tests)

place_is_one : (name : List ℕ) (es : List TypeElement) → contains_name (aliases_in es) name ≡ true → nat_lt (place_of name es) (length (node_types es)) ≡ true
place_is_one name [] e = absurd (cc)
place_is_one name (element.Node (Some alias) body ∷ es) e =
    place_case (same_text name alias) (place_of name es) (length (node_types es)) (contains_name (aliases_in es) name) (place_is_one name es) e
place_is_one name (element.Node None body ∷ es) e =
    place_case false (place_of name es) (length (node_types es)) (contains_name (aliases_in es) name) (place_is_one name es) e
place_is_one name (element.Edge a way body b ∷ es) e = place_is_one name es e

known_case : (b : Bool) (x : List ℕ) (rest : List (List ℕ)) → (if b then rest else x ∷ rest) ≡ [] → (b ≡ true) × (rest ≡ [])
known_case true x rest e = (refl, e)
known_case false x rest e = absurd (cc)

edge_in_order : (all : List TypeElement) (a b : List ℕ) (way : Arrow) (body : ElementBody) → repeated [] (names_given body.properties) ≡ []
    → nat_lt (place_of a all) (length (node_types all)) ≡ true → nat_lt (place_of b all) (length (node_types all)) ≡ true → is_edge_type (length (node_types all)) (edge_type all a way body b) ≡ true
edge_in_order all a b arrow.Right body e first second =
    λ i. content_in_order body e i && first i && second i
edge_in_order all a b arrow.Left body e first second =
    λ i. content_in_order body e i && second i && first i
edge_in_order all a b arrow.Undirected body e first second =
    λ i. content_in_order body e i && first i && second i

edge_types_in_order : (all : List TypeElement) (before : List (List ℕ)) (es : List TypeElement) → repeated_names es ≡ [] → aliases_at_fault (aliases_in all) before es ≡ []
    → list_all (is_edge_type (length (node_types all))) (edge_types all es) ≡ true
edge_types_in_order all before [] e known = refl
edge_types_in_order all before (element.Node alias body ∷ es) e known =
    let names = nothing_in (repeated [] (names_given body.properties)) (repeated_names es) e in
    let behind = nothing_in (repeated before (alias_in (element.Node alias body)) ++ []) (aliases_at_fault (aliases_in all) (alias_in (element.Node alias body) ++ before) es) known in
    edge_types_in_order all (alias_in (element.Node alias body) ++ before) es names.1 behind.1
edge_types_in_order all before (element.Edge a way body b ∷ es) e known =
    let names = nothing_in (repeated [] (names_given body.properties)) (repeated_names es) e in
    let behind = nothing_in (unknown (aliases_in all) (a ∷ b ∷ [])) (aliases_at_fault (aliases_in all) before es) known in
    let first = known_case (contains_name (aliases_in all) a) a (unknown (aliases_in all) (b ∷ [])) behind.0 in
    let second = known_case (contains_name (aliases_in all) b) b [] first.1 in
    and_from (is_edge_type (length (node_types all)) (edge_type all a way body b)) (list_all (is_edge_type (length (node_types all))) (edge_types all es))
    (edge_in_order all a b way body names.0 (place_is_one a all first.0) (place_is_one b all second.0))
    (edge_types_in_order all before es names.1 behind.1)

pub meant_in_order : (body : TypeBody) → wrong_aliases body ≡ [] → repeated_names body.elements ≡ [] → is_graph_type (graph_type_of body) ≡ true
meant_in_order body known e =
    and_from (list_all is_node_type (node_types body.elements)) (list_all (is_edge_type (length (node_types body.elements))) (edge_types body.elements body.elements))
    (node_types_in_order body.elements e) (edge_types_in_order body.elements [] body.elements e known)
