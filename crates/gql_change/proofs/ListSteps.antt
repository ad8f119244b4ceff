-- Items of a list from a place on, as loops go over them.
use Rattle.std.proofs.Common.{◌≡◌, ℕ, zero, suc, ◌+◌, ◌<◌, ◌≤◌, Bool, true, false, cond, List, [], ◌∷◌, ◌++◌, map, reverse, length, drop, get_or, slice_get, Some, None, refl, sym, ap, ◌∙◌, add-one, arith}
use Rattle.std.specs.Prelude.{filter}
use Rattle.std.proofs.lemmas.List.{reverse-append, map-append, drop_all}
use Rattle.gql_values3.specs.PropertyGraph.{PropertyGraph, is_graph}
use Rattle.gql_values3.specs.Lookup.{touching_edges, touches}
use Rattle.gql_values3.specs.declared.element.NodeId.{NodeId}
use Rattle.gql_values3.specs.declared.records.EdgeRecord.{EdgeRecord}
use Rattle.gql_graph.specs.Edits.{edge_key}
use Rattle.gql_graph.proofs.GraphLemmas.{few}
use Rattle.gql_eval.proofs.EachSteps.{drop_here}
use Rattle.gql_change.proofs.TakingOut.{edge_numbers}

next_item : {A : Type 0} (xs : List A) (i : ℕ) (x : A) → Some x ≡ slice_get xs i → drop i xs ≡ x ∷ drop (suc i) xs
next_item [] i x h = absurd (cc)
next_item (y ∷ ys) zero x h = let e : x ≡ y = cc in ap (λ z. z ∷ ys) (sym e)
next_item (y ∷ ys) (suc i) x h = next_item ys i x h

-- the item of a place stands before those behind it
pub item_here : {A : Type 0} (xs : List A) (i : ℕ) (x : A) → Some x ≡ slice_get xs i → drop i xs ≡ x ∷ drop (i + 1) xs
item_here xs i x h = rw add-one (next_item xs i x h)

pub no_item_here : {A : Type 0} (xs : List A) (i : ℕ) → None ≡ slice_get xs i → drop i xs ≡ []
no_item_here [] zero h = refl
no_item_here [] (suc i) h = refl
no_item_here (y ∷ ys) zero h = absurd (cc)
no_item_here (y ∷ ys) (suc i) h = no_item_here ys i h

-- a list that is read from its end
step_back : {A B : Type 0} (f : A → B) (xs : List A) (i : ℕ) (x : A) → i < length xs → x ≡ get_or xs i x → map f (reverse (drop i xs)) ≡ map f (reverse (drop (i + 1) xs)) ++ f x ∷ []
step_back f xs i x h p =
    ap (λ l. map f (reverse l)) (drop_here xs i x h p) ∙ ap (map f) (reverse-append (x ∷ []) (drop (i + 1) xs)) ∙ map-append f (reverse (drop (i + 1) xs)) (x ∷ [])

any_default : (xs : List ℕ) (i d e : ℕ) → i < length xs → get_or xs i d ≡ get_or xs i e
any_default [] i d e h = absurd (omega arith)
any_default (x ∷ xs) zero d e h = refl
any_default (x ∷ xs) (suc i) d e h = any_default xs i d e (omega arith)

pub number_back : {B : Type 0} (f : ℕ → B) (xs : List ℕ) (i : ℕ) → i < length xs → map f (reverse (drop i xs)) ≡ map f (reverse (drop (i + 1) xs)) ++ f (get_or xs i 0) ∷ []
number_back f xs i h = step_back f xs i (get_or xs i 0) h (any_default xs i 0 (get_or xs i 0) h)

length_passing : {A B : Type 0} (f : A → B) (p : A → Bool) (xs : List A) → length (map f (filter p xs)) ≤ length xs
length_passing f p [] = omega arith
length_passing f p (x ∷ xs) = by_case (p x) (length_passing f p xs)
  where
    by_case : (b : Bool) → length (map f (filter p xs)) ≤ length xs → length (map f (cond b (x ∷ filter p xs) (filter p xs))) ≤ suc (length xs)
    by_case true h = omega arith
    by_case false h = omega arith

-- a node has fewer edges than there are numbers
pub few_touch : (g : PropertyGraph) (n : NodeId) → is_graph g ≡ true → length (touching_edges g n) ≤ 4294967295
few_touch g n one =
    omega (arith, length_passing (λ (r : EdgeRecord). r.number) (touches n) g.edges, few edge_key g.edges g.next_edge (edge_numbers g one))

pub none_behind : {A : Type 0} (xs : List A) (i : ℕ) → length xs ≤ 4294967295 → 4294967295 ≤ i → drop i xs ≡ []
none_behind xs i few far = drop_all i xs (omega arith)
