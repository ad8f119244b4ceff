-- What a binary search finds among items that ascend by a number is what a scan for that number finds.
use Rattle.std.proofs.Common.{◌≡◌, ℕ, zero, suc, ◌<◌, ◌≤◌, ◌≢◌, eqb, Bool, List, [], ◌∷◌, length, get_or, Option, None, Some, Bor, slice_get, Result, Ok, Err, inl, inr, refl, sym, ap, arith}
use Rattle.std.specs.Prelude.{find, is_some}
use Rattle.std.specs.List.{list_any}
use Rattle.std.specs.Option.{option_copied}
use Rattle.std.specs.Slice.{IsItemAt}
use Rattle.std.specs.List.Sorted.{IsSearchInRange, IsBinarySearchResult, IsNonDecreasingBy}
use Rattle.std.specs.Ordering.{nat_cmp, ordering_index}
use Rattle.std.proofs.lemmas.Cmp.{ranked}
use Rattle.std.proofs.lemmas.Bool.{cases_lt}
use Rattle.std.proofs.lemmas.Bool.Decides.{nat_tests}
use Rattle.std.proofs.lemmas.Grind.{common_steps}
use Rattle.std.proofs.lemmas.Option.{gets}
use Rattle.gql_graph.specs.Machinery.Ascending.{AscendsBy}
use Rattle.gql_graph.specs.Machinery.AfterChange.{place_of}

-- the item at a place, or none
abbrev pub item_at : {X : Type 0} → List X → Result ℕ ℕ → Option X
item_at xs (Ok i) = slice_get xs i
item_at xs (Err i) = None

-- what is lent at a place is the item there
pub got_there : {X : Type 0} (xs : List X) (i : ℕ) (r : Option (Bor X)) → IsItemAt xs i r → option_copied r ≡ slice_get xs i
got_there xs i r there = grind (arith, common_steps, gets)

-- a reference to something stands for something
pub is_some-option_copied : {X : Type 0} (r : Option (Bor X)) → is_some r ≡ is_some (option_copied r)
is_some-option_copied None = refl
is_some-option_copied (Some x) = refl

-- a scan finds something where some item passes
pub is_some-find : {X : Type 0} (p : X → Bool) (xs : List X) → is_some (find p xs) ≡ list_any p xs
is_some-find p [] = refl
is_some-find p (x ∷ xs) = grind (arith, is_some-find p xs)

module _ {X : Type 0} (key : X → ℕ) (n : ℕ) where
  -- no item before this place has the number
  abbrev pub NoneBefore : List X → ℕ → Type 0
  NoneBefore xs i = (j : ℕ) (d : X) → j < i → key (get_or xs j d) ≢ n

  -- nor has one of the tail
  none_in_tail : (x : X) (xs : List X) (i : ℕ) → NoneBefore (x ∷ xs) (suc i) → NoneBefore xs i
  none_in_tail x xs i none j d lt = none (suc j) d (omega arith)

  -- a number that no item has is not found
  absent : (xs : List X) → NoneBefore xs (length xs) → find (λ y. eqb (key y) n) xs ≡ None
  absent [] none = refl
  absent (x ∷ xs) none = grind (arith, nat_tests, none 0 x (omega arith), absent xs (none_in_tail x xs (length xs) none))

  -- the first item that has the number is found
  present : (xs : List X) (i : ℕ) → i < length xs → ((d : X) → key (get_or xs i d) ≡ n) → NoneBefore xs i → find (λ y. eqb (key y) n) xs ≡ slice_get xs i
  present [] i lt here none = absurd (omega arith)
  present (x ∷ xs) zero lt here none = grind (arith, nat_tests, here x)
  present (x ∷ xs) (suc i) lt here none = grind (arith, nat_tests, none 0 x (omega arith), present xs i (omega arith) (λ d. here d) (none_in_tail x xs i none))

  module _ (xs : List X) (up : AscendsBy key xs) where
    -- the comparisons with the number rise along the list, as a binary search asks
    comparisons_rise : IsNonDecreasingBy (λ y. ordering_index (nat_cmp (key y) n)) xs
    comparisons_rise i j d le lt = grind (arith, nat_tests, up i j d)

    -- the search's answer and the scan's
    pub searched : (r : Result ℕ ℕ) → IsSearchInRange r (length xs) → IsBinarySearchResult (λ y. nat_cmp (key y) n) xs r → find (λ y. eqb (key y) n) xs ≡ item_at xs r
    searched (Ok i) in_range equal =
        let here : (d : X) → key (get_or xs i d) ≡ n = λ d. ranked _ n _ (sym (equal d)) in
        present xs i in_range here (λ j d lt same. omega (arith, up j i d lt in_range, here d))
    searched (Err i) in_range parted =
        absent xs (λ j d lt same. elim (cases_lt j i) [
          | inl below ↦ omega (arith, ranked _ n _ (sym ((parted comparisons_rise).0 j d (omega arith) below)))
          | inr at_least ↦ omega (arith, ranked _ n _ (sym ((parted comparisons_rise).1 j d at_least lt)))
        ])

  -- the place where a search ends is that of the number
  place_is : (xs : List X) (i : ℕ) → i ≤ length xs → ((j : ℕ) (d : X) → j < i → key (get_or xs j d) < n) → ((j : ℕ) (d : X) → i ≤ j → j < length xs → n ≤ key (get_or xs j d)) → place_of key n xs ≡ i
  place_is [] i within below above = omega arith
  place_is (x ∷ xs) zero within below above = grind (arith, nat_tests, above 0 x)
  place_is (x ∷ xs) (suc i) within below above =
      let rest = place_is xs i (omega arith) (λ j d lt. below (suc j) d (omega arith)) (λ j d le lt. above (suc j) d (omega arith) (omega arith)) in
      grind (arith, nat_tests, below 0 x)

  module _ (xs : List X) (up : AscendsBy key xs) where
    pub place_found : (i : ℕ) → i < length xs → IsBinarySearchResult (λ y. nat_cmp (key y) n) xs (Ok i) → i ≡ place_of key n xs
    place_found i in_range equal =
        let here : (d : X) → key (get_or xs i d) ≡ n = λ d. ranked _ n _ (sym (equal d)) in
        sym (place_is xs i (omega arith) (λ j d lt. omega (arith, up j i d lt in_range, here d)) (λ j d le lt. elim (cases_lt i j) [
          | inl below ↦ omega (arith, up i j d below lt, here d)
          | inr at_most ↦ let same : j ≡ i = omega arith in omega (arith, ap (λ k. key (get_or xs k d)) same, here d)
        ]))

    pub place_missed : (i : ℕ) → i ≤ length xs → IsBinarySearchResult (λ y. nat_cmp (key y) n) xs (Err i) → i ≡ place_of key n xs
    place_missed i in_range parted =
        let rise = comparisons_rise xs up in
        sym (place_is xs i in_range (λ j d lt. ranked _ n _ (sym ((parted rise).0 j d (omega arith) lt))) (λ j d le lt. omega (arith, ranked _ n _ (sym ((parted rise).1 j d le lt)))))
