-- Numbers that strictly ascend: which are among them, and that the numbers which are among them tell them all.
use Rattle.std.proofs.Common.{◌≡◌, ◌≢◌, ℕ, zero, suc, ◌<◌, ◌≤◌, Bool, true, false, cond, eqb, List, [], ◌∷◌, map, length, get_or, Result, Ok, Err, refl, sym, ap, ◌∙◌, ◌⊎◌, inl, inr, arith}
use Rattle.std.proofs.lemmas.Bool.{and_from, and_parts, or_right, or_from, or_cases, false_from_ne_true}
use Rattle.std.specs.Prelude.{◌||◌, filter, nat_lt, is_ok}
use Rattle.std.specs.List.{dedup, dedup_from}
use Rattle.std.specs.List.Sorted.{IsStrictlyIncreasing, IsPermutation, IsSorted, IsBinarySearchResult}
use Rattle.std.specs.Ordering.{nat_cmp}
use Rattle.std.proofs.lemmas.Bool.Decides.{nat_tests}
use Rattle.std.proofs.lemmas.List.Sorted.{list_any-IsPermutation, searched}
use Rattle.std.proofs.lemmas.Map.Keys.{IsStrictlyIncreasing-dedup}
use Rattle.gql_values3.specs.PropertyGraph.{numbers_ascend}
use Rattle.gql_change.specs.Machinery.Rising.{rises_above, rises}
use Rattle.gql_change.specs.Machinery.DeletionSteps.{has_number}

pub eqb_sym : (m n : ℕ) → eqb m n ≡ eqb n m
eqb_sym m n = grind (arith, nat_tests)

pub eqb_same : (m n : ℕ) → eqb m n ≡ true → m ≡ n
eqb_same m n h = grind (arith, nat_tests, h)

pub eqb_refl : (n : ℕ) → eqb n n ≡ true
eqb_refl n = grind (arith, nat_tests)

lt_of : (m n : ℕ) → nat_lt m n ≡ true → m < n
lt_of m n h = grind (arith, nat_tests, h)

to_lt : (m n : ℕ) → m < n → nat_lt m n ≡ true
to_lt m n h = grind (arith, nat_tests, h)

-- what is among numbers above a bound is above it
pub among_above : (low : ℕ) (ns : List ℕ) (n : ℕ) → rises_above low ns ≡ true → has_number ns n ≡ true → low < n
among_above low [] n up h = absurd (cc)
among_above low (m ∷ ms) n up h =
    let here : low < m = lt_of low m ((and_parts (nat_lt low m) (rises_above m ms) up).0) in
    elim (or_cases (eqb n m) (has_number ms n) h) [
      | inl same ↦ omega (arith, eqb_same n m same, here)
      | inr later ↦ omega (arith, among_above m ms n ((and_parts (nat_lt low m) (rises_above m ms) up).1) later, here)
    ]

pub not_among : (low : ℕ) (ns : List ℕ) (n : ℕ) → rises_above low ns ≡ true → n ≤ low → has_number ns n ≡ false
not_among low ns n up le = false_from_ne_true (has_number ns n) (λ h. omega (arith, among_above low ns n up h, le))

pub rises_tail : (low : ℕ) (ns : List ℕ) → rises_above low ns ≡ true → rises ns ≡ true
rises_tail low [] up = refl
rises_tail low (n ∷ ns) up = (and_parts (nat_lt low n) (rises_above n ns) up).1

rises_lower : (low m : ℕ) (ns : List ℕ) → low ≤ m → rises_above m ns ≡ true → rises_above low ns ≡ true
rises_lower low m [] le up = refl
rises_lower low m (n ∷ ns) le up =
    and_from (nat_lt low n) (rises_above n ns) (to_lt low n (let here : m < n = lt_of m n ((and_parts (nat_lt m n) (rises_above n ns) up).0) in omega arith))
    ((and_parts (nat_lt m n) (rises_above n ns) up).1)

at_least : (y : ℕ) (ys : List ℕ) (x : ℕ) → rises_above y ys ≡ true → has_number (y ∷ ys) x ≡ true → y ≤ x
at_least y ys x up h = elim (or_cases (eqb x y) (has_number ys x) h) [
  | inl same ↦ omega (arith, eqb_same x y same)
  | inr later ↦ omega (arith, among_above y ys x up later)
]

first_among : (x : ℕ) (xs : List ℕ) → has_number (x ∷ xs) x ≡ true
first_among x xs = ap (λ b. b || has_number xs x) (eqb_refl x)

tail_of : (a p q : Bool) → (a ≡ true → p ≡ false) → (a ≡ true → q ≡ false) → (a || p) ≡ (a || q) → p ≡ q
tail_of true p q hp hq h = hp refl ∙ sym (hq refl)
tail_of false p q hp hq h = h

-- ascending lists of the same numbers are one
pub same_numbers : (xs ys : List ℕ) → rises xs ≡ true → rises ys ≡ true → ((n : ℕ) → has_number xs n ≡ has_number ys n) → xs ≡ ys
same_numbers [] [] up vp same = refl
same_numbers [] (y ∷ ys) up vp same = let e : false ≡ true = same y ∙ first_among y ys in absurd (cc)
same_numbers (x ∷ xs) [] up vp same = let e : false ≡ true = sym (same x) ∙ first_among x xs in absurd (cc)
same_numbers (x ∷ xs) (y ∷ ys) up vp same =
    let low : y ≤ x = at_least y ys x vp (sym (same x) ∙ first_among x xs) in
    let high : x ≤ y = at_least x xs y up (same y ∙ first_among y ys) in
    let e : x ≡ y = omega arith in
    let rest = same_numbers xs ys (rises_tail x xs up) (rises_tail y ys vp) (λ n.
    tail_of (eqb n x) (has_number xs n) (has_number ys n) (λ h. not_among x xs n up (omega (arith, eqb_same n x h))) (λ h. not_among y ys n vp (omega (arith, eqb_same n x h, e)))
    (same n ∙ ap (λ k. eqb n k || has_number ys n) (sym e))) in
    λ i. e i ∷ rest i

-- the numbers of a graph ascend, and those of some of its items do
pub rises_from_graph : (low : ℕ) (ns : List ℕ) (high : ℕ) → numbers_ascend low ns high ≡ true → rises_above low ns ≡ true
rises_from_graph low [] high h = refl
rises_from_graph low (n ∷ ns) high h =
    and_from (nat_lt low n) (rises_above n ns) ((and_parts (nat_lt low n) (numbers_ascend n ns high) h).0) (rises_from_graph n ns high ((and_parts (nat_lt low n) (numbers_ascend n ns high) h).1))

module _ {X : Type 0} (key : X → ℕ) (p : X → Bool) where
  pub rises-filter : (low : ℕ) (xs : List X) → rises_above low (map key xs) ≡ true → rises_above low (map key (filter p xs)) ≡ true
  rises-filter low [] up = refl
  rises-filter low (x ∷ xs) up =
      by_case (p x) ((and_parts (nat_lt low (key x)) (rises_above (key x) (map key xs)) up).0) (rises-filter (key x) xs ((and_parts (nat_lt low (key x)) (rises_above (key x) (map key xs)) up).1))
    where
      by_case : (b : Bool) → nat_lt low (key x) ≡ true → rises_above (key x) (map key (filter p xs)) ≡ true → rises_above low (map key (cond b (x ∷ filter p xs) (filter p xs))) ≡ true
      by_case true here rest = and_from (nat_lt low (key x)) (rises_above (key x) (map key (filter p xs))) here rest
      by_case false here rest = rises_lower low (key x) (map key (filter p xs)) (let lt = lt_of low (key x) here in omega arith) rest

-- what a sort and a `dedup` leave
increasing : (x : ℕ) (xs : List ℕ) → IsStrictlyIncreasing (x ∷ xs) → rises_above x xs ≡ true
increasing x [] up = refl
increasing x (y ∷ ys) up =
    and_from (nat_lt x y) (rises_above y ys) (to_lt x y (let h = up 0 (omega arith) in omega (arith, h)))
    (increasing y ys (λ k lt. grind (arith, up (suc k), lt)))

rises_of : (xs : List ℕ) → IsStrictlyIncreasing xs → rises xs ≡ true
rises_of [] up = refl
rises_of (x ∷ xs) up = increasing x xs up

same_twice : (a b c : Bool) → (a ≡ b) → (a || c) ≡ (a || (b || c))
same_twice true b c h = refl
same_twice false b c h = ap (λ (t : Bool). t || c) h

from_same : (k : ℕ) (xs : List ℕ) (n : ℕ) → has_number (dedup_from eqb k xs) n ≡ (eqb n k || has_number xs n)
from_same k [] n = refl
from_same k (x ∷ xs) n = by_case (eqb x k) refl (from_same k xs n) (from_same x xs n)
  where
    by_case : (b : Bool) → eqb x k ≡ b → has_number (dedup_from eqb k xs) n ≡ (eqb n k || has_number xs n) → has_number (dedup_from eqb x xs) n ≡ (eqb n x || has_number xs n)
        → has_number (cond b (dedup_from eqb k xs) (k ∷ dedup_from eqb x xs)) n ≡ (eqb n k || (eqb n x || has_number xs n))
    by_case true h under over = under ∙ same_twice (eqb n k) (eqb n x) (has_number xs n) (ap (eqb n) (sym (eqb_same x k h)))
    by_case false h under over = ap (λ b. eqb n k || b) over

pub has_number-dedup : (xs : List ℕ) (n : ℕ) → has_number (dedup eqb xs) n ≡ has_number xs n
has_number-dedup [] n = refl
has_number-dedup (x ∷ xs) n = from_same x xs n

module _ (xs sorted done : List ℕ) (moved : IsPermutation xs sorted) (up : IsSorted nat_cmp sorted) (is : done ≡ dedup eqb sorted) where
  pub once_rises : rises done ≡ true
  once_rises = ap rises is ∙ rises_of (dedup eqb sorted) (IsStrictlyIncreasing-dedup sorted up)

  pub once_same : (n : ℕ) → has_number done n ≡ has_number xs n
  once_same n = ap (λ l. has_number l n) is ∙ has_number-dedup sorted n ∙ sym (list_any-IsPermutation (eqb n) xs sorted moved)

-- what a binary search finds
above_at : (low : ℕ) (ns : List ℕ) (j : ℕ) → rises_above low ns ≡ true → j < length ns → low < get_or ns j 0
above_at low [] j up lt = absurd (omega arith)
above_at low (n ∷ ns) zero up lt = lt_of low n ((and_parts (nat_lt low n) (rises_above n ns) up).0)
above_at low (n ∷ ns) (suc j) up lt =
    omega (arith, lt_of low n ((and_parts (nat_lt low n) (rises_above n ns) up).0), above_at n ns j ((and_parts (nat_lt low n) (rises_above n ns) up).1) (omega arith))

rises_le : (ns : List ℕ) → rises ns ≡ true → (i j : ℕ) → i ≤ j → j < length ns → get_or ns i 0 ≤ get_or ns j 0
rises_le [] up i j le lt = absurd (omega arith)
rises_le (n ∷ ns) up zero zero le lt = omega arith
rises_le (n ∷ ns) up (suc i) zero le lt = absurd (omega arith)
rises_le (n ∷ ns) up zero (suc j) le lt = omega (arith, above_at n ns j up (omega arith))
rises_le (n ∷ ns) up (suc i) (suc j) le lt = rises_le ns (rises_tail n ns up) i j (omega arith) (omega arith)

found_here : (ns : List ℕ) (i n : ℕ) → i < length ns → get_or ns i 0 ≡ n → has_number ns n ≡ true
found_here [] i n lt is = absurd (omega arith)
found_here (m ∷ ms) zero n lt is = let e : eqb n m ≡ true = grind (arith, nat_tests, is) in ap (λ b. b || has_number ms n) e
found_here (m ∷ ms) (suc i) n lt is = or_right (eqb n m) (has_number ms n) (found_here ms i n (omega arith) is)

found_nowhere : (ns : List ℕ) (n : ℕ) → ((k : ℕ) → k < length ns → get_or ns k 0 ≢ n) → has_number ns n ≡ false
found_nowhere [] n none = refl
found_nowhere (m ∷ ms) n none =
    or_from (eqb n m) (has_number ms n) (let h = none 0 (omega arith) in grind (arith, nat_tests, h)) (found_nowhere ms n (λ k lt is. none (suc k) (omega arith) is))

pub searched_number : (ns : List ℕ) (n : ℕ) (r : Result ℕ ℕ) → rises ns ≡ true → IsBinarySearchResult (λ y. nat_cmp y n) ns r → is_ok r ≡ has_number ns n
searched_number ns n (Ok i) up found = let h = searched ns n (Ok i) found (rises_le ns up) in sym (found_here ns i n h.0 h.1)
searched_number ns n (Err i) up found =
    let h = searched ns n (Err i) found (rises_le ns up) in
    sym (found_nowhere ns n (λ k lt is. elim (below_or k i) [
      | inl below ↦ omega (arith, h.1 k below, is)
      | inr above ↦ omega (arith, h.2 k above lt, is)
    ]))
  where
    below_or : (k i : ℕ) → (k < i) ⊎ (i ≤ k)
    below_or k i = grind arith
