-- No key stands twice exactly where the keys strictly ascend once they are sorted.
--
-- What is counted is how often a key stands in a list, which no other order changes.
use Rattle.std.proofs.Common.{◌≡◌, ℕ, suc, ◌+◌, ◌<◌, ◌≤◌, Bool, true, false, not, cond, ◌||◌, List, [], ◌∷◌, length, map, get_or, refl, sym, ◌∙◌, ap, subst, arith, IsPermutation, Option, Some, None, if◌then◌else◌}
use Rattle.std.specs.List.{sum_by}
use Rattle.std.specs.List.Sorted.{IsSortedBy}
use Rattle.std.specs.Ordering.{is_lt, is_eq}
use Rattle.std.specs.Cmp.Lexicographic.{bytes_decides, nat_list_cmp_total, texts_ties}
use Rattle.std.specs.declared.cmp.Ordering.{Ordering}
use Rattle.std.specs.declared.cmp.Ordering.TheVariants.{Less, Equal, Greater}
use Rattle.std.proofs.lemmas.Bool.{and_from, and_parts}
use Rattle.std.proofs.lemmas.List.MinMax.{ranks_by}
use Rattle.std.proofs.lemmas.List.Sums.{sum_by-cons}
use Rattle.std.proofs.lemmas.List.Sorted.{IsPermutation-map, IsPermutation-sym, sorted_far, sum_by-IsPermutation}
use Rattle.gql_values3.specs.Texts.{same_text, texts_ascend, texts_differ}
use Rattle.gql_ports.specs.declared.stored.Record.{Record}
use Rattle.gql_ports.specs.Held.{keys_ascend}
use Rattle.gql_keep_sql.specs.Keys.{has_key, keys_of}
use Rattle.gql_keep_sql.specs.Written.{is_key_below}
use Rattle.gql_keep_sql.specs.Machinery.Merge.{key_cmp}
use Rattle.gql_keep_sql.proofs.MergeLemmas.{absent, ascend_behind, as_is, cons_above, less_from_greater}

-- how often a key stands in a list
abbrev pub times : List ℕ → List (List ℕ) → ℕ
times q [] = 0
times q (key ∷ keys) = cond (same_text q key) 1 0 + times q keys

as_sum : (q : List ℕ) (keys : List (List ℕ)) → times q keys ≡ sum_by (λ key. cond (same_text q key) 1 0) keys
as_sum q [] = refl
as_sum q (key ∷ keys) = ap (λ n. cond (same_text q key) 1 0 + n) (as_sum q keys) ∙ sym (sum_by-cons (λ key. cond (same_text q key) 1 0) key keys)

times_permuted : (q : List ℕ) (xs ys : List (List ℕ)) → IsPermutation xs ys → times q ys ≡ times q xs
times_permuted q xs ys same = as_sum q ys ∙ sum_by-IsPermutation (λ key. cond (same_text q key) 1 0) xs ys same ∙ sym (as_sum q xs)

-- a key that does not stand in a list stands there no time
no_time : (same any : Bool) (n : ℕ) → (any ≡ false → n ≡ 0) → (same || any) ≡ false → cond same 1 0 + n ≡ 0
no_time true any n f h = absurd cc
no_time false any n f h = let none = f h in omega (arith, none)

pub absent_times : (q : List ℕ) (keys : List (List ℕ)) → has_key keys q ≡ false → times q keys ≡ 0
absent_times q [] h = refl
absent_times q (key ∷ keys) h = no_time (same_text q key) (has_key keys q) (times q keys) (absent_times q keys) h

not_any : (same any : Bool) (n : ℕ) → (n ≡ 0 → any ≡ false) → cond same 1 0 + n ≡ 0 → (same || any) ≡ false
not_any true any n f h = absurd (omega (arith, h))
not_any false any n f h = f (omega (arith, h))

times_absent : (q : List ℕ) (keys : List (List ℕ)) → times q keys ≡ 0 → has_key keys q ≡ false
times_absent q [] h = refl
times_absent q (key ∷ keys) h = not_any (same_text q key) (has_key keys q) (times q keys) (times_absent q keys) h

-- keys that differ stand once
once_more : (same : Bool) (n : ℕ) → n ≤ 1 → (same ≡ true → n ≡ 0) → cond same 1 0 + n ≤ 1
once_more true n most none = let it = none refl in omega (arith, it)
once_more false n most none = omega (arith, most)

not_true : (b : Bool) → not b ≡ true → b ≡ false
not_true true h = absurd cc
not_true false h = refl

pub differ_once : (q : List ℕ) (keys : List (List ℕ)) → texts_differ keys ≡ true → times q keys ≤ 1
differ_once q [] h = omega arith
differ_once q (key ∷ keys) h =
    let parts = and_parts (not (has_key keys key)) (texts_differ keys) h in
    once_more (same_text q key) (times q keys) (differ_once q keys parts.1) (λ same. absent_times q keys (as_is (λ x. has_key keys x ≡ false) q key (not_true (has_key keys key) parts.0) same))

first_once : (same : Bool) (n : ℕ) → same ≡ true → cond same 1 0 + n ≤ 1 → n ≡ 0
first_once true n is most = omega (arith, most)
first_once false n is most = absurd cc

rest_once : (same : Bool) (n : ℕ) → cond same 1 0 + n ≤ 1 → n ≤ 1
rest_once true n most = omega (arith, most)
rest_once false n most = omega (arith, most)

pub once_differ : (keys : List (List ℕ)) → ((q : List ℕ) → times q keys ≤ 1) → texts_differ keys ≡ true
once_differ [] once = refl
once_differ (key ∷ keys) once =
    and_from (not (has_key keys key)) (texts_differ keys)
    (ap not (times_absent key keys (first_once (same_text key key) (times key keys) ((bytes_decides key key).1 refl) (once key))))
    (once_differ keys (λ q. rest_once (same_text q key) (times q keys) (once q)))

differ_permuted : (xs ys : List (List ℕ)) → IsPermutation xs ys → texts_differ xs ≡ true → texts_differ ys ≡ true
differ_permuted xs ys same h =
    once_differ ys (λ q. subst (λ n. n ≤ 1) (sym (times_permuted q xs ys same)) (differ_once q xs h))

-- keys that ascend differ
pub ascend_differ : (keys : List (List ℕ)) → texts_ascend keys ≡ true → texts_differ keys ≡ true
ascend_differ [] h = refl
ascend_differ (key ∷ keys) h = and_from (not (has_key keys key)) (texts_differ keys) (ap not (absent key keys h)) (ascend_differ keys (ascend_behind key keys h))

-- what is neither above nor the same is below
below_by : (o : Ordering) → (o ≡ Equal → ⊥) → (o ≡ Greater → ⊥) → o ≡ Less
below_by Less f g = refl
below_by Equal f g = absurd (f refl)
below_by Greater f g = absurd (g refl)

same_bool : (a b : Bool) → (a ≡ true → b ≡ true) → (b ≡ true → a ≡ true) → a ≡ b
same_bool true b f g = sym (f refl)
same_bool false true f g = g refl
same_bool false false f g = refl

module _ {X : Type 0} (key : X → List ℕ) where
  abbrev NoneFalls : List X → Type 0
  NoneFalls xs = (i j : ℕ) (d : X) → i < j → j < length xs → is_lt (key_cmp (key (get_or xs j d)) (key (get_or xs i d))) ≡ false

  -- and sorted keys that differ ascend
  differ_ascend : (xs : List X) → NoneFalls xs → texts_differ (map key xs) ≡ true → texts_ascend (map key xs) ≡ true
  differ_ascend [] up h = refl
  differ_ascend (a ∷ []) up h = refl
  differ_ascend (a ∷ b ∷ xs) up h =
      let parts = and_parts (not (has_key (map key (b ∷ xs)) (key a))) (texts_differ (map key (b ∷ xs))) h in
      let other = not_first (same_text (key a) (key b)) (has_key (map key xs) (key a)) parts.0 in
      cons_above (key a) (key b) (map key xs)
      (below_by (key_cmp (key a) (key b)) (λ is. let same = texts_ties (key a) (key b) ∙ ap is_eq is in cc)
      (λ is. let falls = up 0 1 a (omega arith) (omega arith) in let under = ap is_lt (less_from_greater (key a) (key b) is) in cc))
      (differ_ascend (b ∷ xs) (λ i j d lt below. up (suc i) (suc j) d (omega arith) (omega arith)) parts.1)
    where
      not_first : (same any : Bool) → not (same || any) ≡ true → same ≡ false
      not_first true any h = absurd cc
      not_first false any h = refl

  pub ascend_where_differ : (xs ys : List X) → IsPermutation xs ys → IsSortedBy (λ a b. is_lt (key_cmp (key a) (key b))) ys → texts_ascend (map key ys) ≡ texts_differ (map key xs)
  ascend_where_differ xs ys same sorted =
      same_bool (texts_ascend (map key ys)) (texts_differ (map key xs))
      (λ up. differ_permuted (map key ys) (map key xs) (IsPermutation-map key ys xs (IsPermutation-sym xs ys same)) (ascend_differ (map key ys) up))
      (λ differ. differ_ascend ys (λ i j d lt below. sorted_far _ (ranks_by nat_list_cmp_total key) ys sorted i j d (omega arith) below) (differ_permuted (map key xs) (map key ys) (IsPermutation-map key xs ys same) differ))

-- ---- what a list of keys says, which is made where keys ascend

made : {X : Type 0} (b : Bool) (o : Option X) (x y : X) → o ≡ (if b then Some x else None) → o ≡ Some y → b ≡ true
made true o x y is some = refl
made false o x y is some = absurd cc

not_made : {X : Type 0} (b : Bool) (o : Option X) (x : X) → o ≡ (if b then Some x else None) → o ≡ None → b ≡ false
not_made true o x is none = absurd cc
not_made false o x is none = refl

pub listed_differ : (records : List Record) (o : Option (List (List ℕ))) (keys : List (List ℕ)) → o ≡ (if keys_ascend records then Some (keys_of records) else None) → o ≡ Some keys → texts_differ (keys_of records) ≡ true
listed_differ records o keys is some = ascend_differ (keys_of records) (made (keys_ascend records) o (keys_of records) keys is some)

module _ (records sorted : List Record) (same : IsPermutation records sorted) (up : IsSortedBy is_key_below sorted) (o : Option (List (List ℕ))) (is : o ≡ (if keys_ascend sorted then Some (keys_of sorted) else None)) where
  ascends : keys_ascend sorted ≡ texts_differ (keys_of records)
  ascends = ascend_where_differ (λ (r : Record). r.key) records sorted same up

  pub sorted_differ : (keys : List (List ℕ)) → o ≡ Some keys → texts_differ (keys_of records) ≡ true
  sorted_differ keys some = sym ascends ∙ made (keys_ascend sorted) o (keys_of sorted) keys is some

  pub sorted_repeat : o ≡ None → texts_differ (keys_of records) ≡ false
  sorted_repeat none = sym ascends ∙ not_made (keys_ascend sorted) o (keys_of sorted) is none
