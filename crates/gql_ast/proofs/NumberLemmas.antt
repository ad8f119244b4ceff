-- A number without the zeros that stand first.
use Rattle.std.proofs.Common.{◌≡◌, ℕ, zero, suc, ◌+◌, ◌<◌, ◌≤◌, Bool, true, false, cond, not, ◌==◌, ◌-◌, ◌*◌, List, [], ◌∷◌, length, drop, get_or, Some, None, refl, ap, sym, ◌∙◌, one-add, add-one, nat_lt, ◌^◌, drop-cons, arith, rules}
use Rattle.std.specs.List.{position, position_or_len}
use Rattle.std.specs.Str.{IsUtf8, IsCharBoundary}
use Rattle.std.proofs.lemmas.Bool.{and_parts}
use Rattle.std.proofs.lemmas.Bool.Decides.{nat_tests}
use Rattle.std.proofs.lemmas.List.{drop_all}
use Rattle.std.proofs.lemmas.List.Quantifiers.{position-Some}
use Rattle.std.proofs.lemmas.List.Sums.{position_or_len_is}
use Rattle.std.proofs.lemmas.Str.{IsCharBoundary-start, IsCharBoundary-after_ascii}
use Rattle.std.specs.Fmt.{decimal}
use Rattle.std.specs.Str.{all_ascii_digits}
use Rattle.std.proofs.lemmas.Fmt.{decimal-digits_value}
use Rattle.std.proofs.lemmas.Str.Parse.{IsNumeralModel, numerals_by_weight, tells_all_ascii_digits}
use Rattle.gql_values3.specs.Integers.{value_of_digits}
use Rattle.gql_ast.specs.ExprText.{number_text}

abbrev beyond : ℕ → Bool
beyond b = not (b == 48)

-- what is left, or one zero
abbrev shown : List ℕ → List ℕ
shown [] = 48 ∷ []
shown (c ∷ cs) = c ∷ cs

left_at : (x : ℕ) (xs : List ℕ) (b : Bool) → (x == 48) ≡ b → number_text xs ≡ shown (drop (position_or_len beyond xs) xs)
    → number_text (x ∷ xs) ≡ shown (drop (position_or_len beyond (x ∷ xs)) (x ∷ xs))
left_at x xs true e h = rw (e, one-add) h
left_at x xs false e h = rw e refl

left : (xs : List ℕ) → number_text xs ≡ shown (drop (position_or_len beyond xs) xs)
left [] = refl
left (x ∷ xs) = left_at x xs (x == 48) refl (left xs)

length_of : (xs : List ℕ) (i : ℕ) → position beyond xs ≡ Some i → position_or_len beyond xs ≡ i
length_of xs i found =
    let known = position-Some beyond xs i 0 found in
    position_or_len_is beyond xs i 0 (omega (arith, known.0)) known.2 (λ _. known.1)

pub from_first : (xs : List ℕ) (i : ℕ) → position beyond xs ≡ Some i → drop i xs ≡ number_text xs
from_first xs i found =
    let known = position-Some beyond xs i 0 found in
    let within : i < length xs = known.0 in
    let rest = left xs in
    let cut : drop i xs ≡ get_or xs i 0 ∷ drop (suc i) xs = drop-cons xs i 0 within in
    cut ∙ ap shown (sym cut) ∙ sym (rw (length_of xs i found) at rest)

none_before : (n len : ℕ) → cond (nat_lt n len) (Some n) None ≡ None → len ≤ n
none_before n len h = grind (arith, nat_tests)

pub only_zeros : (xs : List ℕ) → position beyond xs ≡ None → 48 ∷ [] ≡ number_text xs
only_zeros xs none =
    let n = position_or_len beyond xs in
    sym (left xs ∙ ap shown (drop_all n xs (none_before n (length xs) none)))

zero_is : (b : ℕ) → beyond b ≡ false → b < 128
zero_is b h = grind (arith, nat_tests)

-- zeros end a character
pub boundary : (xs : List ℕ) (i : ℕ) → IsUtf8 xs → position beyond xs ≡ Some i → IsCharBoundary xs i
boundary xs zero u found = IsCharBoundary-start xs u
boundary xs (suc k) u found =
    let known = position-Some beyond xs (suc k) 0 found in
    let before : k < length xs = omega (arith, known.0) in
    rw (← add-one) (IsCharBoundary-after_ascii xs k u before (zero_is (get_or xs k 0) (known.2 k (omega arith))))

own : IsNumeralModel (λ ds. all_ascii_digits ds ≡ true) value_of_digits
own = numerals_by_weight (λ ds. all_ascii_digits ds ≡ true) tells_all_ascii_digits value_of_digits (search rules)

-- what the zeros change
record Stays (xs : List ℕ) : Type 0 where
  value : value_of_digits (number_text xs) ≡ value_of_digits xs
  digits : all_ascii_digits xs ≡ true → all_ascii_digits (number_text xs) ≡ true
  some : 0 < length (number_text xs)
  front : get_or (number_text xs) 0 0 ≡ 48 → length (number_text xs) ≡ 1

is_zero : (x : ℕ) → (x == 48) ≡ true → x ≡ 48
is_zero x e = grind (arith, nat_tests)

no_zero : (x : ℕ) → (x == 48) ≡ false → x ≡ 48 → ⊥
no_zero x e p = grind (arith, nat_tests)

weightless : (x n v : ℕ) → x ≡ 48 → v ≡ (x - 48) * n + v
weightless x n v p = let z : x - 48 ≡ 0 = omega arith in rw z (omega arith)

stays_at : (x : ℕ) (xs : List ℕ) (b : Bool) → (x == 48) ≡ b → Stays xs → Stays (x ∷ xs)
stays_at x xs true e h = record {
  value = rw e (h.value ∙ weightless x (10 ^ length xs) (value_of_digits xs) (is_zero x e));
  digits = λ d. rw e (h.digits ((and_parts _ _ d).1));
  some = rw e h.some;
  front = rw e h.front;
}
stays_at x xs false e h = record {
  value = rw e refl;
  digits = λ d. rw e d;
  some = rw e (omega arith);
  front = rw e (λ p. absurd (no_zero x e p));
}

stays : (xs : List ℕ) → Stays xs
stays [] = record { value = refl; digits = λ _. refl; some = omega arith; front = λ _. refl }
stays (x ∷ xs) = stays_at x xs (x == 48) refl (stays xs)

-- a number that fits prints in decimal
pub number_text-decimal : (xs : List ℕ) → all_ascii_digits xs ≡ true → value_of_digits xs < 2 ^ 64 → number_text xs ≡ decimal (value_of_digits xs)
number_text-decimal xs d fits =
    let s = stays xs in
    sym (decimal-digits_value own (number_text xs) (s.digits d) s.some s.front (rw s.value fits)) ∙ ap decimal s.value
