-- What stands before the first byte that has an escape prints as it is.
use Rattle.std.proofs.Common.{◌≡◌, ℕ, ◌+◌, ◌<◌, ◌≤◌, Bool, true, false, cond, List, [], ◌∷◌, ◌++◌, length, take, drop, get_or, Some, None, refl, ap, ◌∙◌, append-nil, add-one, one-add, nat_lt, drop-cons, arith}
use Rattle.std.proofs.lemmas.List.{take_all, drop_all}
use Rattle.std.proofs.lemmas.List.Quantifiers.{position-Some}
use Rattle.std.proofs.lemmas.List.Sums.{position_or_len_is}
use Rattle.std.specs.List.{flat_map, position, position_or_len}
use Rattle.std.proofs.lemmas.Bool.Decides.{nat_tests}
use Rattle.gql_ast.specs.Machinery.Escapes.{escaped, is_escaped}
use Rattle.gql_ast.specs.declared.text.escapes.Setting.{Setting}
use Rattle.gql_ast.specs.declared.text.escapes.Setting.TheVariants as settings

plain : (s : Setting) (b : ℕ) → is_escaped s b ≡ false → escaped s b ≡ b ∷ []
plain settings.String b h = grind (arith, nat_tests)
plain settings.Name b h = grind (arith, nat_tests)
plain settings.Header b h = grind (arith, nat_tests)

module _ (f : ℕ → List ℕ) (p : ℕ → Bool) (same : (b : ℕ) → p b ≡ false → f b ≡ b ∷ []) where
  run_at : (x : ℕ) (xs : List ℕ) (b : Bool) → p x ≡ b → flat_map f xs ≡ take (position_or_len p xs) xs ++ flat_map f (drop (position_or_len p xs) xs)
      → flat_map f (x ∷ xs) ≡ take (position_or_len p (x ∷ xs)) (x ∷ xs) ++ flat_map f (drop (position_or_len p (x ∷ xs)) (x ∷ xs))
  run_at x xs true e h = rw e refl
  run_at x xs false e h = rw (e, same x e, one-add) (ap (λ t. x ∷ t) h)

  run : (xs : List ℕ) → flat_map f xs ≡ take (position_or_len p xs) xs ++ flat_map f (drop (position_or_len p xs) xs)
  run [] = refl
  run (x ∷ xs) = run_at x xs (p x) refl (run xs)

length_of : (p : ℕ → Bool) (xs : List ℕ) (i : ℕ) → position p xs ≡ Some i → position_or_len p xs ≡ i
length_of p xs i found =
    let known = position-Some p xs i 0 found in
    position_or_len_is p xs i 0 (omega (arith, known.0)) known.2 (λ _. known.1)

-- before the first byte that has an escape, and from it on
pub before_escape : (s : Setting) (xs : List ℕ) (i : ℕ) → position (is_escaped s) xs ≡ Some i
    → flat_map (escaped s) xs ≡ take i xs ++ (escaped s (get_or xs i 0) ++ flat_map (escaped s) (drop (i + 1) xs))
before_escape s xs i found =
    let known = position-Some (is_escaped s) xs i 0 found in
    let within : i < length xs = known.0 in
    let same : position_or_len (is_escaped s) xs ≡ i = length_of (is_escaped s) xs i found in
    let cut = run (escaped s) (is_escaped s) (plain s) xs in
    rw same at cut ∙ rw add-one (ap (λ t. take i xs ++ flat_map (escaped s) t) (drop-cons xs i 0 within))

pub escape_is : (s : Setting) (xs : List ℕ) (i : ℕ) → position (is_escaped s) xs ≡ Some i → (i < length xs) × (is_escaped s (get_or xs i 0) ≡ true)
escape_is s xs i found =
    let known = position-Some (is_escaped s) xs i 0 found in
    (known.0, known.1)

-- a byte that has an escape is of ASCII
pub ascii : (s : Setting) (b : ℕ) → is_escaped s b ≡ true → b < 128
ascii settings.String b h = grind (arith, nat_tests)
ascii settings.Name b h = grind (arith, nat_tests)
ascii settings.Header b h = grind (arith, nat_tests)

none_before : (n len : ℕ) → cond (nat_lt n len) (Some n) None ≡ None → len ≤ n
none_before n len h = grind (arith, nat_tests)

-- without a byte that has an escape
pub no_escape : (s : Setting) (xs : List ℕ) → position (is_escaped s) xs ≡ None → flat_map (escaped s) xs ≡ xs
no_escape s xs none =
    let n = position_or_len (is_escaped s) xs in
    let all : length xs ≤ n = none_before n (length xs) none in
    run (escaped s) (is_escaped s) (plain s) xs ∙ rw (take_all n xs all, drop_all n xs all) (append-nil xs)
