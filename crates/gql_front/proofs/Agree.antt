-- Readers that give the longest front.
use Rattle.std.proofs.Common.{◌≡◌, ◌<◌, ◌⊎◌, inl, inr, Bool, List, length, Option, Some, None, refl, sym, ap, arith}
use Rattle.gql_lexer.specs.declared.lexeme.Lexeme.{Lexeme}
use Rattle.gql_front.specs.Longest.{Longest}
use Rattle.gql_front.proofs.Found.{Found, exact, longer, some_is}

module _ {A : Type 0} (P : A → List Lexeme → List Lexeme → Type 0) (g : Lexeme → Bool) (ts : List Lexeme) where
  -- two readers that give the longest front agree
  pub agree : (a b : Option (A × List Lexeme)) → ((x : A) (r : List Lexeme) → a ≡ Some (x, r) → P x ts r) → ((y : A) (s : List Lexeme) → P y ts s → Found a g y s)
      → ((x : A) (r : List Lexeme) → b ≡ Some (x, r) → P x ts r) → ((y : A) (s : List Lexeme) → P y ts s → Found b g y s) → a ≡ b
  agree None None sa ca sb cb = refl
  agree None (Some (y, s)) sa ca sb cb = go (ca y s (sb y s refl))
    where
      go : Found None g y s → ◌≡◌ {A = Option (A × List Lexeme)} None (Some (y, s))
      go (exact e) = e
      go (longer x r e l h) = absurd cc
  agree (Some (x, r)) None sa ca sb cb = go (cb x r (sa x r refl))
    where
      go : Found None g x r → ◌≡◌ {A = Option (A × List Lexeme)} (Some (x, r)) None
      go (exact e) = sym e
      go (longer y s e l h) = absurd cc
  agree (Some (x, r)) (Some (y, s)) sa ca sb cb = go (ca y s (sb y s refl)) (cb x r (sa x r refl))
    where
      go : Found (Some (x, r)) g y s → Found (Some (y, s)) g x r → ◌≡◌ {A = Option (A × List Lexeme)} (Some (x, r)) (Some (y, s))
      go (exact e) k = e
      go (longer x' r' e l h) (exact k) = sym k
      go (longer x' r' e l h) (longer y' s' k m i) =
          absurd (omega (arith, ap (λ (z : A × List Lexeme). length z.1) (some_is (x, r) (x', r') e), ap (λ (z : A × List Lexeme). length z.1) (some_is (y, s) (y', s') k)))

  pub is_longest : (a : Option (A × List Lexeme)) → ((x : A) (r : List Lexeme) → a ≡ Some (x, r) → P x ts r) → ((y : A) (s : List Lexeme) → P y ts s → Found a g y s) → Longest P ts a
  is_longest None sound complete = λ y s h. go y s (complete y s h)
    where
      go : (y : A) (s : List Lexeme) → Found None g y s → ⊥
      go y s (exact e) = cc
      go y s (longer x r e l k) = cc
  is_longest (Some (x, r)) sound complete = (sound x r refl, λ y s h. go y s (complete y s h))
    where
      go : (y : A) (s : List Lexeme) → Found (Some (x, r)) g y s → ((y ≡ x) × (s ≡ r)) ⊎ (length r < length s)
      go y s (exact e) =
          let same = some_is (x, r) (y, s) e in
          inl (sym (ap (λ (z : A × List Lexeme). z.0) same), sym (ap (λ (z : A × List Lexeme). z.1) same))
      go y s (longer x' r' e l k) = inr (omega (arith, ap (λ (z : A × List Lexeme). length z.1) (some_is (x, r) (x', r') e)))
