-- Loops over steps.
use Rattle.std.proofs.Common.{◌≡◌, ℕ, zero, suc, ◌<◌, List, [], ◌∷◌, ◌++◌, length, Some, None, refl, sym, ap, ◌∙◌, append_assoc, arith}
use Rattle.std.proofs.lemmas.List.{append-nil}
use Rattle.gql_lexer.specs.declared.lexeme.Lexeme.{Lexeme}
use Rattle.gql_front.specs.Reading.{Reader, many}
use Rattle.gql_front.proofs.Found.{Shrinks, many_same}

-- what a loop read before, and what it still reads
abbrev pub with_front : {C : Type 0} → List C → List C × List Lexeme → List C × List Lexeme
with_front front more = (front ++ more.0, more.1)

module _ {C : Type 0} (step : Reader C) (shrinks : Shrinks step) where
  stopped : (n : ℕ) (ts : List Lexeme) → step ts ≡ None → many step n ts ≡ ([], ts)
  unfolding many
  stopped zero ts e = refl
  stopped (suc n) ts e = rw e refl

  advanced : (ts : List Lexeme) (x : C) (r : List Lexeme) → step ts ≡ Some (x, r) → many step (length ts) ts ≡ (x ∷ (many step (length r) r).0, (many step (length r) r).1)
  unfolding many
  advanced ts x r e = go (length ts) refl
    where
      less : length r < length ts
      less = shrinks ts x r e

      one : (m : ℕ) → many step (suc m) ts ≡ (x ∷ (many step m r).0, (many step m r).1)
      one m = rw e refl

      go : (n : ℕ) → length ts ≡ n → many step n ts ≡ (x ∷ (many step (length r) r).0, (many step (length r) r).1)
      go zero q = absurd (omega (arith, less))
      go (suc m) q = one m ∙ ap (λ (z : List C × List Lexeme). (x ∷ z.0, z.1)) (many_same step shrinks m (length r) r (omega (arith, less)) (omega (arith, less)))

  -- the loop stops
  pub loop_stops : (front : List C) (ts : List Lexeme) → step ts ≡ None → ◌≡◌ {A = List C × List Lexeme} (with_front front (many step (length ts) ts)) (front, ts)
  loop_stops front ts e = ap (λ (z : List C × List Lexeme). with_front front z) (stopped (length ts) ts e) ∙ ap (λ (z : List C). (z, ts)) (append-nil front)

  -- the loop goes on
  pub loop_goes_on : (front : List C) (ts : List Lexeme) (x : C) (r : List Lexeme) → step ts ≡ Some (x, r)
      → with_front front (many step (length ts) ts) ≡ with_front (front ++ x ∷ []) (many step (length r) r)
  loop_goes_on front ts x r e =
      ap (λ (z : List C × List Lexeme). with_front front z) (advanced ts x r e) ∙ ap (λ (z : List C). (z, (many step (length r) r).1)) (sym (append_assoc front (x ∷ []) (many step (length r) r).0))
