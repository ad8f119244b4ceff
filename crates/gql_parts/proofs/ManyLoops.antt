-- A loop that takes steps as long as there are any: what was read so far and what is still read are the whole.
use Rattle.std.proofs.Common.{◌≡◌, ◌<◌, ◌≤◌, ℕ, zero, suc, List, [], ◌∷◌, ◌++◌, length, Some, None, refl, sym, ap, ◌∙◌, append_assoc, arith}
use Rattle.std.proofs.lemmas.List.{append-nil}
use Rattle.gql_lexer.specs.declared.lexeme.Lexeme.{Lexeme}
use Rattle.gql_front.specs.Reading.{Reader, many}
use Rattle.gql_front.proofs.Loops.{with_front}
use Rattle.gql_parts.proofs.ManyLaws.{many_none, many_next}

module _ {C : Type 0} (step : Reader C) where
  abbrev pub StepsSoFar : List C × List Lexeme → List C → List Lexeme → Type 0
  StepsSoFar whole items rest = (k : ℕ) × (length rest ≤ k) × (with_front items (many step k rest) ≡ whole)

  pub steps_begin : (items : List C) (start : List Lexeme) → StepsSoFar (with_front items (many step (length start) start)) items start
  steps_begin items start = (length start, omega arith, refl)

  pub steps_go_on : (whole : List C × List Lexeme) (items : List C) (rest : List Lexeme) (c : C) (r : List Lexeme) → StepsSoFar whole items rest → step rest ≡ Some (c, r)
      → length r < length rest → StepsSoFar whole (items ++ c ∷ []) r
  steps_go_on whole items rest c r (zero, le, so_far) e shorter = absurd (omega arith)
  steps_go_on whole items rest c r (suc k, le, so_far) e shorter =
      let next = many_next step k rest c r (many step k r).0 (many step k r).1 e refl in (
        k,
        omega arith,
        ap (λ (z : List C). (z, (many step k r).1)) (append_assoc items (c ∷ []) (many step k r).0)
            ∙ sym (ap (λ (z : List C × List Lexeme). with_front items z) next) ∙ so_far,
      )

  pub steps_end : (whole : List C × List Lexeme) (items : List C) (rest : List Lexeme) → StepsSoFar whole items rest → step rest ≡ None
      → ◌≡◌ {A = List C × List Lexeme} (items, rest) whole
  steps_end whole items rest h e =
      sym (ap (λ (z : List C × List Lexeme). with_front items z) (many_none step h.0 rest e) ∙ ap (λ (z : List C). (z, rest)) (append-nil items)) ∙ h.2
