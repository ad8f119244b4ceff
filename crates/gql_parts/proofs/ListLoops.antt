-- The loop over items between commas: what was read so far and what is still read are the list.
use Rattle.std.proofs.Common.{◌≡◌, ◌<◌, ◌≤◌, ℕ, zero, suc, List, [], ◌∷◌, ◌++◌, length, Some, None, refl, sym, ap, ◌∙◌, append_assoc, arith}
use Rattle.std.proofs.lemmas.List.{append-nil}
use Rattle.gql_lexer.specs.declared.lexeme.Lexeme.{Lexeme}
use Rattle.gql_lexer.specs.SymbolPlaces.{comma}
use Rattle.gql_front.specs.Reading.{Reader, is_sign, after, step, many, sequence}
use Rattle.gql_front.proofs.Found.{no_operator, no_operand, one_step}
use Rattle.gql_front.proofs.Loops.{with_front}
use Rattle.gql_exprs.specs.Machinery.LeafReaders.{comma_op}
use Rattle.gql_exprs.proofs.ChainLoops.{symbol_none, symbol_some}
use Rattle.gql_parts.specs.Machinery.PartReaders.{taken, listed}
use Rattle.gql_parts.proofs.ManyLaws.{many_none, many_next}

module _ {A : Type 0} (item : Reader A) where
  -- as many further items as a number says
  abbrev more : ℕ → List Lexeme → List A × List Lexeme
  more k ts = many (step comma_op item taken) k ts

  abbrev pub SoFar : List Lexeme → List A → List Lexeme → Type 0
  SoFar start items rest = (k : ℕ) × (length rest ≤ k) × (listed item start ≡ Some (with_front items (many (step comma_op item taken) k rest)))

  pub list_begins : (start : List Lexeme) (x : A) (r : List Lexeme) → item start ≡ Some (x, r) → SoFar start (x ∷ []) r
  unfolding sequence
  list_begins start x r e = (length r, omega arith, rw e refl)

  pub list_goes_on : (start : List Lexeme) (items : List A) (rest a : List Lexeme) (x : A) (r : List Lexeme) → SoFar start items rest → after (is_sign comma) rest ≡ Some a
      → item a ≡ Some (x, r) → length r < length rest → SoFar start (items ++ x ∷ []) r
  list_goes_on start items rest a x r (zero, le, so_far) here e shorter = absurd (omega arith)
  list_goes_on start items rest a x r (suc k, le, so_far) here e shorter =
      let one = one_step comma_op item taken rest tt a x r (symbol_some comma rest a here) e in
      let next = many_next (step comma_op item taken) k rest x r (more k r).0 (more k r).1 one refl in (
        k,
        omega arith,
        so_far ∙ ap (λ (z : List A × List Lexeme). Some (with_front items z)) next
            ∙ ap (λ (z : List A). Some (z, (more k r).1)) (sym (append_assoc items (x ∷ []) (more k r).0)),
      )

  stopped : (start : List Lexeme) (items : List A) (rest : List Lexeme) → SoFar start items rest → step comma_op item taken rest ≡ None → listed item start ≡ Some (items, rest)
  stopped start items rest h e =
      h.2 ∙ ap (λ (z : List A × List Lexeme). Some (with_front items z)) (many_none (step comma_op item taken) h.0 rest e) ∙ ap (λ (z : List A). Some (z, rest)) (append-nil items)

  -- no comma follows
  pub list_ends : (start : List Lexeme) (items : List A) (rest : List Lexeme) → SoFar start items rest → after (is_sign comma) rest ≡ None → listed item start ≡ Some (items, rest)
  list_ends start items rest h e = stopped start items rest h (no_operator comma_op item taken rest (symbol_none comma rest e))

  -- no item follows a comma
  pub list_leaves : (start : List Lexeme) (items : List A) (rest a : List Lexeme) → SoFar start items rest → after (is_sign comma) rest ≡ Some a → item a ≡ None
      → listed item start ≡ Some (items, rest)
  list_leaves start items rest a h here e = stopped start items rest h (no_operand comma_op item taken rest tt a (symbol_some comma rest a here) e)
