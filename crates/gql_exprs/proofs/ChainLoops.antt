-- The loop over the further sides of any chain: each side stands behind the symbol at one place.
use Rattle.std.proofs.Common.{◌≡◌, Bool, true, false, cond, ℕ, List, [], ◌∷◌, ◌++◌, length, Option, Some, None, refl, sym, ◌∙◌}
use Rattle.gql_lexer.specs.declared.lexeme.Lexeme.{Lexeme}
use Rattle.gql_front.specs.Reading.{◌>>=◌, Reader, is_sign, after, op_at, before, step, many}
use Rattle.gql_front.proofs.Loops.{with_front, loop_stops, loop_goes_on}
use Rattle.gql_front.proofs.Found.{Shrinks, step_shrinks, no_operator, no_operand, one_step}
use Rattle.gql_exprs.specs.Machinery.LabelReaders.{symbol_op}

-- a symbol as a test and as an operator
abbrev behind : List Lexeme → Option (Unit {0} × List Lexeme)
behind r = Some (tt, r)

symbol_at : (place : ℕ) (ts : List Lexeme) → op_at (symbol_op place) ts ≡ (after (is_sign place) ts >>= behind)
symbol_at place [] = refl
symbol_at place (t ∷ ts) = go (is_sign place t)
  where
    go : (b : Bool) → ((cond b (Some tt) None) >>= before ts) ≡ ((cond b (Some ts) None) >>= behind)
    go true = refl
    go false = refl

pub symbol_none : (place : ℕ) (ts : List Lexeme) → after (is_sign place) ts ≡ None → op_at (symbol_op place) ts ≡ None
symbol_none place ts e = symbol_at place ts ∙ rw e refl

pub symbol_some : (place : ℕ) (ts a : List Lexeme) → after (is_sign place) ts ≡ Some a → op_at (symbol_op place) ts ≡ Some (tt, a)
symbol_some place ts a e = symbol_at place ts ∙ rw e refl

-- the chain's symbol, how a side is read, and what is kept of it
module _ {A : Type 0} (place : ℕ) (side : Reader A) (kept : Unit {0} → A → A) where
  -- the further sides that are still to be read
  abbrev pub further : List Lexeme → List A × List Lexeme
  further ts = many (step (symbol_op place) side kept) (length ts) ts

  -- the loop has read the sides `front`, and stands before ts
  module _ (shrinks : Shrinks side) (front : List A) (ts : List Lexeme) (total : List A × List Lexeme) (so_far : with_front front (further ts) ≡ total) where
    stops : step (symbol_op place) side kept ts ≡ None → ◌≡◌ {A = List A × List Lexeme} (front, ts) total
    stops e = sym (loop_stops (step (symbol_op place) side kept) (step_shrinks (symbol_op place) side kept shrinks) front ts e) ∙ so_far

    pub no_symbol : after (is_sign place) ts ≡ None → ◌≡◌ {A = List A × List Lexeme} (front, ts) total
    no_symbol e = stops (no_operator (symbol_op place) side kept ts (symbol_none place ts e))

    pub no_side : (a : List Lexeme) → after (is_sign place) ts ≡ Some a → side a ≡ None → ◌≡◌ {A = List A × List Lexeme} (front, ts) total
    no_side a e h = stops (no_operand (symbol_op place) side kept ts tt a (symbol_some place ts a e) h)

    pub one_side : (a : List Lexeme) (x : A) (r : List Lexeme) → after (is_sign place) ts ≡ Some a → side a ≡ Some (x, r) → with_front (front ++ kept tt x ∷ []) (further r) ≡ total
    one_side a x r e h =
        sym (loop_goes_on (step (symbol_op place) side kept) (step_shrinks (symbol_op place) side kept shrinks) front ts (kept tt x) r (one_step (symbol_op place) side kept ts tt a x r (symbol_some place ts a e) h)) ∙ so_far
