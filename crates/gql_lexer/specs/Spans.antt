-- Spans: some bytes, cut from the left into the longest forms.
use Rattle.std.specs.Prelude.{ℕ, zero, suc, ◌-◌, List, [], ◌∷◌, take}
use Rattle.gql_lexer.specs.declared.front.Shape.{Shape}
use Rattle.gql_lexer.specs.Forms.{front}

-- a form, and its bytes
pub record Span : Type 0 where
  pub shape : Shape
  pub bytes : List ℕ

-- the form that stands at the front
abbrev pub first_span : List ℕ → Span
first_span bs = record { shape = (front bs).shape; bytes = take (front bs).size bs }

-- the form at the front and those behind it; the first bytes, skip of them, belong to the form before
abbrev pub spans_from : ℕ → List ℕ → List Span
spans_from skip [] = []
spans_from (suc skip) (b ∷ bs) = spans_from skip bs
spans_from zero (b ∷ bs) = first_span (b ∷ bs) ∷ spans_from ((front (b ∷ bs)).size - 1) bs

-- all of them
abbrev pub spans : List ℕ → List Span
spans bs = spans_from 0 bs
