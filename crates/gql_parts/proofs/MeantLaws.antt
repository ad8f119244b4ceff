-- A part that is read by its meaning: each meaning that is read is made into a part of which it is the meaning.
use Rattle.std.proofs.Common.{◌≡◌, Bool, List, Some, refl, sym, ap, subst, ◌∙◌}
use Rattle.gql_lexer.specs.declared.lexeme.Lexeme.{Lexeme}
use Rattle.gql_front.specs.Reading.{◌>>=◌, Reader}
use Rattle.gql_front.proofs.Found.{Found, exact, longer, Sound}
use Rattle.gql_parts.proofs.PartLaws.{bind_then, finish}

module _ {M A : Type 0} (read : Reader M) (meaning_of : A → M) (made_of : M → A) where
  abbrev pub made : Reader A
  made ts = read ts >>= λ m. Some (made_of m.0, m.1)

  pub made_sound : (Q : M → List Lexeme → List Lexeme → Type 0) → Sound Q read → ((m : M) (ts r : List Lexeme) → Q m ts r → meaning_of (made_of m) ≡ m)
      → Sound (λ x ts r. Q (meaning_of x) ts r) made
  made_sound Q sound same ts x r e =
      bind_then (read ts) (λ m. Some (made_of m.0, m.1)) (x, r) e (λ m p k.
      let d = sound ts m.0 m.1 p in
      finish (λ x r. Q (meaning_of x) ts r) (made_of m.0) m.1 x r k (subst (λ z. Q z ts m.1) (sym (same m.0 ts m.1 d)) d))

  module _ (same : (x : A) → made_of (meaning_of x) ≡ x) where
    -- what a function of the code read
    pub made_is : (ts : List Lexeme) (x : A) (r : List Lexeme) → read ts ≡ Some (meaning_of x, r) → made ts ≡ Some (x, r)
    made_is ts x r h = rw h refl ∙ ap (λ z. Some (z, r)) (same x)

    pub made_found : (g : Lexeme → Bool) (ts : List Lexeme) (x : A) (s : List Lexeme) → Found (read ts) g (meaning_of x) s → Found (made ts) g x s
    made_found g ts x s (exact e) = exact (made_is ts x s e)
    made_found g ts x s (longer m r e l i) = longer (made_of m) r (rw e refl) l i
