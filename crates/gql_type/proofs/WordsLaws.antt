-- Words that may stand at the front, all of them or none.
use Rattle.std.proofs.Common.{◌≡◌, Bool, true, false, List, Option, Some, None, refl, sym, ap, subst}
use Rattle.gql_lexer.specs.declared.lexeme.Lexeme.{Lexeme}
use Rattle.gql_type.specs.Machinery.TypeReaders.{are_said}

-- what is behind the words, and what says that they stand there, or don't
module _ (behind : List Lexeme → Option (List Lexeme)) (Says : Bool → List Lexeme → List Lexeme → Type 0) where
  pub words_sound : ((ts : List Lexeme) → Says false ts ts) → ((ts r : List Lexeme) → behind ts ≡ Some r → Says true ts r) → (ts : List Lexeme)
      → Says (are_said ts (behind ts)).0 ts (are_said ts (behind ts)).1
  words_sound unsaid said ts = go (behind ts) refl
    where
      go : (o : Option (List Lexeme)) → behind ts ≡ o → Says (are_said ts o).0 ts (are_said ts o).1
      go None e = unsaid ts
      go (Some r) e = said ts r e

  pub words_exact : ((ts r : List Lexeme) → Says false ts r → ts ≡ r) → ((ts r : List Lexeme) → Says true ts r → behind ts ≡ Some r) → (said : Bool) (ts s : List Lexeme)
      → Says said ts s → behind s ≡ None → are_said ts (behind ts) ≡ (said, s)
  words_exact unsaid read false ts s h none = subst (λ z. are_said z (behind z) ≡ (false, s)) (sym (unsaid ts s h)) (ap (are_said s) none)
  words_exact unsaid read true ts s h none = ap (are_said ts) (read ts s h)
