-- What the tests of a lexeme say.
use Rattle.std.proofs.Common.{◌≡◌, ℕ, Bool, true, false, cond, List, [], ◌∷◌, Some, None, refl, ap, ◌∙◌}
use Rattle.std.proofs.Common.{eqb-true}
use Rattle.gql_lexer.specs.declared.lexeme.Lexeme.{Lexeme}
use Rattle.gql_lexer.specs.declared.lexeme.Lexeme.TheVariants as lex
use Rattle.gql_front.specs.Reading.{is_sign, is_word, name_in, after}

pub sign_is : (n : ℕ) (t : Lexeme) → is_sign n t ≡ true → t ≡ lex.Sign n
sign_is n (lex.Sign m) e = ap lex.Sign (eqb-true m n e)
sign_is n (lex.Word w x) e = absurd cc
sign_is n (lex.Name x) e = absurd cc
sign_is n (lex.Chars x) e = absurd cc
sign_is n (lex.Number x) e = absurd cc
sign_is n (lex.Param x) e = absurd cc

pub word_is : (n : ℕ) (t : Lexeme) → is_word n t ≡ true → (x : List ℕ) × (t ≡ lex.Word n x)
word_is n (lex.Word w x) e = (x, ap (λ m. lex.Word m x) (eqb-true w n e))
word_is n (lex.Sign m) e = absurd cc
word_is n (lex.Name x) e = absurd cc
word_is n (lex.Chars x) e = absurd cc
word_is n (lex.Number x) e = absurd cc
word_is n (lex.Param x) e = absurd cc

pub name_is : (t : Lexeme) (x : List ℕ) → name_in t ≡ Some x → t ≡ lex.Name x
name_is (lex.Name y) x e = cc
name_is (lex.Word w y) x e = absurd cc
name_is (lex.Sign m) x e = absurd cc
name_is (lex.Chars y) x e = absurd cc
name_is (lex.Number y) x e = absurd cc
name_is (lex.Param y) x e = absurd cc

pub cond_some_is : {A : Type 0} (b : Bool) (x y : A) → cond b (Some x) None ≡ Some y → (b ≡ true) × (x ≡ y)
cond_some_is true x y e = (refl, cc)
cond_some_is false x y e = absurd cc

-- behind a lexeme that passes a test
pub after_is : (test : Lexeme → Bool) (ts r : List Lexeme) → after test ts ≡ Some r → (t : Lexeme) × (ts ≡ t ∷ r) × (test t ≡ true)
after_is test [] r e = absurd cc
after_is test (t ∷ ts) r e = let h = cond_some_is (test t) ts r e in (t, ap (λ (z : List Lexeme). t ∷ z) h.1, h.0)

pub after_sign : (n : ℕ) (ts r : List Lexeme) → after (is_sign n) ts ≡ Some r → ts ≡ lex.Sign n ∷ r
after_sign n ts r e = let h = after_is (is_sign n) ts r e in h.1 ∙ ap (λ (t : Lexeme). t ∷ r) (sign_is n h.0 h.2)

pub after_word : (n : ℕ) (ts r : List Lexeme) → after (is_word n) ts ≡ Some r → (x : List ℕ) × (ts ≡ lex.Word n x ∷ r)
after_word n ts r e = let h = after_is (is_word n) ts r e in let w = word_is n h.0 h.2 in (w.0, h.1 ∙ ap (λ (t : Lexeme). t ∷ r) w.1)
