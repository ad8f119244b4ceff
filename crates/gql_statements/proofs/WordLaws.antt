-- Words and names at the front.
use Rattle.std.proofs.Common.{◌≡◌, true, ℕ, List, Option, Some, refl, ap, ◌∙◌}
use Rattle.gql_lexer.specs.declared.lexeme.Lexeme.{Lexeme}
use Rattle.gql_lexer.specs.declared.lexeme.Lexeme.TheVariants as lex
use Rattle.gql_front.specs.Tables.{Begins}
use Rattle.gql_front.specs.Reading.{is_word, name_in, op_at}
use Rattle.gql_front.proofs.LexemeTests.{word_is}
use Rattle.gql_front.proofs.TableLemmas.{begins_read}
use Rattle.gql_parts.specs.Parts.{Passes}
use Rattle.gql_parts.proofs.PartLaws.{Stops, begins_stops}

-- what a word of a table says is read
pub word_read : {A : Type 0} (says : Lexeme → Option A) (place : ℕ) (w : A) → ((x : List ℕ) → says (lex.Word place x) ≡ Some w) → (ts r : List Lexeme)
    → Passes (is_word place) ts r → op_at says ts ≡ Some (w, r)
word_read says place w is ts r h = let v = word_is place h.0 h.1 in begins_read says w ts r (h.0, ap says v.1 ∙ is v.0, h.2)

-- a name is no reserved word
name_no_word : (place : ℕ) (t : Lexeme) (x : List ℕ) → name_in t ≡ Some x → is_word place t ≡ true → ⊥
name_no_word place t x e i = let w = word_is place t i in let q = ap name_in w.1 in cc

pub name_stops : (place : ℕ) (x : List ℕ) (ts r : List Lexeme) → Begins name_in x ts r → Stops (is_word place) ts
name_stops place x ts r h = begins_stops name_in (is_word place) (name_no_word place) x ts r h
