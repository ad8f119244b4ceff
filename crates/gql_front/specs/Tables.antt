-- Tables: what each of some words, or of some symbols, says.
use Rattle.std.specs.Prelude.{◌≡◌, ℕ, List, [], ◌∷◌, Option, Some, None, nat_eq, cond}
use Rattle.gql_lexer.specs.declared.lexeme.Lexeme.{Lexeme}
use Rattle.gql_lexer.specs.declared.lexeme.Lexeme.TheVariants as lex

-- what the table says of a place
abbrev pub entry : {A : Type 0} → List (ℕ × A) → ℕ → Option A
entry [] place = None
entry (row ∷ rows) place = cond (nat_eq place row.0) (Some row.1) (entry rows place)

-- the same of a reserved word
abbrev pub word_in : {A : Type 0} → List (ℕ × A) → Lexeme → Option A
word_in table (lex.Word place written) = entry table place
word_in table _ = None

-- the same of a symbol
abbrev pub sign_in : {A : Type 0} → List (ℕ × A) → Lexeme → Option A
sign_in table (lex.Sign place) = entry table place
sign_in table _ = None

-- the lexeme at the front says a, and then r
abbrev pub Begins : {A : Type 0} → (Lexeme → Option A) → A → List Lexeme → List Lexeme → Type 0
Begins says a ts r = (t : Lexeme) × (says t ≡ Some a) × (ts ≡ t ∷ r)
