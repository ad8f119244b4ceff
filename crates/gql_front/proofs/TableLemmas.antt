-- What holds of each row of a table holds of what the table says.
use Rattle.std.proofs.Common.{◌≡◌, ℕ, ◌<◌, Bool, true, false, cond, List, [], ◌∷◌, length, Option, Some, nat_eq, eqb-true, refl, sym, ap, subst, ◌∙◌, arith}
use Rattle.gql_lexer.specs.declared.lexeme.Lexeme.{Lexeme}
use Rattle.gql_lexer.specs.declared.lexeme.Lexeme.TheVariants as lex
use Rattle.gql_front.specs.Tables.{entry, word_in, sign_in, Begins}
use Rattle.gql_front.specs.Reading.{◌>>=◌, before, op_at}
use Rattle.gql_front.proofs.Found.{Goes, bind_some, some_is, is_there}
use Rattle.gql_front.proofs.Fronts.{Front}

abbrev pub Each : {A : Type 0} → (ℕ → A → Type 0) → List (ℕ × A) → Type 0
Each P [] = Unit {0}
Each P (row ∷ rows) = P row.0 row.1 × Each P rows

pub entry_is : {A : Type 0} (P : ℕ → A → Type 0) (table : List (ℕ × A)) → Each P table → (place : ℕ) (a : A) → entry table place ≡ Some a → P place a
entry_is P [] all place a e = absurd cc
entry_is {A} P (row ∷ rows) all place a e = go (nat_eq place row.0) refl e (λ f. entry_is P rows all.1 place a f)
  where
    go : (b : Bool) → nat_eq place row.0 ≡ b → cond b (Some row.1) (entry rows place) ≡ Some a → (entry rows place ≡ Some a → P place a) → P place a
    go true q f later =
        let same : row.1 ≡ a = cc in
        subst (λ (z : A). P place z) same (subst (λ (n : ℕ). P n row.1) (sym (eqb-true place row.0 q)) all.0)
    go false q f later = later f

pub word_row : {A : Type 0} (P : Lexeme → A → Type 0) (table : List (ℕ × A)) → ((x : List ℕ) → Each (λ n a. P (lex.Word n x) a) table)
    → (t : Lexeme) (a : A) → word_in table t ≡ Some a → P t a
word_row P table all (lex.Word w x) a e = entry_is (λ n a. P (lex.Word n x) a) table (all x) w a e
word_row P table all (lex.Sign s) a e = absurd cc
word_row P table all (lex.Name x) a e = absurd cc
word_row P table all (lex.Chars x) a e = absurd cc
word_row P table all (lex.Number x) a e = absurd cc
word_row P table all (lex.Param x) a e = absurd cc

pub sign_row : {A : Type 0} (P : Lexeme → A → Type 0) (table : List (ℕ × A)) → Each (λ n a. P (lex.Sign n) a) table
    → (t : Lexeme) (a : A) → sign_in table t ≡ Some a → P t a
sign_row P table all (lex.Sign s) a e = entry_is (λ n a. P (lex.Sign n) a) table all s a e
sign_row P table all (lex.Word w x) a e = absurd cc
sign_row P table all (lex.Name x) a e = absurd cc
sign_row P table all (lex.Chars x) a e = absurd cc
sign_row P table all (lex.Number x) a e = absurd cc
sign_row P table all (lex.Param x) a e = absurd cc

-- the lexeme at the front
module _ {A : Type 0} (says : Lexeme → Option A) where
  pub begins_read : (a : A) (ts r : List Lexeme) → Begins says a ts r → op_at says ts ≡ Some (a, r)
  begins_read a ts r h = ap (op_at says) h.2 ∙ ap (λ (o : Option A). o >>= before r) h.1

  pub read_begins : (ts : List Lexeme) (a : A) (r : List Lexeme) → op_at says ts ≡ Some (a, r) → Begins says a ts r
  read_begins [] a r e = absurd cc
  read_begins (t ∷ ts) a r e =
      let h = bind_some (says t) (before ts) (a, r) e in
      let same = some_is (h.0, ts) (a, r) h.2 in
      (t, h.1 ∙ ap (λ (z : A × List Lexeme). Some z.0) same, ap (λ (z : A × List Lexeme). t ∷ z.1) same)

  pub begins_shorter : (a : A) (ts r : List Lexeme) → Begins says a ts r → length r < length ts
  begins_shorter a ts r h = omega (arith, ap length h.2)

  pub begins_front : (a : A) (ts r : List Lexeme) → Begins says a ts r → Front (Begins says a) ts r
  begins_front a ts r h = record { front = h.0 ∷ []; whole = h.2; alone = λ s. (h.0, h.1, refl) }

  pub begins_goes : (a : A) (ts r : List Lexeme) → Begins says a ts r → Goes (λ t. is_there (says t)) ts
  begins_goes a ts r h = subst (λ z. Goes (λ t. is_there (says t)) z) (sym h.2) (ap is_there h.1)
