-- Sets of symbols: with which symbols a part of a pattern begins, so that it is told from what stands before it.
use Rattle.std.proofs.Common.{◌≡◌, Bool, true, false, cond, ℕ, List, [], ◌∷◌, Option, Some, None, refl, sym, ap, subst, ◌∙◌}
use Rattle.gql_lexer.specs.declared.lexeme.Lexeme.{Lexeme}
use Rattle.gql_lexer.specs.declared.lexeme.Lexeme.TheVariants as lex
use Rattle.gql_front.specs.Tables.{sign_in}
use Rattle.gql_front.specs.Reading.{is_sign}
use Rattle.gql_front.proofs.Found.{Goes, Found, exact, longer, is_there}
use Rattle.gql_front.proofs.LexemeTests.{sign_is}
use Rattle.gql_front.proofs.TableLemmas.{Each, sign_row}
use Rattle.gql_parts.specs.Parts.{Passes}
use Rattle.gql_parts.proofs.PartLaws.{Stops, Apart}

-- symbols, as a table that says nothing of them
abbrev pub Signs : Type 0
Signs = List (ℕ × Unit {0})

abbrev pub among : Signs → Lexeme → Bool
among table t = is_there (sign_in table t)

there_some : {A : Type 0} (o : Option A) → is_there o ≡ true → (x : A) × (o ≡ Some x)
there_some None e = absurd cc
there_some (Some x) e = (x, refl)

-- what holds of each of the symbols
pub among_row : (P : Lexeme → Type 0) (table : Signs) → Each (λ n a. P (lex.Sign n)) table → (t : Lexeme) → among table t ≡ true → P t
among_row P table all t e = let h = there_some (sign_in table t) e in sign_row (λ t a. P t) table all t h.0 h.1

-- none of the symbols is in g, which computes
abbrev pub none_in : (Lexeme → Bool) → Signs → Bool
none_in g [] = true
none_in g (row ∷ rows) = cond (g (lex.Sign row.0)) false (none_in g rows)

each_is_out : (g : Lexeme → Bool) (table : Signs) → none_in g table ≡ true → Each (λ n a. g (lex.Sign n) ≡ false) table
each_is_out g [] e = tt
each_is_out g (row ∷ rows) e = go (g (lex.Sign row.0)) refl e (λ q. each_is_out g rows q)
  where
    go : (b : Bool) → g (lex.Sign row.0) ≡ b → cond b false (none_in g rows) ≡ true → (none_in g rows ≡ true → Each (λ n a. g (lex.Sign n) ≡ false) rows)
        → Each (λ n a. g (lex.Sign n) ≡ false) (row ∷ rows)
    go true p q later = absurd cc
    go false p q later = (p, later q)

-- no lexeme is among the symbols and in g
pub among_apart : (table : Signs) (g : Lexeme → Bool) → none_in g table ≡ true → Apart (among table) g
among_apart table g out t e h = let f = among_row (λ t. g t ≡ false) table (each_is_out g table out) t e in cc

-- where the next lexeme is in one set, it is in none that is apart from it
pub goes_stops : (test g : Lexeme → Bool) → Apart test g → (s : List Lexeme) → Goes test s → Stops g s
goes_stops test g apart [] h i = i
goes_stops test g apart (t ∷ ts) h i = apart t h i

-- the symbol at the front, and what is behind it
pub sign_whole : (n : ℕ) (ts r : List Lexeme) → Passes (is_sign n) ts r → ts ≡ lex.Sign n ∷ r
sign_whole n ts r h = h.2 ∙ ap (λ (t : Lexeme). t ∷ r) (sign_is n h.0 h.1)

pub sign_goes : (n : ℕ) (g : Lexeme → Bool) → g (lex.Sign n) ≡ true → (ts r : List Lexeme) → Passes (is_sign n) ts r → Goes g ts
sign_goes n g e ts r h = subst (λ z. Goes g z) (sym (sign_whole n ts r h)) e

-- a larger set to go on with
pub Goes-to : (g h : Lexeme → Bool) → ((t : Lexeme) → g t ≡ true → h t ≡ true) → (s : List Lexeme) → Goes g s → Goes h s
Goes-to g h into [] e = e
Goes-to g h into (t ∷ ts) e = into t e

pub found_to : {A : Type 0} (res : Option (A × List Lexeme)) (g h : Lexeme → Bool) → ((t : Lexeme) → g t ≡ true → h t ≡ true) → (y : A) (s : List Lexeme) → Found res g y s → Found res h y s
found_to res g h into y s (exact e) = exact e
found_to res g h into y s (longer x r e l i) = longer x r e l (Goes-to g h into s i)
