-- With which lexemes a filler begins.
use Rattle.std.proofs.Common.{◌≡◌, Bool, true, ℕ, List, Option, Some}
use Rattle.gql_lexer.specs.declared.lexeme.Lexeme.{Lexeme}
use Rattle.gql_ast.specs.declared.filler.Condition.{Condition}
use Rattle.gql_ast.specs.declared.filler.Condition.TheVariants as condition
use Rattle.gql_ast.specs.declared.filler.Filler.{Filler}
use Rattle.gql_lexer.specs.SymbolPlaces.{opening_brace}
use Rattle.gql_lexer.specs.WordPlaces.{WHERE}
use Rattle.gql_front.specs.Tables.{Begins}
use Rattle.gql_front.specs.Reading.{is_sign, is_word, name_in}
use Rattle.gql_parts.specs.Parts.{IsOptional}
use Rattle.gql_parts.specs.PartWords.{is_colon}
use Rattle.gql_parts.specs.FillerGrammar.{IsCondition, AsksLabels, IsFiller}
use Rattle.gql_parts.proofs.PartLaws.{Stops, Apart, passes_stops, begins_stops, optional_stops}

condition_stops : (g : Lexeme → Bool) → Apart (is_sign opening_brace) g → Apart (is_word WHERE) g → (c : Condition) (m s : List Lexeme) → IsCondition c m s → Stops g m
condition_stops g brace word (condition.Map is) m s h = passes_stops (is_sign opening_brace) g brace m h.0 h.1
condition_stops g brace word (condition.Where e) m s h = passes_stops (is_word WHERE) g word m h.0 h.1

module _ (g : Lexeme → Bool) (brace : Apart (is_sign opening_brace) g) (word : Apart (is_word WHERE) g) where
  behind_labels : (c : Option Condition) (m s : List Lexeme) → IsOptional IsCondition c m s → Stops g s → Stops g m
  behind_labels c m s h stop = optional_stops IsCondition g c m s (λ x k. condition_stops g brace word x m s k) h stop

  module _ (colon : Apart is_colon g) where
    behind_name : (f : Filler) (ts s : List Lexeme) (h : IsFiller f ts s) → Stops g s → Stops g h.0
    behind_name f ts s h stop =
        optional_stops AsksLabels g f.labels h.0 h.2 (λ x k. passes_stops is_colon g colon h.0 k.0 k.1) h.3 (behind_labels f.condition h.2 s h.4 stop)

    -- a filler begins with nothing that g has, where what is behind it doesn't
    pub filler_stops : ((t : Lexeme) (x : List ℕ) → name_in t ≡ Some x → g t ≡ true → ⊥) → (f : Filler) (ts s : List Lexeme) → IsFiller f ts s → Stops g s → Stops g ts
    filler_stops name f ts s h stop =
        optional_stops (Begins name_in) g f.variable ts h.0 (λ x k. begins_stops name_in g name x ts h.0 k) h.1 (behind_name f ts s h stop)
