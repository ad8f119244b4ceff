-- QuantifierReaders: reading quantifiers, and what may stand behind an element or a part.
use Rattle.std.specs.Prelude.{ℕ, nat_eq, cond, List, [], ◌∷◌, Option, Some, None}
use Rattle.gql_lexer.specs.declared.lexeme.Lexeme.{Lexeme}
use Rattle.gql_lexer.specs.declared.lexeme.Lexeme.TheVariants as lex
use Rattle.gql_lexer.specs.SymbolPlaces.{star, plus, opening_brace, closing_brace, comma, question}
use Rattle.gql_ast.specs.Pattern.{Pattern, repeated, optional}
use Rattle.gql_ast.specs.declared.pattern.Quantifier.{Quantifier}
use Rattle.gql_ast.specs.declared.pattern.Quantifier.TheVariants as quantifier
use Rattle.gql_front.specs.Reading.{◌>>=◌, Reader, is_sign, after, op_at, maybe}
use Rattle.gql_patterns.specs.PatternWords.{number_in}
use Rattle.gql_patterns.specs.declared.quantifier.Repetition.{Repetition}
use Rattle.gql_patterns.specs.declared.quantifier.Repetition.TheVariants as repetition

-- [Number]
unfoldable pub number_of : Reader (Option (List ℕ))
number_of ts = maybe (op_at number_in) ts

-- behind the comma
unfoldable pub upper_of : Option (List ℕ) → Reader Quantifier
upper_of m ts = do
  n ← number_of ts
  r ← after (is_sign closing_brace) n.1
  Some (quantifier.Between m n.0, r)

-- a number alone
abbrev pub exactly : Option (List ℕ) → List Lexeme → Option (Quantifier × List Lexeme)
exactly None r = None
exactly (Some n) r = Some (quantifier.Exactly n, r)

-- behind the first number, with a comma or without
abbrev pub bounded : Option (List ℕ) → List Lexeme → Option (List Lexeme) → Option (Quantifier × List Lexeme)
bounded m ts (Some a) = upper_of m a
bounded m ts None = after (is_sign closing_brace) ts >>= λ r. exactly m r

-- behind the opening brace
unfoldable pub bounds_of : Reader Quantifier
bounds_of ts = do
  m ← number_of ts
  bounded m.0 m.1 (after (is_sign comma) m.1)

unfoldable pub quantifier_of : Reader Quantifier
quantifier_of [] = None
quantifier_of (lex.Sign place ∷ r) =
    cond (nat_eq place star) (Some (quantifier.Star, r))
    (cond (nat_eq place plus) (Some (quantifier.Plus, r)) (cond (nat_eq place opening_brace) (bounds_of r) None))
quantifier_of (t ∷ r) = None

-- as a repetition
abbrev pub as_times : Option (Quantifier × List Lexeme) → Option (Repetition × List Lexeme)
as_times o = o >>= λ q. Some (repetition.Times q.0, q.1)

-- "?", or a quantifier
abbrev pub once_or_times : List Lexeme → Option (List Lexeme) → Option (Repetition × List Lexeme)
once_or_times ts (Some r) = Some (repetition.AtMostOnce, r)
once_or_times ts None = as_times (quantifier_of ts)

unfoldable pub repetition_of : Reader Repetition
repetition_of ts = once_or_times ts (after (is_sign question) ts)

-- what a repetition makes of a part
abbrev pub repeat_by : Pattern → Repetition → Pattern
repeat_by x (repetition.Times q) = repeated x q
repeat_by x repetition.AtMostOnce = optional x
