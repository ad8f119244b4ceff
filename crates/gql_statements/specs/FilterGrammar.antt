-- FILTER.
--
--   Filter = FILTER [WHERE] Expr
use Rattle.std.specs.Prelude.{List}
use Rattle.gql_lexer.specs.declared.lexeme.Lexeme.{Lexeme}
use Rattle.gql_ast.specs.declared.expr.Expr.{Expr}
use Rattle.gql_lexer.specs.WordPlaces.{FILTER, WHERE}
use Rattle.gql_front.specs.Reading.{is_word}
use Rattle.gql_parts.specs.Parts.{Passes, MayPass}
use Rattle.gql_parts.specs.Values.{IsValue}

-- FILTER and a predicate, or FILTER WHERE and a predicate, which say the same
abbrev pub IsFilter : Expr → List Lexeme → List Lexeme → Type 0
IsFilter e ts r = (a : List Lexeme) × Passes (is_word FILTER) ts a × (b : List Lexeme) × MayPass (is_word WHERE) a b × IsValue e b r
