-- MATCH and OPTIONAL MATCH.
--
--   Match = [OPTIONAL] MATCH GraphPattern
use Rattle.std.specs.Prelude.{◌≡◌, Bool, true, false, List}
use Rattle.gql_lexer.specs.declared.lexeme.Lexeme.{Lexeme}
use Rattle.gql_ast.specs.declared.clause.Match.{Match}
use Rattle.gql_lexer.specs.WordPlaces.{MATCH, OPTIONAL}
use Rattle.gql_front.specs.Reading.{is_word}
use Rattle.gql_parts.specs.Parts.{Passes}
use Rattle.gql_patterns.specs.PatternGrammar.{IsGraphPattern}

-- OPTIONAL; no word
abbrev pub SaysOptional : Bool → List Lexeme → List Lexeme → Type 0
SaysOptional true ts r = Passes (is_word OPTIONAL) ts r
SaysOptional false ts r = ts ≡ r

-- MATCH or OPTIONAL MATCH, and a graph pattern
abbrev pub IsMatch : Match → List Lexeme → List Lexeme → Type 0
IsMatch m ts r =
    (a : List Lexeme) × SaysOptional m.optional ts a × (b : List Lexeme) × Passes (is_word MATCH) a b × IsGraphPattern m.pattern b r
