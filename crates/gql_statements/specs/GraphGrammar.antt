-- The words that announce a graph.
--
--   Graph = [PROPERTY] GRAPH
use Rattle.std.specs.Prelude.{◌≡◌, ◌⊎◌, List}
use Rattle.gql_lexer.specs.declared.lexeme.Lexeme.{Lexeme}
use Rattle.gql_lexer.specs.WordPlaces.{GRAPH, PROPERTY}
use Rattle.gql_front.specs.Reading.{is_word}
use Rattle.gql_parts.specs.Parts.{Passes, MayPass}

-- GRAPH or PROPERTY GRAPH, which say the same
abbrev pub SaysGraph : List Lexeme → List Lexeme → Type 0
SaysGraph ts r = (a : List Lexeme) × MayPass (is_word PROPERTY) ts a × Passes (is_word GRAPH) a r

-- [[PROPERTY] GRAPH]
abbrev pub MaySayGraph : List Lexeme → List Lexeme → Type 0
MaySayGraph ts r = (ts ≡ r) ⊎ SaysGraph ts r
