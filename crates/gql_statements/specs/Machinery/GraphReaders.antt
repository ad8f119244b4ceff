-- GraphReaders: reading the words that announce a graph.
use Rattle.std.specs.Prelude.{List, Option}
use Rattle.gql_lexer.specs.declared.lexeme.Lexeme.{Lexeme}
use Rattle.gql_lexer.specs.WordPlaces.{GRAPH, PROPERTY}
use Rattle.gql_front.specs.Reading.{is_word, after}
use Rattle.gql_parts.specs.Machinery.PartReaders.{behind_or, past}

-- behind [PROPERTY] GRAPH
unfoldable pub after_graph : List Lexeme → Option (List Lexeme)
after_graph ts = after (is_word GRAPH) (past (is_word PROPERTY) ts)

-- the same, or all where those words are missing
unfoldable pub past_graph : List Lexeme → List Lexeme
past_graph ts = behind_or ts (after_graph ts)
