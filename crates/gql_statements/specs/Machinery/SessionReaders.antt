-- SessionReaders: reading statements about the session.
use Rattle.std.specs.Prelude.{List, Option, Some, None}
use Rattle.gql_lexer.specs.declared.lexeme.Lexeme.{Lexeme}
use Rattle.gql_ast.specs.declared.statement.SessionStatement.{SessionStatement}
use Rattle.gql_ast.specs.declared.statement.SessionStatement.TheVariants as session
use Rattle.gql_lexer.specs.SymbolPlaces.{equal}
use Rattle.gql_lexer.specs.WordPlaces.{VALUE}
use Rattle.gql_front.specs.Reading.{◌>>=◌, Reader, is_word, name_in, after, op_at}
use Rattle.gql_statements.specs.declared.session_word.SessionWord.{SessionWord}
use Rattle.gql_statements.specs.declared.session_word.SessionWord.TheVariants as says
use Rattle.gql_statements.specs.SessionWords.{session_word}
use Rattle.gql_statements.specs.PartWords.{param_in}
use Rattle.gql_parts.specs.Machinery.PartReaders.{named_value_of}
use Rattle.gql_statements.specs.Machinery.GraphReaders.{after_graph}

-- behind SESSION SET [PROPERTY] GRAPH
unfoldable pub set_graph_of : Reader SessionStatement
set_graph_of ts = do
  x ← op_at name_in ts
  Some (session.SetGraph x.0, x.1)

-- VALUE, a parameter and its expression
unfoldable pub set_value_of : Reader SessionStatement
set_value_of ts = do
  a ← after (is_word VALUE) ts
  named_value_of param_in equal session.SetValue a

abbrev pub graph_or_value : List Lexeme → Option (List Lexeme) → Option (SessionStatement × List Lexeme)
graph_or_value ts (Some a) = set_graph_of a
graph_or_value ts None = set_value_of ts

-- behind SESSION SET
unfoldable pub set_of : Reader SessionStatement
set_of ts = graph_or_value ts (after_graph ts)

-- behind SESSION and another word
abbrev pub said : SessionWord → Reader SessionStatement
said says.Set ts = set_of ts
said says.Reset ts = Some (session.Reset, ts)
said says.Close ts = Some (session.Close, ts)

-- behind SESSION
unfoldable pub session_of : Reader SessionStatement
session_of ts = do
  w ← op_at session_word ts
  said w.0 w.1
