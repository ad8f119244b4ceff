-- Statements about the session.
--
--   Session = SESSION SET Graph Name; SESSION SET VALUE Param "=" Expr; SESSION RESET; SESSION CLOSE
use Rattle.std.specs.Prelude.{List}
use Rattle.gql_lexer.specs.declared.lexeme.Lexeme.{Lexeme}
use Rattle.gql_ast.specs.declared.statement.SessionStatement.{SessionStatement}
use Rattle.gql_ast.specs.declared.statement.SessionStatement.TheVariants as session
use Rattle.gql_lexer.specs.SymbolPlaces.{equal}
use Rattle.gql_lexer.specs.WordPlaces.{CLOSE, RESET, SESSION, SET, VALUE}
use Rattle.gql_front.specs.Tables.{Begins}
use Rattle.gql_front.specs.Reading.{is_word, name_in}
use Rattle.gql_parts.specs.Parts.{Passes}
use Rattle.gql_parts.specs.Values.{IsNamedValue}
use Rattle.gql_statements.specs.PartWords.{param_in}
use Rattle.gql_statements.specs.GraphGrammar.{SaysGraph}

-- SESSION SET GRAPH and a name; SESSION SET VALUE, a parameter, "=" and an expression; SESSION RESET; SESSION CLOSE
abbrev pub IsSession : SessionStatement → List Lexeme → List Lexeme → Type 0
IsSession (session.SetGraph x) ts r =
    (a : List Lexeme) × Passes (is_word SESSION) ts a × (b : List Lexeme) × Passes (is_word SET) a b × (c : List Lexeme) × SaysGraph b c
    × Begins name_in x c r
IsSession (session.SetValue x e) ts r =
    (a : List Lexeme) × Passes (is_word SESSION) ts a × (b : List Lexeme) × Passes (is_word SET) a b × (c : List Lexeme) × Passes (is_word VALUE) b c
    × IsNamedValue param_in equal x e c r
IsSession session.Reset ts r = (a : List Lexeme) × Passes (is_word SESSION) ts a × Passes (is_word RESET) a r
IsSession session.Close ts r = (a : List Lexeme) × Passes (is_word SESSION) ts a × Passes (is_word CLOSE) a r
