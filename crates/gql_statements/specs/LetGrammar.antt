-- LET.
--
--   Let = LET list(Name "=" Expr)
use Rattle.std.specs.Prelude.{List}
use Rattle.gql_lexer.specs.declared.lexeme.Lexeme.{Lexeme}
use Rattle.gql_ast.specs.declared.clause.LetItem.{LetItem}
use Rattle.gql_lexer.specs.SymbolPlaces.{equal}
use Rattle.gql_lexer.specs.WordPlaces.{LET}
use Rattle.gql_front.specs.Reading.{is_word, name_in}
use Rattle.gql_parts.specs.Parts.{Passes, IsListOf}
use Rattle.gql_parts.specs.Values.{IsNamedValue}

-- x = e: a name, and the expression whose value it gets
abbrev pub IsLetItem : LetItem → List Lexeme → List Lexeme → Type 0
IsLetItem i ts r = IsNamedValue name_in equal i.name i.value ts r

-- LET and its items, with commas between them
abbrev pub IsLet : List LetItem → List Lexeme → List Lexeme → Type 0
IsLet is ts r = (a : List Lexeme) × Passes (is_word LET) ts a × IsListOf IsLetItem is a r
