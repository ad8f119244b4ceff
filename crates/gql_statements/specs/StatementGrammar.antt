-- Statements: which lexemes derive which.
--
--   Statement = Query; Session; Transaction; Catalog
use Rattle.std.specs.Prelude.{List, []}
use Rattle.gql_lexer.specs.declared.lexeme.Lexeme.{Lexeme}
use Rattle.gql_ast.specs.declared.statement.Statement.{Statement}
use Rattle.gql_ast.specs.declared.statement.Statement.TheVariants as statement
use Rattle.gql_statements.specs.QueryGrammar.{IsQuery}
use Rattle.gql_statements.specs.SessionGrammar.{IsSession}
use Rattle.gql_statements.specs.TransactionGrammar.{IsTransaction}
use Rattle.gql_statements.specs.CatalogGrammar.{IsCatalog}

-- the lexemes ts begin with some that derive the statement, and behind those stands r
abbrev pub IsStatement : Statement → List Lexeme → List Lexeme → Type 0
IsStatement (statement.Query q) ts r = IsQuery q ts r
IsStatement (statement.Session s) ts r = IsSession s ts r
IsStatement (statement.Transaction t) ts r = IsTransaction t ts r
IsStatement (statement.Catalog c) ts r = IsCatalog c ts r

-- the lexemes as a whole derive the statement
abbrev pub Derives : List Lexeme → Statement → Type 0
Derives ts s = IsStatement s ts []
