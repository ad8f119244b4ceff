-- StatementReaders: reading statements.
use Rattle.std.specs.Prelude.{List, Option, Some, None}
use Rattle.gql_lexer.specs.declared.lexeme.Lexeme.{Lexeme}
use Rattle.gql_ast.specs.declared.statement.Statement.{Statement}
use Rattle.gql_ast.specs.declared.statement.Statement.TheVariants as statement
use Rattle.gql_ast.specs.declared.statement.TransactionStatement.TheVariants as transaction
use Rattle.gql_front.specs.Reading.{◌>>=◌, Reader, op_at}
use Rattle.gql_statements.specs.declared.statement_word.StatementWord.{StatementWord}
use Rattle.gql_statements.specs.declared.statement_word.StatementWord.TheVariants as begins
use Rattle.gql_statements.specs.StatementWords.{statement_word}
use Rattle.gql_statements.specs.Machinery.SessionReaders.{session_of}
use Rattle.gql_statements.specs.Machinery.TransactionReaders.{start_of}
use Rattle.gql_statements.specs.Machinery.CatalogReaders.{create_of, drop_of}
use Rattle.gql_statements.specs.Machinery.QueryReaders.{query_of}

-- what was read, as a statement
abbrev pub as_statement : {A : Type 0} → (A → Statement) → Option (A × List Lexeme) → Option (Statement × List Lexeme)
as_statement make o = o >>= λ x. Some (make x.0, x.1)

-- behind the word that begins a statement
abbrev pub statement_behind : StatementWord → Reader Statement
statement_behind begins.Session ts = as_statement statement.Session (session_of ts)
statement_behind begins.Start ts = as_statement statement.Transaction (start_of ts)
statement_behind begins.Commit ts = Some (statement.Transaction transaction.Commit, ts)
statement_behind begins.Rollback ts = Some (statement.Transaction transaction.Rollback, ts)
statement_behind begins.Create ts = as_statement statement.Catalog (create_of ts)
statement_behind begins.Drop ts = as_statement statement.Catalog (drop_of ts)

-- a query, where no such word stands at the front
abbrev pub query_or_other : List Lexeme → Option (StatementWord × List Lexeme) → Option (Statement × List Lexeme)
query_or_other ts None = as_statement statement.Query (query_of ts)
query_or_other ts (Some w) = statement_behind w.0 w.1

unfoldable pub statement_of : Reader Statement
statement_of ts = query_or_other ts (op_at statement_word ts)
