-- TransactionReaders: reading statements about transactions.
use Rattle.std.specs.Prelude.{List, Option, Some, None}
use Rattle.gql_lexer.specs.declared.lexeme.Lexeme.{Lexeme}
use Rattle.gql_ast.specs.declared.statement.AccessMode.{AccessMode}
use Rattle.gql_ast.specs.declared.statement.AccessMode.TheVariants as access
use Rattle.gql_ast.specs.declared.statement.TransactionStatement.{TransactionStatement}
use Rattle.gql_ast.specs.declared.statement.TransactionStatement.TheVariants as transaction
use Rattle.gql_lexer.specs.WordPlaces.{READ, TRANSACTION}
use Rattle.gql_front.specs.Reading.{◌>>=◌, Reader, is_word, after, op_at}
use Rattle.gql_statements.specs.TransactionWords.{access_word}

-- READ ONLY or READ WRITE
unfoldable pub stated_access_of : Reader AccessMode
stated_access_of ts = do
  a ← after (is_word READ) ts
  op_at access_word a

abbrev pub or_write : List Lexeme → Option (AccessMode × List Lexeme) → AccessMode × List Lexeme
or_write ts None = (access.ReadWrite, ts)
or_write ts (Some m) = m

-- [READ ONLY or READ WRITE]
unfoldable pub access_of : List Lexeme → AccessMode × List Lexeme
access_of ts = or_write ts (stated_access_of ts)

-- behind START
unfoldable pub start_of : Reader TransactionStatement
start_of ts = do
  a ← after (is_word TRANSACTION) ts
  Some (transaction.Start (access_of a).0, (access_of a).1)
