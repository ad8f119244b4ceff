-- Statements about transactions.
--
--   Transaction = START TRANSACTION [READ ONLY or READ WRITE]; COMMIT; ROLLBACK
use Rattle.std.specs.Prelude.{◌≡◌, ◌⊎◌, List}
use Rattle.gql_lexer.specs.declared.lexeme.Lexeme.{Lexeme}
use Rattle.gql_ast.specs.declared.statement.AccessMode.{AccessMode}
use Rattle.gql_ast.specs.declared.statement.AccessMode.TheVariants as access
use Rattle.gql_ast.specs.declared.statement.TransactionStatement.{TransactionStatement}
use Rattle.gql_ast.specs.declared.statement.TransactionStatement.TheVariants as transaction
use Rattle.gql_lexer.specs.WordPlaces.{COMMIT, READ, ROLLBACK, START, TRANSACTION}
use Rattle.gql_front.specs.Tables.{Begins}
use Rattle.gql_front.specs.Reading.{is_word}
use Rattle.gql_parts.specs.Parts.{Passes}
use Rattle.gql_statements.specs.TransactionWords.{access_word}

-- READ ONLY or READ WRITE
abbrev pub StatesAccess : AccessMode → List Lexeme → List Lexeme → Type 0
StatesAccess m ts r = (a : List Lexeme) × Passes (is_word READ) ts a × Begins access_word m a r

-- no word says the same as READ WRITE
abbrev pub IsAccess : AccessMode → List Lexeme → List Lexeme → Type 0
IsAccess access.ReadOnly ts r = StatesAccess access.ReadOnly ts r
IsAccess access.ReadWrite ts r = (ts ≡ r) ⊎ StatesAccess access.ReadWrite ts r

-- START TRANSACTION, with READ ONLY or READ WRITE behind it where it is said; COMMIT; ROLLBACK
abbrev pub IsTransaction : TransactionStatement → List Lexeme → List Lexeme → Type 0
IsTransaction (transaction.Start m) ts r =
    (a : List Lexeme) × Passes (is_word START) ts a × (b : List Lexeme) × Passes (is_word TRANSACTION) a b × IsAccess m b r
IsTransaction transaction.Commit ts r = Passes (is_word COMMIT) ts r
IsTransaction transaction.Rollback ts r = Passes (is_word ROLLBACK) ts r
