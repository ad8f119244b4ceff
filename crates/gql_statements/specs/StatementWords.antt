-- StatementWords: the words that begin statements other than queries.
use Rattle.std.specs.Prelude.{ℕ, List, [], ◌∷◌, Option}
use Rattle.gql_lexer.specs.declared.lexeme.Lexeme.{Lexeme}
use Rattle.gql_lexer.specs.WordPlaces as word
use Rattle.gql_front.specs.Tables.{word_in}
use Rattle.gql_statements.specs.declared.statement_word.StatementWord.{StatementWord}
use Rattle.gql_statements.specs.declared.statement_word.StatementWord.TheVariants as begins

-- the words with which a statement on the session, on transactions, on graphs or on graph types begins, and what each says
abbrev pub statement_words : List (ℕ × StatementWord)
statement_words =
    (word.SESSION, begins.Session) ∷ (word.START, begins.Start) ∷ (word.COMMIT, begins.Commit) ∷ (word.ROLLBACK, begins.Rollback)
    ∷ (word.CREATE, begins.Create) ∷ (word.DROP, begins.Drop) ∷ []

-- which statement other than a query the lexeme begins
abbrev pub statement_word : Lexeme → Option StatementWord
statement_word t = word_in statement_words t
