-- TransactionWords: the words behind READ.
use Rattle.std.specs.Prelude.{ℕ, List, [], ◌∷◌, Option}
use Rattle.gql_lexer.specs.declared.lexeme.Lexeme.{Lexeme}
use Rattle.gql_ast.specs.declared.statement.AccessMode.{AccessMode}
use Rattle.gql_ast.specs.declared.statement.AccessMode.TheVariants as access
use Rattle.gql_lexer.specs.WordPlaces as word
use Rattle.gql_front.specs.Tables.{word_in}

-- what ONLY and WRITE say behind READ
abbrev pub access_words : List (ℕ × AccessMode)
access_words = (word.ONLY, access.ReadOnly) ∷ (word.WRITE, access.ReadWrite) ∷ []

-- the access mode of a transaction, as the lexeme says it behind READ
abbrev pub access_word : Lexeme → Option AccessMode
access_word t = word_in access_words t
