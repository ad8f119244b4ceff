-- SessionWords: the words behind SESSION.
use Rattle.std.specs.Prelude.{ℕ, List, [], ◌∷◌, Option}
use Rattle.gql_lexer.specs.declared.lexeme.Lexeme.{Lexeme}
use Rattle.gql_lexer.specs.WordPlaces as word
use Rattle.gql_front.specs.Tables.{word_in}
use Rattle.gql_statements.specs.declared.session_word.SessionWord.{SessionWord}
use Rattle.gql_statements.specs.declared.session_word.SessionWord.TheVariants as says

-- what SET, RESET and CLOSE say behind SESSION
abbrev pub session_words : List (ℕ × SessionWord)
session_words = (word.SET, says.Set) ∷ (word.RESET, says.Reset) ∷ (word.CLOSE, says.Close) ∷ []

-- what the lexeme says behind SESSION
abbrev pub session_word : Lexeme → Option SessionWord
session_word t = word_in session_words t
