-- ClauseWords: the words that begin clauses.
use Rattle.std.specs.Prelude.{ℕ, List, [], ◌∷◌, Option}
use Rattle.gql_lexer.specs.declared.lexeme.Lexeme.{Lexeme}
use Rattle.gql_ast.specs.declared.change.Detachment.TheVariants as detachment
use Rattle.gql_lexer.specs.WordPlaces as word
use Rattle.gql_front.specs.Tables.{word_in}
use Rattle.gql_statements.specs.declared.change_word.ChangeWord.TheVariants as changes
use Rattle.gql_statements.specs.declared.clause_word.ClauseWord.{ClauseWord}
use Rattle.gql_statements.specs.declared.clause_word.ClauseWord.TheVariants as begins

-- the words with which a clause other than RETURN begins, and which it is; OFFSET and SKIP say the same
abbrev pub clause_words : List (ℕ × ClauseWord)
clause_words =
    (word.MATCH, begins.Match) ∷ (word.OPTIONAL, begins.Optional) ∷ (word.LET, begins.Let) ∷ (word.FILTER, begins.Filter) ∷ (word.FOR, begins.For)
    ∷ (word.ORDER, begins.Order) ∷ (word.OFFSET, begins.Skip) ∷ (word.SKIP, begins.Skip) ∷ (word.LIMIT, begins.Limit)
    ∷ (word.INSERT, begins.Change changes.Insert) ∷ (word.SET, begins.Change changes.Set) ∷ (word.REMOVE, begins.Change changes.Remove)
    ∷ (word.DELETE, begins.Change changes.Delete) ∷ (word.DETACH, begins.Change (changes.Detaching detachment.Detach))
    ∷ (word.NODETACH, begins.Change (changes.Detaching detachment.NoDetach)) ∷ []

-- which clause the lexeme begins
abbrev pub clause_word : Lexeme → Option ClauseWord
clause_word t = word_in clause_words t
