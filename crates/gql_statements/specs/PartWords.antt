-- PartWords: what the words inside clauses say.
use Rattle.std.specs.Prelude.{ℕ, Bool, ◌||◌, List, [], ◌∷◌, Option, Some, None}
use Rattle.gql_lexer.specs.declared.lexeme.Lexeme.{Lexeme}
use Rattle.gql_lexer.specs.declared.lexeme.Lexeme.TheVariants as lex
use Rattle.gql_ast.specs.declared.clause.Counting.{Counting}
use Rattle.gql_ast.specs.declared.clause.Counting.TheVariants as counting
use Rattle.gql_ast.specs.declared.page.SortDirection.{SortDirection}
use Rattle.gql_ast.specs.declared.page.SortDirection.TheVariants as direction
use Rattle.gql_ast.specs.declared.page.NullOrder.{NullOrder}
use Rattle.gql_ast.specs.declared.page.NullOrder.TheVariants as nulls
use Rattle.gql_ast.specs.declared.page.RowCount.{RowCount}
use Rattle.gql_ast.specs.declared.page.RowCount.TheVariants as count
use Rattle.gql_lexer.specs.WordPlaces as word
use Rattle.gql_front.specs.Tables.{word_in}
use Rattle.gql_front.specs.Reading.{is_word}

-- from where FOR counts
abbrev pub counting_words : List (ℕ × Counting)
counting_words = (word.ORDINALITY, counting.Ordinality) ∷ (word.OFFSET, counting.Offset) ∷ []

-- from where FOR counts, as the lexeme says it
abbrev pub counting_word : Lexeme → Option Counting
counting_word t = word_in counting_words t

-- the words of a sort key's direction
abbrev pub direction_words : List (ℕ × SortDirection)
direction_words =
    (word.ASC, direction.Ascending) ∷ (word.ASCENDING, direction.Ascending)
    ∷ (word.DESC, direction.Descending) ∷ (word.DESCENDING, direction.Descending) ∷ []

-- the direction of a sort key, as the lexeme says it
abbrev pub direction_word : Lexeme → Option SortDirection
direction_word t = word_in direction_words t

-- the words behind NULLS
abbrev pub null_words : List (ℕ × NullOrder)
null_words = (word.FIRST, nulls.First) ∷ (word.LAST, nulls.Last) ∷ []

-- where nulls come among the rows, as the lexeme says it behind NULLS
abbrev pub null_word : Lexeme → Option NullOrder
null_word t = word_in null_words t

-- a number or a parameter
abbrev pub count_in : Lexeme → Option RowCount
count_in (lex.Number digits) = Some (count.Number digits)
count_in (lex.Param x) = Some (count.Parameter x)
count_in _ = None

-- a parameter
abbrev pub param_in : Lexeme → Option (List ℕ)
param_in (lex.Param x) = Some x
param_in _ = None

-- OFFSET or SKIP, which say the same
abbrev pub is_skip : Lexeme → Bool
is_skip t = is_word word.OFFSET t || is_word word.SKIP t
