-- What the words and symbols of graph types say.
use Rattle.std.specs.Prelude.{ℕ, Bool, ◌||◌, List, [], ◌∷◌, Option}
use Rattle.gql_lexer.specs.declared.lexeme.Lexeme.{Lexeme}
use Rattle.gql_lexer.specs.SymbolPlaces.{minus, tilde, left_arrow, right_arrow, double_colon}
use Rattle.gql_lexer.specs.WordPlaces as word
use Rattle.gql_values3.specs.declared.prop_kind.Scalar.{Scalar}
use Rattle.gql_values3.specs.declared.prop_kind.Scalar.TheVariants as scalar
use Rattle.gql_ast.specs.declared.change.Arrow.{Arrow}
use Rattle.gql_ast.specs.declared.change.Arrow.TheVariants as arrow
use Rattle.gql_front.specs.Tables.{word_in, sign_in}
use Rattle.gql_front.specs.Reading.{is_sign, is_word}

-- the kinds of plain values
abbrev pub scalar_words : List (ℕ × Scalar)
scalar_words =
    (word.BOOL, scalar.Bool) ∷ (word.BOOLEAN, scalar.Bool) ∷ (word.INT, scalar.Int) ∷ (word.INTEGER, scalar.Int) ∷ (word.INT64, scalar.Int)
    ∷ (word.STRING, scalar.Text) ∷ []

-- the kind of plain values that a word says, where it says one
abbrev pub scalar_word : Lexeme → Option Scalar
scalar_word t = word_in scalar_words t

-- TYPED or "::", which say the same
abbrev pub is_typed : Lexeme → Bool
is_typed t = is_word word.TYPED t || is_sign double_colon t

-- the symbol before an edge's brackets tells its direction
abbrev pub arrow_signs : List (ℕ × Arrow)
arrow_signs = (minus, arrow.Right) ∷ (left_arrow, arrow.Left) ∷ (tilde, arrow.Undirected) ∷ []

-- the direction that a symbol says, where it says one
abbrev pub arrow_sign : Lexeme → Option Arrow
arrow_sign t = sign_in arrow_signs t

-- the symbol behind the brackets
abbrev pub closing_of : Arrow → ℕ
closing_of arrow.Right = right_arrow
closing_of arrow.Left = minus
closing_of arrow.Undirected = tilde
