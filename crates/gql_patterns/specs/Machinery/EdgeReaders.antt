-- EdgeReaders: reading edge patterns.
use Rattle.std.specs.Prelude.{ℕ, List, [], ◌∷◌, Option, Some, None}
use Rattle.gql_lexer.specs.declared.lexeme.Lexeme.{Lexeme}
use Rattle.gql_lexer.specs.declared.lexeme.Lexeme.TheVariants as lex
use Rattle.gql_lexer.specs.SymbolPlaces as symbol
use Rattle.gql_ast.specs.Pattern.{Pattern, edge}
use Rattle.gql_ast.specs.PatternMeaning as meaning
use Rattle.gql_ast.specs.declared.pattern.Direction.{Direction}
use Rattle.gql_ast.specs.declared.pattern.Direction.TheVariants as direction
use Rattle.gql_front.specs.Tables.{entry, sign_in}
use Rattle.gql_front.specs.Reading.{◌>>=◌, Reader, is_sign, after, op_at, either}
use Rattle.gql_parts.specs.Machinery.FillerReaders.{filler_of}
use Rattle.gql_patterns.specs.EdgeGrammar.{empty_filler}

-- a symbol, by its place
abbrev pub sign_place : Lexeme → Option ℕ
sign_place (lex.Sign place) = Some place
sign_place _ = None

-- the short forms
abbrev pub short_edges : List (ℕ × Direction)
short_edges =
    (symbol.left_arrow, direction.Left) ∷ (symbol.tilde, direction.Undirected) ∷ (symbol.right_arrow, direction.Right)
    ∷ (symbol.left_tilde, direction.LeftOrUndirected) ∷ (symbol.right_tilde, direction.UndirectedOrRight)
    ∷ (symbol.left_right_arrow, direction.LeftOrRight) ∷ (symbol.minus, direction.Any) ∷ []

abbrev pub short_edge : Lexeme → Option Direction
short_edge t = sign_in short_edges t

-- the full forms: for each symbol before the brackets those that may stand behind them
abbrev pub behind_left_arrow : List (ℕ × Direction)
behind_left_arrow = (symbol.minus, direction.Left) ∷ (symbol.right_arrow, direction.LeftOrRight) ∷ []

abbrev pub behind_tilde : List (ℕ × Direction)
behind_tilde = (symbol.tilde, direction.Undirected) ∷ (symbol.right_tilde, direction.UndirectedOrRight) ∷ []

abbrev pub behind_minus : List (ℕ × Direction)
behind_minus = (symbol.right_arrow, direction.Right) ∷ (symbol.minus, direction.Any) ∷ []

abbrev pub behind_left_tilde : List (ℕ × Direction)
behind_left_tilde = (symbol.tilde, direction.LeftOrUndirected) ∷ []

abbrev pub full_edges : List (ℕ × List (ℕ × Direction))
full_edges =
    (symbol.left_arrow, behind_left_arrow) ∷ (symbol.tilde, behind_tilde) ∷ (symbol.minus, behind_minus) ∷ (symbol.left_tilde, behind_left_tilde) ∷ []

-- the direction of a full form, by its two symbols
abbrev pub behind_in : ℕ → Option (List (ℕ × Direction)) → Option Direction
behind_in last None = None
behind_in last (Some table) = entry table last

unfoldable pub direction_between : ℕ → ℕ → Option Direction
direction_between first last = behind_in last (entry full_edges first)

unfoldable pub full_edge_of : Reader Pattern
full_edge_of ts = do
  first ← op_at sign_place ts
  a ← after (is_sign symbol.opening_bracket) first.1
  f ← filler_of a
  b ← after (is_sign symbol.closing_bracket) f.1
  last ← op_at sign_place b
  d ← direction_between first.0 last.0
  Some (edge d (meaning.filler_of f.0), last.1)

unfoldable pub short_edge_of : Reader Pattern
short_edge_of ts = do
  d ← op_at short_edge ts
  Some (edge d.0 empty_filler, d.1)

unfoldable pub edge_of : Reader Pattern
edge_of = either full_edge_of short_edge_of
