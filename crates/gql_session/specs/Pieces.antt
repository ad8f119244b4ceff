-- The pieces of a session: the bytes before each `;` of its lexemes, and what stands behind the last.
use Rattle.std.specs.Prelude.{ℕ, List, map}
use Rattle.gql_lexer.specs.Pieces.{pieces_of}
use Rattle.gql_lexer.specs.declared.piece.Piece.{Piece}

-- the bytes of each piece, in the order of the text
abbrev pub session_pieces : List ℕ → List (List ℕ)
session_pieces text = map (λ (p : Piece). p.bytes) (pieces_of text)
