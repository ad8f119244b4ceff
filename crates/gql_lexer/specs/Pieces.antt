-- Pieces: the bytes of a session, cut at each symbol `;`.
use Rattle.std.specs.Prelude.{◌≢◌, ◌≤◌, ◌<◌, length, slice_index, ℕ, Bool, true, false, ◌==◌, if◌then◌else◌, List, [], ◌∷◌, ◌++◌}
use Rattle.gql_lexer.specs.declared.front.Shape.{Shape}
use Rattle.gql_lexer.specs.declared.front.Shape.TheVariants.{Symbol}
use Rattle.gql_lexer.specs.declared.piece.Piece.{Piece}
use Rattle.gql_lexer.specs.SymbolPlaces.{semicolon}
use Rattle.gql_lexer.specs.Spans.{Span, spans}

-- the symbol `;`
abbrev pub is_end : Shape → Bool
is_end (Symbol place) = place == semicolon
is_end _ = false

-- a piece; ended says that a `;` stands behind it
abbrev pub piece : List ℕ → Bool → Piece
piece bytes ended = record { bytes = bytes; ended = ended }

-- bytes put in front of the first piece; an empty rest is no piece
abbrev pub with_bytes : List ℕ → List Piece → List Piece
with_bytes [] ps = ps
with_bytes (b ∷ bs) [] = piece (b ∷ bs) false ∷ []
with_bytes (b ∷ bs) (p ∷ ps) = piece ((b ∷ bs) ++ p.bytes) p.ended ∷ ps

-- each `;` ends a piece, without being part of it
abbrev pub pieces_of_spans : List Span → List Piece
pieces_of_spans [] = []
pieces_of_spans (s ∷ ss) = if is_end s.shape then piece [] true ∷ pieces_of_spans ss else with_bytes s.bytes (pieces_of_spans ss)

-- the pieces of the bytes: no bytes have no piece, and behind the last `;` an empty rest is none either
abbrev pub pieces_of : List ℕ → List Piece
pieces_of bs = pieces_of_spans (spans bs)

-- no `;`, which is 59, stands at a place or behind it
abbrev pub NoEndFrom : ℕ → List ℕ → Type 0
NoEndFrom from bs = (k : ℕ) → from ≤ k → k < length bs → slice_index bs k ≢ 59
