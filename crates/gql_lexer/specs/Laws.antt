-- Laws: what holds of all bytes, in words of their own.
use Rattle.std.specs.Prelude.{◌≡◌, ℕ, ◌≤◌, ◌⊎◌, List, [], ◌∷◌, ◌++◌, if◌then◌else◌, Option, IfSome, IsSomeAnd, None, Some, ⊤}
use Rattle.std.specs.List.{flat_map}
use Rattle.std.specs.Option.{option_map}
use Rattle.gql_lexer.specs.declared.front.Front.{Front}
use Rattle.gql_lexer.specs.declared.front.Shape.TheVariants.{Bad, Symbol}
use Rattle.gql_lexer.specs.declared.lexeme.Lexeme.{Lexeme}
use Rattle.gql_lexer.specs.declared.lexeme.Lexeme.TheVariants.{Sign}
use Rattle.gql_lexer.specs.declared.piece.Piece.{Piece}
use Rattle.gql_lexer.specs.SymbolPlaces.{semicolon}
use Rattle.gql_lexer.specs.Lengths.{quoted_length, block_length}
use Rattle.gql_lexer.specs.Forms.{form, forms, front}
use Rattle.gql_lexer.specs.Spans.{Span, spans}
use Rattle.gql_lexer.specs.Lexemes.{lexemes_of}
use Rattle.gql_lexer.specs.Pieces.{with_bytes, pieces_of}

-- the bytes of a piece, and the `;`, which is 59, that ended it
abbrev pub with_end : Piece → List ℕ
with_end p = p.bytes ++ (if p.ended then 59 ∷ [] else [])

-- the pieces, put together again, are the bytes
abbrev pub PiecesJoin : List ℕ → Type 0
PiecesJoin bs = flat_map with_end (pieces_of bs) ≡ bs

-- the spans, put together again, are the bytes
abbrev pub SpansJoin : List ℕ → Type 0
SpansJoin bs = flat_map (λ (s : Span). s.bytes) (spans bs) ≡ bs

-- the spans of a piece that is cut by itself, and the `;` that ended it
abbrev pub spans_with_end : Piece → List Span
spans_with_end p = spans p.bytes ++ (if p.ended then record { shape = Symbol semicolon; bytes = 59 ∷ [] } ∷ [] else [])

-- the spans of the pieces, put together, are the spans of the bytes
abbrev pub SpansOfPiecesJoin : List ℕ → Type 0
SpansOfPiecesJoin bs = flat_map spans_with_end (pieces_of bs) ≡ spans bs

-- the lexemes of a piece that is read by itself, and the `;` that ended it, if none of them is bad
abbrev pub lexemes_with_end : Piece → Option (List Lexeme)
lexemes_with_end p = option_map (λ ls. ls ++ (if p.ended then Sign semicolon ∷ [] else [])) (lexemes_of p.bytes)

-- some lexemes and those behind them, if none of both is bad
abbrev pub with_lexemes : Option (List Lexeme) → Option (List Lexeme) → Option (List Lexeme)
with_lexemes None more = None
with_lexemes (Some ls) more = option_map (λ ms. ls ++ ms) more

-- the lexemes of pieces that are read one by one, if none of them is bad
abbrev pub lexemes_of_pieces : List Piece → Option (List Lexeme)
lexemes_of_pieces [] = Some []
lexemes_of_pieces (p ∷ ps) = with_lexemes (lexemes_with_end p) (lexemes_of_pieces ps)

-- the lexemes of the pieces, put together, are the lexemes of the bytes; and where one of a piece is bad, one of the
-- bytes is
abbrev pub LexemesOfPiecesJoin : List ℕ → Type 0
LexemesOfPiecesJoin bs = lexemes_of_pieces (pieces_of bs) ≡ lexemes_of bs

-- each piece, cut again by itself, is one piece, or none where it is empty
abbrev pub EachIsWhole : List Piece → Type 0
EachIsWhole [] = ⊤
EachIsWhole (p ∷ ps) = (pieces_of p.bytes ≡ with_bytes p.bytes []) × EachIsWhole ps

-- the same of all pieces of the bytes
abbrev pub PiecesAreWhole : List ℕ → Type 0
PiecesAreWhole bs = EachIsWhole (pieces_of bs)

-- each form that is there
abbrev pub EachForm : (Front → Type 0) → List (Option Front) → Type 0
EachForm P [] = ⊤
EachForm P (f ∷ fs) = IfSome f P × EachForm P fs

-- one of the forms that are there
abbrev pub SomeForm : (Front → Type 0) → List (Option Front) → Type 0
SomeForm P [] = ⊥
SomeForm P (f ∷ fs) = IsSomeAnd f P ⊎ SomeForm P fs

-- no form that could stand at the front is longer than the one that does
abbrev pub NoneIsLonger : List ℕ → Type 0
NoneIsLonger bs = EachForm (λ f. f.size ≤ (front bs).size) (forms bs)

-- the one that does is one that could, or a bad byte
abbrev pub IsAForm : List ℕ → Type 0
IsAForm bs = SomeForm (λ f. front bs ≡ f) (forms bs) ⊎ (front bs ≡ form Bad 1)

-- all the bytes are one bad form
abbrev pub AreBad : List ℕ → Type 0
AreBad bs = spans bs ≡ record { shape = Bad; bytes = bs } ∷ []

-- a quote or a backtick with no close
abbrev pub IsOpen : ℕ → List ℕ → Type 0
IsOpen quote bs = quoted_length quote bs ≡ None

-- a `/*` with no `*/` behind it
abbrev pub IsOpenBlock : List ℕ → Type 0
IsOpenBlock bs = block_length bs ≡ None
