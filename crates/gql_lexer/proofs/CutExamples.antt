-- Examples of pieces that are read one by one, computed. No form of theirs is a name, so `no-name` tells of each place.
use Rattle.std.proofs.Common.{◌≡◌, true, false, [], ◌∷◌, codes, Some, None, refl}
use Rattle.gql_lexer.specs.SymbolPlaces.{semicolon, star, less_or_equal}
use Rattle.gql_lexer.specs.declared.lexeme.Lexeme.TheVariants.{Sign}
use Rattle.gql_lexer.specs.Forms.{symbols, front}
use Rattle.gql_lexer.specs.Lexemes.{lexemes_of}
use Rattle.gql_lexer.specs.Pieces.{piece, pieces_of}
use Rattle.gql_lexer.specs.Laws.{lexemes_of_pieces}
use Rattle.gql_lexer.proofs.FrontLemmas.{no-name}

-- the `;` of a comment cuts nothing
in-a-comment : pieces_of (codes "*;--;\n;<=") ≡ piece (codes "*") true ∷ piece (codes "--;\n") true ∷ piece (codes "<=") false ∷ []
unfolding front symbols
in-a-comment =
    rw (
      no-name 42 (codes ";--;\n;<=") refl,
      no-name 59 (codes "--;\n;<=") refl,
      no-name 45 (codes "-;\n;<=") refl,
      no-name 10 (codes ";<=") refl,
      no-name 59 (codes "<=") refl,
      no-name 60 (codes "=") refl,
    ) refl

their-lexemes : lexemes_of_pieces (piece (codes "*") true ∷ piece (codes "--;\n") true ∷ piece (codes "<=") false ∷ [])
    ≡ Some (Sign star ∷ Sign semicolon ∷ Sign semicolon ∷ Sign less_or_equal ∷ [])
unfolding front symbols
their-lexemes = rw (no-name 42 [] refl, no-name 45 (codes "-;\n") refl, no-name 10 [] refl, no-name 60 (codes "=") refl) refl

the-lexemes-of-all : lexemes_of (codes "*;--;\n;<=") ≡ Some (Sign star ∷ Sign semicolon ∷ Sign semicolon ∷ Sign less_or_equal ∷ [])
unfolding front symbols
the-lexemes-of-all =
    rw (
      no-name 42 (codes ";--;\n;<=") refl,
      no-name 59 (codes "--;\n;<=") refl,
      no-name 45 (codes "-;\n;<=") refl,
      no-name 10 (codes ";<=") refl,
      no-name 59 (codes "<=") refl,
      no-name 60 (codes "=") refl,
    ) refl

-- a byte that is bad by itself may stand in any piece, an open string in the last alone
bad-and-open : pieces_of (codes "#;';") ≡ piece (codes "#") true ∷ piece (codes "';") false ∷ []
unfolding front symbols
bad-and-open = rw (no-name 35 (codes ";';") refl, no-name 59 (codes "';") refl, no-name 39 (codes ";") refl) refl

then-none : lexemes_of_pieces (piece (codes "*") true ∷ piece (codes "#") true ∷ piece (codes "*") false ∷ []) ≡ None
unfolding front symbols
then-none = rw (no-name 42 [] refl, no-name 35 [] refl) refl
