-- A piece is no longer than its text.
use Rattle.std.proofs.Common.{◌≡◌, ℕ, zero, suc, ◌<◌, ◌≤◌, cond, List, [], ◌∷◌, length, get_or, ap, arith, length-append}
use Rattle.std.specs.List.{flat_map}
use Rattle.gql_lexer.specs.declared.piece.Piece.{Piece}
use Rattle.gql_lexer.specs.Pieces.{pieces_of}
use Rattle.gql_lexer.specs.Laws.{with_end}
use Rattle.gql_lexer.proofs.LawLemmas.{pieces-join}

joined-within : (ps : List Piece) (i : ℕ) (p : Piece) → i < length ps → p ≡ get_or ps i p → length p.bytes ≤ length (flat_map with_end ps)
joined-within [] i p h e = absurd (omega arith)
joined-within (q ∷ ps) zero p h e =
    let same : length p.bytes ≡ length q.bytes = ap (λ (x : Piece). length x.bytes) e in
    omega (arith, same, length-append (with_end q) (flat_map with_end ps), length-append q.bytes (cond q.ended (59 ∷ []) []))
joined-within (q ∷ ps) (suc i) p h e = omega (arith, joined-within ps i p (omega arith) e, length-append (with_end q) (flat_map with_end ps))

pub piece-within : (text : List ℕ) (i : ℕ) (p : Piece) → i < length (pieces_of text) → p ≡ get_or (pieces_of text) i p → length p.bytes ≤ length text
piece-within text i p h e = omega (arith, joined-within (pieces_of text) i p h e, ap length (pieces-join text))
