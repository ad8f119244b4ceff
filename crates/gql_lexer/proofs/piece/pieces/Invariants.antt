use Rattle.std.proofs.Common.{◌≡◌, ◌≤◌, ◌-◌, ◌++◌, drop, length, take}
use Rattle.gql_lexer.specs.Pieces.{pieces_of, with_bytes}
use Rattle.gql_lexer.proofs.piece.pieces.Given as goal

abbrev pub invariant-loop-at : goal.invariant-loop-at
invariant-loop-at l = record {
  order : l.start ≤ l.at;
  here : l.at ≤ length l.bytes;
  told : l.all ++ with_bytes (take (l.at - l.start) (drop l.start l.bytes)) (pieces_of (drop l.at l.bytes)) ≡ pieces_of l.bytes;
}

abbrev pub decreases-loop-at : goal.decreases-loop-at
decreases-loop-at l = length l.bytes - l.at
