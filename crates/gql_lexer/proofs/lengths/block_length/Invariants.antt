use Rattle.std.proofs.Common.{◌≡◌, ◌≤◌, ◌-◌, drop, length}
use Rattle.gql_lexer.specs.Lengths.{block_length}
use Rattle.gql_lexer.proofs.LengthLemmas.{ahead}
use Rattle.gql_lexer.proofs.lengths.block_length.Given as goal

abbrev pub invariant-loop-at : goal.invariant-loop-at
invariant-loop-at l = record { here : l.at ≤ length l.rest; told : block_length l.rest ≡ ahead l.at (block_length (drop l.at l.rest)) }

abbrev pub decreases-loop-at : goal.decreases-loop-at
decreases-loop-at l = length l.rest - l.at
