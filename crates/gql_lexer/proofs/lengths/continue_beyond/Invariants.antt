use Rattle.std.proofs.Common.{◌≡◌, ◌+◌, ◌≤◌, ◌-◌, drop, length}
use Rattle.gql_lexer.specs.Lengths.{continue_length}
use Rattle.gql_lexer.proofs.lengths.continue_beyond.Given as goal

abbrev pub invariant-loop-at : goal.invariant-loop-at
invariant-loop-at l =
    record { from : l.first ≤ l.at; here : l.at ≤ length l.rest; told : l.at + continue_length 0 (drop l.at l.rest) ≡ continue_length l.first l.rest }

abbrev pub decreases-loop-at : goal.decreases-loop-at
decreases-loop-at l = length l.rest - l.at
