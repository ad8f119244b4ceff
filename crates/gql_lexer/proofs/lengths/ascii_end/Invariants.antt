use Rattle.std.proofs.Common.{◌≡◌, ◌≤◌, ◌-◌, length}
use Rattle.gql_lexer.specs.Lengths.{continue_length}
use Rattle.gql_lexer.proofs.lengths.ascii_end.Given as goal

abbrev pub invariant-loop-at : goal.invariant-loop-at
invariant-loop-at l = record { from : l.first ≤ l.at; here : l.at ≤ length l.rest; told : continue_length l.at l.rest ≡ continue_length l.first l.rest }

abbrev pub decreases-loop-at : goal.decreases-loop-at
decreases-loop-at l = length l.rest - l.at
