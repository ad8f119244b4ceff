use Rattle.std.proofs.Common.{◌≡◌, ◌≤◌, ◌-◌, drop, length}
use Rattle.gql_lexer.specs.Lengths.{quoted_length}
use Rattle.gql_lexer.proofs.LengthLemmas.{ahead}
use Rattle.gql_lexer.proofs.lengths.quoted_length.Given as goal

abbrev pub invariant-loop-at : goal.invariant-loop-at
invariant-loop-at l =
    record { here : l.at ≤ length l.rest; told : quoted_length l.quote l.rest ≡ ahead l.at (quoted_length l.quote (drop l.at l.rest)) }

abbrev pub decreases-loop-at : goal.decreases-loop-at
decreases-loop-at l = length l.rest - l.at
