use Rattle.std.proofs.Common.{◌≡◌, ◌+◌, ◌*◌, ◌≤◌, length}
use Rattle.gql_front.proofs.Loops.{with_front}
use Rattle.gql_patterns.proofs.PathLoops.{factors_from, sides_from}
use Rattle.gql_patterns.proofs.levels.+path.Given as goal

abbrev pub decreases-path_expression : goal.decreases-path_expression
decreases-path_expression l = 20 * length l.rest.now + 7

abbrev pub decreases-sides : goal.decreases-sides
decreases-sides l = 20 * length l.start.now

abbrev pub decreases-term : goal.decreases-term
decreases-term l = 20 * length l.rest.now + 5

abbrev pub decreases-factors : goal.decreases-factors
decreases-factors l = 20 * length l.start.now + 4

abbrev pub decreases-factor : goal.decreases-factor
decreases-factor l = 20 * length l.rest.now + 3

abbrev pub decreases-primary : goal.decreases-primary
decreases-primary l = 20 * length l.rest.now + 2

abbrev pub decreases-in_parentheses : goal.decreases-in_parentheses
decreases-in_parentheses l = 20 * length l.rest.now + 10

abbrev pub decreases-part : goal.decreases-part
decreases-part l = 20 * length l.rest.now + 9

abbrev pub decreases-closed_part : goal.decreases-closed_part
decreases-closed_part l = 20 * length l.rest.now + 8

abbrev pub invariant-sides-more : goal.invariant-sides-more
invariant-sides-more l = record {
  so_far : with_front l.others (sides_from l.chain l.rest) ≡ sides_from l.chain l.start;
  within : length l.rest ≤ length l.start;
}

abbrev pub decreases-sides-more : goal.decreases-sides-more
decreases-sides-more l = length l.rest

abbrev pub invariant-factors-more : goal.invariant-factors-more
invariant-factors-more l = record {
  so_far : with_front l.others (factors_from l.rest) ≡ factors_from l.start;
  within : length l.rest ≤ length l.start;
}

abbrev pub decreases-factors-more : goal.decreases-factors-more
decreases-factors-more l = length l.rest
