use Rattle.std.proofs.Common.{◌≡◌, ◌+◌, ◌*◌, ◌≤◌, length}
use Rattle.gql_front.proofs.Loops.{with_front}
use Rattle.gql_exprs.proofs.LabelChains.{above, sides_from}
use Rattle.gql_exprs.proofs.labels.+labels.Given as goal

abbrev pub decreases-label_expression : goal.decreases-label_expression
decreases-label_expression l = 10 * length l.rest.now + 7

abbrev pub decreases-chain : goal.decreases-chain
decreases-chain l = 10 * length l.rest.now + above l.kind + 1

abbrev pub decreases-side : goal.decreases-side
decreases-side l = 10 * length l.rest.now + above l.kind

abbrev pub decreases-sides : goal.decreases-sides
decreases-sides l = 10 * length l.start.now

abbrev pub decreases-factor : goal.decreases-factor
decreases-factor l = 10 * length l.rest.now + 2

abbrev pub decreases-base : goal.decreases-base
decreases-base l = 10 * length l.rest.now + 1

abbrev pub decreases-paren : goal.decreases-paren
decreases-paren l = 10 * length l.rest.now + 8

abbrev pub invariant-sides-more : goal.invariant-sides-more
invariant-sides-more l = record {
  so_far : with_front l.others (sides_from l.kind l.rest) ≡ sides_from l.kind l.start;
  within : length l.rest ≤ length l.start;
}

abbrev pub decreases-sides-more : goal.decreases-sides-more
decreases-sides-more l = length l.rest
