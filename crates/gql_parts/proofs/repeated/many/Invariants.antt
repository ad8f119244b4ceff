use Rattle.std.proofs.Common.{◌≤◌, ◌+◌, length}
use Rattle.gql_front.specs.Reading.{many}
use Rattle.gql_parts.proofs.ManyLoops.{StepsSoFar}
use Rattle.gql_parts.proofs.repeated.many.Given as goal

abbrev pub invariant-more : goal.invariant-more
invariant-more g l = record {
  so_far : StepsSoFar g.T.Item.reader (many g.T.Item.reader (length l.start) l.start) l.items l.rest;
  within : length l.items + length l.rest ≤ length l.start;
}

abbrev pub decreases-more : goal.decreases-more
decreases-more g l = length l.rest
