use Rattle.std.proofs.Common.{◌<◌, length}
use Rattle.gql_parts.proofs.ListLoops.{SoFar}
use Rattle.gql_parts.proofs.item.list.Given as goal

abbrev pub invariant-more : goal.invariant-more
invariant-more g l = record {
  so_far : SoFar g.T.Item.reader l.start l.items l.rest;
  within : length l.rest < length l.start;
}

abbrev pub decreases-more : goal.decreases-more
decreases-more g l = length l.rest
