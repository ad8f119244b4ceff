use Rattle.std.proofs.Common.{length, ◌-◌}
use Rattle.gql_txn.proofs.near.edge_place.Given as goal

abbrev pub decreases-loop-place : goal.decreases-loop-place
decreases-loop-place l = length l.edges - l.place
