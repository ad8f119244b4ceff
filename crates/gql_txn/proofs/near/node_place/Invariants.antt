use Rattle.std.proofs.Common.{length, ◌-◌}
use Rattle.gql_txn.proofs.near.node_place.Given as goal

abbrev pub decreases-loop-place : goal.decreases-loop-place
decreases-loop-place l = length l.nodes - l.place
