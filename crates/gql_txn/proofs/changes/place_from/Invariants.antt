use Rattle.std.proofs.Common.{ℕ, ◌-◌, ◌<◌, ◌≤◌, length, IsTrue}
use Rattle.gql_txn.specs.Machinery.Changes.{is_below}
use Rattle.gql_txn.proofs.changes.place_from.Given as goal

-- the keys so far are below
abbrev pub invariant-loop-place : goal.invariant-loop-place
invariant-loop-place l = (place : ℕ) → l.from ≤ place → place < l.place → IsTrue (is_below l.records place l.key)

abbrev pub decreases-loop-place : goal.decreases-loop-place
decreases-loop-place l = length l.records - l.place
