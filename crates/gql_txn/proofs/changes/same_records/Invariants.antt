use Rattle.std.proofs.Common.{◌≡◌, drop}
use Rattle.gql_txn.specs.Machinery.Changes.{same_records}
use Rattle.gql_txn.proofs.changes.same_records.Given as goal

abbrev pub invariant-loop-i : goal.invariant-loop-i
invariant-loop-i l = same_records (drop l.i l.some) (drop l.i l.others) ≡ same_records l.some l.others
