use Rattle.std.proofs.Common.{◌≡◌, drop}
use Rattle.gql_txn.specs.Machinery.Same.{same_nodes}
use Rattle.gql_txn.proofs.same.same_nodes.Given as goal

abbrev pub invariant-loop-i : goal.invariant-loop-i
invariant-loop-i l = same_nodes (drop l.i l.some) (drop l.i l.others) ≡ same_nodes l.some l.others
