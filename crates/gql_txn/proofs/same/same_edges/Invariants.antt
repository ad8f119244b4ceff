use Rattle.std.proofs.Common.{◌≡◌, drop}
use Rattle.gql_txn.specs.Machinery.Same.{same_edges}
use Rattle.gql_txn.proofs.same.same_edges.Given as goal

abbrev pub invariant-loop-i : goal.invariant-loop-i
invariant-loop-i l = same_edges (drop l.i l.some) (drop l.i l.others) ≡ same_edges l.some l.others
