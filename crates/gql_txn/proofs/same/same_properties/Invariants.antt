use Rattle.std.proofs.Common.{◌≡◌, drop, map}
use Rattle.gql_graph.specs.Machinery.Shown.{shown}
use Rattle.gql_txn.specs.Machinery.Same.{same_properties}
use Rattle.gql_txn.proofs.same.same_properties.Given as goal

abbrev pub invariant-loop-i : goal.invariant-loop-i
invariant-loop-i l = same_properties (map shown (drop l.i l.some)) (map shown (drop l.i l.others)) ≡ same_properties (map shown l.some) (map shown l.others)
