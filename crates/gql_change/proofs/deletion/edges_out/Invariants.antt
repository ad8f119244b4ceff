use Rattle.std.proofs.Common.{◌≡◌, map, drop, reverse}
use Rattle.gql_change.specs.Machinery.DeletionSteps.{edge_out}
use Rattle.gql_change.proofs.deletion.edges_out.Given as goal

abbrev pub invariant-loop-i : goal.invariant-loop-i
invariant-loop-i l = l.changes ≡ map edge_out (reverse (drop l.i l.edges))
