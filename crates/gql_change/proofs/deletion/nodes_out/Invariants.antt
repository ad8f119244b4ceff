use Rattle.std.proofs.Common.{◌≡◌, map, drop, reverse}
use Rattle.gql_change.specs.Machinery.DeletionSteps.{node_out}
use Rattle.gql_change.proofs.deletion.nodes_out.Given as goal

abbrev pub invariant-loop-i : goal.invariant-loop-i
invariant-loop-i l = l.changes ≡ map node_out (reverse (drop l.i l.nodes))
