use Rattle.std.proofs.Common.{◌≡◌, [], drop}
use Rattle.gql_degrees.specs.Machinery.JoinWalk.{suspects}
use Rattle.gql_degrees.proofs.joins.suspects.Given as goal

abbrev pub invariant-loop-i : goal.invariant-loop-i
invariant-loop-i l = suspects l.columns l.seen l.named (drop l.i l.declared) ≡ suspects l.columns [] [] l.declared
