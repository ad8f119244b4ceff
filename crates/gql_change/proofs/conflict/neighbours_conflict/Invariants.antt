use Rattle.std.proofs.Common.{◌≡◌, drop}
use Rattle.gql_change.specs.Conflicts.{neighbours_conflict}
use Rattle.gql_change.proofs.ConflictLemmas.{seen}
use Rattle.gql_change.proofs.conflict.neighbours_conflict.Given as goal

abbrev pub invariant-loop-i : goal.invariant-loop-i
invariant-loop-i l = neighbours_conflict (drop l.i (seen l.sorted)) ≡ neighbours_conflict (seen l.sorted)
