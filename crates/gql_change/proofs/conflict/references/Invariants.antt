use Rattle.std.proofs.Common.{◌≡◌, take}
use Rattle.gql_change.proofs.ConflictLemmas.{seen}
use Rattle.gql_change.proofs.conflict.references.Given as goal

abbrev pub invariant-loop-i : goal.invariant-loop-i
invariant-loop-i l = seen l.all.items ≡ take l.i l.assignments
