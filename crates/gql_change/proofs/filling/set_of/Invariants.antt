use Rattle.std.proofs.Common.{◌≡◌, drop}
use Rattle.gql_change.specs.Storing.{label_set}
use Rattle.gql_change.proofs.filling.set_of.Given as goal

abbrev pub invariant-loop-i : goal.invariant-loop-i
invariant-loop-i l = l.set.items ≡ label_set (drop l.i l.labels)
