use Rattle.std.proofs.Common.{◌≡◌, drop}
use Rattle.gql_type.specs.Machinery.InOrder.{same_names}
use Rattle.gql_type.proofs.content.same_names.Given as goal

abbrev pub invariant-loop-i : goal.invariant-loop-i
invariant-loop-i l = same_names (drop l.i l.names) (drop l.i l.others) ≡ same_names l.names l.others
