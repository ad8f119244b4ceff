use Rattle.std.proofs.Common.{◌≡◌, ◌-◌, ◌++◌}
use Rattle.gql_table.specs.Machinery.GroupPlan.{names_from}
use Rattle.gql_table.proofs.group_items.result_names.Given as goal

abbrev pub invariant-loop-i : goal.invariant-loop-i
invariant-loop-i l = l.names ++ names_from l.i (l.count - l.i) ≡ names_from 0 l.count
