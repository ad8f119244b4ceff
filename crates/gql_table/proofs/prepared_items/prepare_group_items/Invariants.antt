use Rattle.std.proofs.Common.{◌≡◌, map, take}
use Rattle.gql_table.specs.Machinery.GroupPlan.{prepared_plan}
use Rattle.gql_table.specs.Machinery.GroupMeaning.{item_meant}
use Rattle.gql_table.proofs.prepared_items.prepare_group_items.Given as goal

abbrev pub invariant-loop-i : goal.invariant-loop-i
invariant-loop-i l = l.all.items ≡ map (prepared_plan l.columns l.params) (map item_meant (take l.i l.items))
