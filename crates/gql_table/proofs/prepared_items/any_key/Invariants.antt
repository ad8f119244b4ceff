use Rattle.std.proofs.Common.{◌≡◌, drop}
use Rattle.gql_table.specs.Machinery.GroupPlan.{has_key}
use Rattle.gql_table.proofs.prepared_items.any_key.Given as goal

abbrev pub invariant-loop-i : goal.invariant-loop-i
invariant-loop-i l = has_key (drop l.i l.items) ≡ has_key l.items
