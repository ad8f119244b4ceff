use Rattle.std.proofs.Common.{◌≡◌, ◌++◌, map, drop}
use Rattle.gql_change.specs.Machinery.PreparedItems.{item_in, removed_in}
use Rattle.gql_change.proofs.prepared_item.prepare_removals.Given as goal

abbrev pub invariant-loop-i : goal.invariant-loop-i
invariant-loop-i l = map item_in l.all.items ++ map (removed_in l.columns) (drop l.i l.items) ≡ map (removed_in l.columns) l.items
