use Rattle.std.proofs.Common.{◌≡◌, ◌++◌, map, drop}
use Rattle.gql_change.specs.Machinery.PreparedItems.{item_in, set_in}
use Rattle.gql_change.proofs.prepared_item.prepare_sets.Given as goal

abbrev pub invariant-loop-i : goal.invariant-loop-i
invariant-loop-i l = map item_in l.all.items ++ map (set_in l.columns l.params) (drop l.i l.items) ≡ map (set_in l.columns l.params) l.items
