use Rattle.std.proofs.Common.{◌≡◌, ◌++◌, map, take}
use Rattle.gql_keep_sql.specs.Machinery.Merge.{drop_of}
use Rattle.gql_keep_sql.proofs.changes.push_drops.Given as goal

abbrev pub invariant-loop-key : goal.invariant-loop-key
invariant-loop-key l = l.items.items ≡ l.initial.items.items ++ map drop_of (take l.key-index l.drops)
