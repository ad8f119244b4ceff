use Rattle.std.proofs.Common.{◌≡◌, ◌++◌, map, take}
use Rattle.gql_keep_sql.specs.Machinery.Merge.{put_of}
use Rattle.gql_keep_sql.proofs.changes.push_puts.Given as goal

abbrev pub invariant-loop-record : goal.invariant-loop-record
invariant-loop-record l = l.items.items ≡ l.initial.items.items ++ map put_of (take l.record-index l.puts)
