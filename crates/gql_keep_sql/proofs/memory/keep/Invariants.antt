use Rattle.std.proofs.Common.{◌≡◌, ◌≤◌, ◌+◌, ◌++◌}
use Rattle.std.specs.List.{filter}
use Rattle.std.specs.Vec.{vec_len, vec_capacity}
use Rattle.std.specs.Vec.Iter.{into_iter_items, into_iter_len}
use Rattle.gql_keep_sql.specs.Machinery.Merge.{is_kept}
use Rattle.gql_keep_sql.proofs.memory.keep.Given as goal

-- what was moved, and then what stays of those ahead, is all
abbrev pub invariant-loop-record : goal.invariant-loop-record
invariant-loop-record l = record {
  whole : l.into.items ++ filter (is_kept l.changes) (into_iter_items l.record-iterator) ≡ l.initial.into.items ++ filter (is_kept l.changes) l.fn.old.items;
  room : vec_len l.into + into_iter_len l.record-iterator ≤ vec_capacity l.into;
}
