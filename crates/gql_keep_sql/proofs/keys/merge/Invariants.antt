use Rattle.std.proofs.Common.{◌≡◌, ◌≤◌, ◌+◌, ◌++◌, reverse}
use Rattle.std.specs.Vec.{vec_len, vec_capacity}
use Rattle.std.specs.Vec.Iter.{into_iter_items, into_iter_len}
use Rattle.gql_keep_sql.specs.Machinery.Merge.{merged}
use Rattle.gql_keep_sql.proofs.keys.merge.Given as goal

-- what was moved, and then the keys ahead under the changes ahead, is all
abbrev pub invariant-loop-change : goal.invariant-loop-change
invariant-loop-change l = record {
  whole : l.into.items ++ merged (reverse l.old.items) (into_iter_items l.change-iterator) ≡ merged (reverse l.initial.old.items) l.fn.changes.items;
  room : vec_len l.into + vec_len l.old + into_iter_len l.change-iterator ≤ vec_capacity l.into;
}
