use Rattle.std.proofs.Common.{◌≡◌, ◌≤◌, ◌+◌, ◌++◌, reverse}
use Rattle.std.specs.Vec.{vec_len, vec_capacity}
use Rattle.gql_keep_sql.proofs.keys.move_all.Given as goal

-- what was moved, and then what is ahead, is all
abbrev pub invariant-loop-key : goal.invariant-loop-key
invariant-loop-key l = record {
  whole : l.into.items ++ reverse l.ahead.items ≡ l.initial.into.items ++ reverse l.initial.ahead.items;
  room : vec_len l.into + vec_len l.ahead ≤ vec_capacity l.into;
}

abbrev pub decreases-loop-key : goal.decreases-loop-key
decreases-loop-key l = vec_len l.ahead
