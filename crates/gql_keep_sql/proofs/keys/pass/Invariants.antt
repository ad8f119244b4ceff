use Rattle.std.proofs.Common.{◌≡◌, ◌≤◌, ◌+◌, ◌++◌, reverse}
use Rattle.std.specs.Vec.{vec_len, vec_capacity}
use Rattle.gql_keep_sql.specs.Machinery.Merge.{below, above}
use Rattle.gql_keep_sql.proofs.keys.pass.Given as goal

-- what was moved, and then what is below the key among those ahead, is all below it
abbrev pub invariant-loop-key : goal.invariant-loop-key
invariant-loop-key l = record {
  below : l.into.items ++ below l.at (reverse l.ahead.items) ≡ l.initial.into.items ++ below l.at (reverse l.initial.ahead.items);
  above : above l.at (reverse l.ahead.items) ≡ above l.at (reverse l.initial.ahead.items);
  counted : vec_len l.into + vec_len l.ahead ≤ vec_len l.initial.into + vec_len l.initial.ahead;
  capacity : vec_capacity l.into ≡ vec_capacity l.initial.into;
}

abbrev pub decreases-loop-key : goal.decreases-loop-key
decreases-loop-key l = vec_len l.ahead
