use Rattle.std.proofs.Common.{◌≡◌, take}
use Rattle.gql_scope.proofs.behind.column_list.Given as goal

abbrev pub invariant-loop-i : goal.invariant-loop-i
invariant-loop-i l = l.copy ≡ take l.i l.columns
