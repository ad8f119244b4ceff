use Rattle.std.proofs.Common.{◌≡◌, ◌++◌, take}
use Rattle.gql_scope.proofs.outputs.push_columns.Given as goal

abbrev pub invariant-loop-column : goal.invariant-loop-column
invariant-loop-column l = l.outputs ≡ l.initial.outputs ++ take l.column-index l.columns
