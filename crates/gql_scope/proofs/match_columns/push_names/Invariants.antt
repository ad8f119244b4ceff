use Rattle.std.proofs.Common.{◌≡◌, drop}
use Rattle.gql_norm.specs.Machinery.ColumnGrowth.{with_columns}
use Rattle.gql_scope.specs.Machinery.Gathering.{columns_of}
use Rattle.gql_scope.proofs.match_columns.push_names.Given as goal

abbrev pub invariant-loop-i : goal.invariant-loop-i
invariant-loop-i l = with_columns l.scope (columns_of l.groups (drop l.i l.names)) ≡ with_columns l.initial.scope (columns_of l.groups l.names)
