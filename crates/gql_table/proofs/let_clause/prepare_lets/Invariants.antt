use Rattle.std.proofs.Common.{◌≡◌, ◌+◌, ◌++◌, take, drop}
use Rattle.gql_ast.specs.ClauseColumns.{let_columns}
use Rattle.gql_table.specs.Machinery.Preparations.{prepared_lets}
use Rattle.gql_table.proofs.let_clause.prepare_lets.Given as goal

abbrev pub invariant-loop-i : goal.invariant-loop-i
invariant-loop-i l = record {
  whole : l.all.items ++ prepared_lets (take (l.width + l.i) l.columns) l.params (drop l.i l.items) ≡ prepared_lets (take l.width l.columns) l.params l.items;
  columns : let_columns (take (l.width + l.i) l.columns) (drop l.i l.items) ≡ l.columns;
}
