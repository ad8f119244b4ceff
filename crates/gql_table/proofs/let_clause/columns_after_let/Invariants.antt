use Rattle.std.proofs.Common.{◌≡◌, drop}
use Rattle.gql_ast.specs.ClauseColumns.{let_columns}
use Rattle.gql_table.proofs.let_clause.columns_after_let.Given as goal

abbrev pub invariant-loop-i : goal.invariant-loop-i
invariant-loop-i l = let_columns l.all (drop l.i l.items) ≡ let_columns l.fn.columns l.items
