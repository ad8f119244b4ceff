-- Which name of an expression is sought.
use Rattle.std.specs.Prelude.{ℕ, Bool, true, not, ◌&&◌, List}
use Rattle.gql_values3.specs.Texts.{same_text}
use Rattle.gql_ast.specs.ClauseColumns.{ColumnList, is_column}
use Rattle.gql_expr_checks.specs.ExprMisuses.{is_group_column}
use Rattle.gql_expr_checks.specs.declared.names.Sought.{Sought}
use Rattle.gql_expr_checks.specs.declared.names.Sought.TheVariants as sought

-- the name is one that is sought
abbrev pub is_sought : ColumnList → Sought → List ℕ → Bool
is_sought columns sought.Any x = true
is_sought columns sought.Unknown x = not (is_column columns x)
is_sought columns sought.Group x = is_group_column columns x
is_sought columns (sought.OtherGroup y) x = is_group_column columns x && not (same_text y.now x)
