-- The columns that an expression names: each of its names that is a column, with what that holds.
use Rattle.std.specs.Prelude.{ℕ, List, [], ◌∷◌, Option, Some, None}
use Rattle.std.specs.List.{flat_map}
use Rattle.gql_values3.specs.declared.table.ColumnKind.{ColumnKind}
use Rattle.gql_ast.specs.ClauseColumns.{ColumnList}
use Rattle.gql_expr_checks.specs.Machinery.Knowing.{first_kind}

abbrev pub column_if : List ℕ → Option ColumnKind → ColumnList
column_if x None = []
column_if x (Some k) = (x, k) ∷ []

abbrev pub seen_columns : ColumnList → List (List ℕ) → ColumnList
seen_columns columns names = flat_map (λ x. column_if x (first_kind columns x)) names
