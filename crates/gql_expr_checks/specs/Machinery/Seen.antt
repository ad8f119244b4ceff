-- The names of a list of columns: in order, and with the last one first, as a walk over them has seen them.
use Rattle.std.specs.Prelude.{ℕ, List, map, reverse}
use Rattle.gql_values3.specs.declared.table.ColumnKind.{ColumnKind}
use Rattle.gql_ast.specs.ClauseColumns.{ColumnList}

abbrev pub names_of : ColumnList → List (List ℕ)
names_of columns = map (λ (c : List ℕ × ColumnKind). c.0) columns

abbrev pub seen_names : ColumnList → List (List ℕ)
seen_names columns = reverse (names_of columns)
