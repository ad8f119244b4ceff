-- Rows, when they fit their columns, and steps that give some items for each of a list.
use Rattle.std.specs.Prelude.{ℕ, Bool, List, map, Result, Ok}
use Rattle.std.specs.List.{flat_map, list_all}
use Rattle.gql_values3.specs.Datum.{Datum}
use Rattle.gql_values3.specs.Rows.{fit_kinds}
use Rattle.gql_values3.specs.declared.table.ColumnKind.{ColumnKind}
use Rattle.gql_ast.specs.ClauseColumns.{ColumnList}
use Rattle.gql_ast.specs.declared.fault.DataFault.{DataFault}
use Rattle.gql_ast.specs.Faults.{◌>>=◌, each}

-- the data of rows in the order of their columns
abbrev pub RowList : Type 0
RowList = List (List Datum)

-- a step that gives some items for each of a list, from the left
abbrev pub each_some : {A B : Type 0} → (A → Result (List B) DataFault) → List A → Result (List B) DataFault
each_some f xs = each f xs >>= λ yss. Ok (flat_map (λ ys. ys) yss)

-- what the columns hold
abbrev pub column_kinds : ColumnList → List ColumnKind
column_kinds columns = map (λ (c : List ℕ × ColumnKind). c.1) columns

-- There are as many values as columns, and each fits what its column holds. NULL fits every column. Else a Node or Edge
-- column has such an element, a Nodes or Edges column a list of such elements, none of them NULL, a Path column a path,
-- and a Plain column any value.
-- That the columns' names differ is no part of it: a statement in which they don't is refused before it is run.
abbrev pub row_fits : ColumnList → List Datum → Bool
row_fits columns row = fit_kinds (column_kinds columns) row

-- each row fits the columns
abbrev pub rows_fit : ColumnList → RowList → Bool
rows_fit columns rows = list_all (row_fits columns) rows
