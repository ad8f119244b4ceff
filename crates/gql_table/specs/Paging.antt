-- ORDER BY, OFFSET and LIMIT: first the sort keys of all rows, row by row, then the parameters of OFFSET and of LIMIT,
-- also over no rows.
use Rattle.std.specs.Prelude.{ℕ, pos, List, map, take, drop, Option, Some, None, Result, Ok, Err}
use Rattle.gql_values3.specs.Datum.{Datum, integer}
use Rattle.gql_values3.specs.Integers.{value_of_digits}
use Rattle.gql_values3.specs.PropertyGraph.{PropertyGraph}
use Rattle.gql_ast.specs.Meaning.{tree_of}
use Rattle.gql_ast.specs.Scope.{row_scope}
use Rattle.gql_ast.specs.Faults.{◌>>=◌, each}
use Rattle.gql_ast.specs.Evaluation.{value_of, parameter_value}
use Rattle.gql_ast.specs.declared.page.SortItem.{SortItem}
use Rattle.gql_ast.specs.declared.page.RowCount.{RowCount}
use Rattle.gql_ast.specs.declared.page.RowCount.TheVariants as rows
use Rattle.gql_ast.specs.declared.fault.DataFault.{DataFault}
use Rattle.gql_ast.specs.declared.fault.DataFault.TheVariants as fault
use Rattle.gql_eval.specs.RowLists.{RowList}
use Rattle.gql_ast.specs.ClauseColumns.{ColumnList}
use Rattle.gql_table.specs.Sorting.{sorted_by_keys}

-- a row, and the row under the columns that its sort keys see
abbrev pub Sortable : Type 0
Sortable = List Datum × List Datum

-- a parameter that counts rows is an integer of at least 0
abbrev pub count_in : Datum → Result ℕ DataFault
count_in (integer (pos n)) = Ok n
count_in _ = Err fault.WrongKind

-- OFFSET leaves out so many rows at the front
abbrev pub without_first : Option ℕ → RowList → RowList
without_first None given = given
without_first (Some n) given = drop n given

-- LIMIT keeps so many rows at the front
abbrev pub no_more_than : Option ℕ → RowList → RowList
no_more_than None given = given
no_more_than (Some n) given = take n given

module _ (params : List (List ℕ × Datum)) where
  abbrev pub count_of : RowCount → Result ℕ DataFault
  count_of (rows.Number digits) = Ok (value_of_digits digits)
  count_of (rows.Parameter p) = count_in (parameter_value params p)

  abbrev pub count_if : Option RowCount → Result (Option ℕ) DataFault
  count_if None = Ok None
  count_if (Some c) = count_of c >>= λ n. Ok (Some n)

  -- OFFSET, and then LIMIT
  abbrev pub cut : Option RowCount → Option RowCount → RowList → Result RowList DataFault
  cut skip limit given = count_if skip >>= λ s. count_if limit >>= λ l. Ok (no_more_than l (without_first s given))

module _ (g : PropertyGraph) (params : List (List ℕ × Datum)) (columns : ColumnList) where
  -- a row with its keys in front
  abbrev pub keyed : List SortItem → Sortable → Result (List Datum × List Datum) DataFault
  keyed items r = each (λ (i : SortItem). value_of g params (row_scope columns r.1) (tree_of i.key)) items >>= λ keys. Ok (keys, r.0)

  -- ORDER BY; without it the rows stand as they stood
  abbrev pub ordered : Option (List SortItem) → List Sortable → Result RowList DataFault
  ordered None given = Ok (map (λ (r : Sortable). r.0) given)
  ordered (Some items) given = each (keyed items) given >>= λ all. Ok (map (λ (k : List Datum × List Datum). k.1) (sorted_by_keys items all))

  abbrev pub paged : Option (List SortItem) → Option RowCount → Option RowCount → List Sortable → Result RowList DataFault
  paged order skip limit given = ordered order given >>= λ all. cut params skip limit all
