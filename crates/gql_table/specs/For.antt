-- FOR: a row for each item of a list. NULL gives no row.
use Rattle.std.specs.Prelude.{ℕ, suc, List, [], ◌∷◌, ◌++◌, Option, Some, None, Result, Ok, Err}
use Rattle.gql_values3.specs.Datum.{Datum, null, list, items_of}
use Rattle.gql_values3.specs.PropertyGraph.{PropertyGraph}
use Rattle.gql_ast.specs.Meaning.{tree_of}
use Rattle.gql_ast.specs.Scope.{row_scope}
use Rattle.gql_ast.specs.Operators.{counted}
use Rattle.gql_ast.specs.Faults.{◌>>=◌}
use Rattle.gql_ast.specs.Evaluation.{value_of}
use Rattle.gql_ast.specs.declared.clause.For.{For}
use Rattle.gql_ast.specs.declared.clause.Counting.{Counting}
use Rattle.gql_ast.specs.declared.clause.Counting.TheVariants as counting
use Rattle.gql_ast.specs.declared.fault.DataFault.{DataFault}
use Rattle.gql_ast.specs.declared.fault.DataFault.TheVariants as fault
use Rattle.gql_eval.specs.RowLists.{RowList, each_some}
use Rattle.gql_ast.specs.ClauseColumns.{ColumnList}

-- the first number of a counter
abbrev pub first_count : Counting → ℕ
first_count counting.Ordinality = 1
first_count counting.Offset = 0

-- the rows of the items, those of a counter numbered from n
abbrev pub item_rows : Option (Counting × List ℕ) → ℕ → List Datum → List Datum → Result RowList DataFault
item_rows counter n row [] = Ok []
item_rows None n row (d ∷ ds) = item_rows None n row ds >>= λ rows. Ok ((row ++ d ∷ []) ∷ rows)
item_rows (Some c) n row (d ∷ ds) = counted n >>= λ k. item_rows (Some c) (suc n) row ds >>= λ rows. Ok ((row ++ d ∷ k ∷ []) ∷ rows)

-- the number that the first item gets; without a counter none is told
abbrev pub start_count : Option (Counting × List ℕ) → ℕ
start_count None = 0
start_count (Some c) = first_count c.0

-- NULL has no items, and only a list has some
abbrev pub rows_over : For → List Datum → Datum → Result RowList DataFault
rows_over f row null = Ok []
rows_over f row (list ds) = item_rows f.counter (start_count f.counter) row (items_of ds)
rows_over f row _ = Err fault.WrongKind

module _ (g : PropertyGraph) (params : List (List ℕ × Datum)) where
  abbrev pub for_row : ColumnList → For → List Datum → Result RowList DataFault
  for_row columns f row = value_of g params (row_scope columns row) (tree_of f.list) >>= rows_over f row

  abbrev pub for_rows : ColumnList → For → RowList → Result RowList DataFault
  for_rows columns f rows = each_some (for_row columns f) rows
