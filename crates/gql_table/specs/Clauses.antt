-- The table clauses: what becomes of columns and rows, or the first fault.
use Rattle.std.specs.Prelude.{ℕ, List, map, Some, None, Result, Ok}
use Rattle.gql_values3.specs.Datum.{Datum}
use Rattle.gql_values3.specs.PropertyGraph.{PropertyGraph}
use Rattle.gql_ast.specs.Meaning.{tree_of}
use Rattle.gql_ast.specs.Faults.{◌>>=◌}
use Rattle.gql_ast.specs.declared.clause.Clause.{Clause}
use Rattle.gql_ast.specs.declared.clause.Clause.TheVariants as clause
use Rattle.gql_ast.specs.declared.page.Page.{Page}
use Rattle.gql_ast.specs.declared.page.Page.TheVariants as page
use Rattle.gql_ast.specs.declared.fault.DataFault.{DataFault}
use Rattle.gql_eval.specs.RowLists.{RowList}
use Rattle.gql_ast.specs.ClauseColumns.{ColumnList, for_columns, let_columns}
use Rattle.gql_ast.specs.Projections.{output_columns}
use Rattle.gql_table.specs.Let.{let_rows}
use Rattle.gql_table.specs.Filter.{filter_rows}
use Rattle.gql_table.specs.For.{for_rows}
use Rattle.gql_table.specs.Paging.{paged}
use Rattle.gql_table.specs.Projection.{output_alone, returned_rows}

-- the columns behind the clause; one that looks at the graph or changes it is none over tables, and leaves the table here
abbrev pub columns_after : ColumnList → Clause → ColumnList
columns_after columns (clause.Let items) = let_columns columns items
columns_after columns (clause.For f) = for_columns columns f
columns_after columns (clause.Return r) = output_columns columns r.items
columns_after columns _ = columns

module _ (g : PropertyGraph) (params : List (List ℕ × Datum)) (columns : ColumnList) where
  abbrev pub page_rows : Page → RowList → Result RowList DataFault
  page_rows (page.Order items skip limit) rows = paged g params columns (Some items) skip limit (map output_alone rows)
  page_rows (page.Skip skip limit) rows = paged g params columns None (Some skip) limit (map output_alone rows)
  page_rows (page.Limit limit) rows = paged g params columns None None (Some limit) (map output_alone rows)

  abbrev pub rows_after : Clause → RowList → Result RowList DataFault
  rows_after (clause.Let items) rows = let_rows g params columns items rows
  rows_after (clause.Filter e) rows = filter_rows g params columns (tree_of e) rows
  rows_after (clause.For f) rows = for_rows g params columns f rows
  rows_after (clause.Page p) rows = page_rows p rows
  rows_after (clause.Return r) rows = returned_rows g params columns r rows
  rows_after _ rows = Ok rows

  -- the table behind the clause
  abbrev pub table_after : Clause → RowList → Result (ColumnList × RowList) DataFault
  table_after c rows = rows_after c rows >>= λ rs. Ok (columns_after columns c, rs)
