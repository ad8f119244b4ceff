-- RETURN: the output columns, DISTINCT, and then ORDER BY, OFFSET and LIMIT.
use Rattle.std.specs.Prelude.{ℕ, ◌||◌, List, ◌++◌, map, Result, Ok, if◌then◌else◌}
use Rattle.gql_values3.specs.Datum.{Datum}
use Rattle.gql_values3.specs.PropertyGraph.{PropertyGraph}
use Rattle.gql_ast.specs.Tree.{Tree}
use Rattle.gql_ast.specs.Meaning.{tree_of}
use Rattle.gql_ast.specs.Scope.{row_scope}
use Rattle.gql_ast.specs.Faults.{◌>>=◌, each}
use Rattle.gql_ast.specs.Evaluation.{value_of}
use Rattle.gql_ast.specs.Outputs.{item_column}
use Rattle.gql_ast.specs.declared.projection.Return.{Return}
use Rattle.gql_ast.specs.declared.projection.ReturnItem.{ReturnItem}
use Rattle.gql_ast.specs.declared.projection.ReturnItems.{ReturnItems}
use Rattle.gql_ast.specs.declared.projection.ReturnItems.TheVariants as items
use Rattle.gql_ast.specs.declared.words.SetQuantifier.{SetQuantifier}
use Rattle.gql_ast.specs.declared.words.SetQuantifier.TheVariants as quantifier
use Rattle.gql_ast.specs.declared.fault.DataFault.{DataFault}
use Rattle.gql_eval.specs.RowLists.{RowList}
use Rattle.gql_ast.specs.ClauseColumns.{ColumnList}
use Rattle.gql_ast.specs.Projections.{output_columns, output_trees, is_grouped, is_distinct}
use Rattle.gql_table.specs.Distinct.{distinct_rows}
use Rattle.gql_table.specs.Grouping.{grouped_rows}
use Rattle.gql_table.specs.Paging.{Sortable, paged}

-- a row for which sort keys see the output columns alone
abbrev pub output_alone : List Datum → Sortable
output_alone row = (row, row)

-- the output columns with the incoming ones behind them, an output name winning. Those of `*` are the incoming ones, so
-- each is there once, where `gql_ast` tells names alone and has them twice
abbrev pub with_incoming : ColumnList → ReturnItems → ColumnList
with_incoming columns items.All = columns
with_incoming columns (items.Listed is) = map (item_column columns) is ++ columns

-- the columns that sort keys see: without DISTINCT and grouping also the incoming ones
abbrev pub sort_key_columns : ColumnList → Return → ColumnList
sort_key_columns columns r =
    if is_grouped columns r || is_distinct r.quantifier
    then output_columns columns r.items
    else with_incoming columns r.items

-- rows for which sort keys see the output columns alone
abbrev pub all_alone : RowList → List Sortable
all_alone rows = map output_alone rows

-- the first of equal outputs
abbrev pub distinct_outputs : List Sortable → List Sortable
distinct_outputs outs = all_alone (distinct_rows (map (λ (o : Sortable). o.0) outs))

module _ (g : PropertyGraph) (params : List (List ℕ × Datum)) (columns : ColumnList) where
  -- the values of the items in a row
  abbrev pub output_row : List Tree → List Datum → Result (List Datum) DataFault
  output_row es row = each (value_of g params (row_scope columns row)) es

  -- an output row, and the incoming row behind it
  abbrev pub output_of : List Tree → List Datum → Result Sortable DataFault
  output_of es row = output_row es row >>= λ out. Ok (out, out ++ row)

  -- a row for each row; `*` puts out each as it is
  abbrev pub row_outputs : ReturnItems → RowList → Result (List Sortable) DataFault
  row_outputs items.All rows = Ok (all_alone rows)
  row_outputs (items.Listed is) rows = each (output_of (map (λ (i : ReturnItem). tree_of i.value) is)) rows

  abbrev pub plain_outputs : SetQuantifier → ReturnItems → RowList → Result (List Sortable) DataFault
  plain_outputs quantifier.All is rows = row_outputs is rows
  plain_outputs quantifier.Distinct is rows = row_outputs is rows >>= λ outs. Ok (distinct_outputs outs)

  -- a row for each group
  abbrev pub grouped_outputs : SetQuantifier → List Tree → RowList → Result (List Sortable) DataFault
  grouped_outputs quantifier.All es rows = grouped_rows g params columns es rows >>= λ outs. Ok (all_alone outs)
  grouped_outputs quantifier.Distinct es rows = grouped_rows g params columns es rows >>= λ outs. Ok (all_alone (distinct_rows outs))

  abbrev pub outputs : Return → RowList → Result (List Sortable) DataFault
  outputs r rows =
      if is_grouped columns r
      then grouped_outputs r.quantifier (output_trees columns r.items) rows
      else plain_outputs r.quantifier r.items rows

  abbrev pub returned_rows : Return → RowList → Result RowList DataFault
  returned_rows r rows = outputs r rows >>= paged g params (sort_key_columns columns r) r.order r.skip r.limit
