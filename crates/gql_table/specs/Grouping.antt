-- Grouping: the rows of a RETURN with GROUP BY, or with an aggregate over rows, one for each group of equal keys.
-- First every key and every argument of an aggregate is evaluated, row by row; then, group by group, the results of all
-- aggregates and the items around them.
use Rattle.std.specs.Prelude.{ℕ, suc, List, [], ◌∷◌, ◌++◌, map, filter, slice_index_or, Result, Ok, if◌then◌else◌}
use Rattle.std.specs.List.{list_any}
use Rattle.gql_values3.specs.Datum.{Datum, null}
use Rattle.gql_values3.specs.PropertyGraph.{PropertyGraph}
use Rattle.gql_values3.specs.declared.table.ColumnKind.TheVariants as kind
use Rattle.gql_ast.specs.Tree.{Tree}
use Rattle.gql_ast.specs.Scope.{row_scope}
use Rattle.gql_ast.specs.Faults.{◌>>=◌, each}
use Rattle.gql_ast.specs.Evaluation.{value_of}
use Rattle.gql_ast.specs.Aggregates.{considered, aggregated}
use Rattle.gql_ast.specs.RowAggregates.{RowAggregate, row_aggregates, around, result_name}
use Rattle.gql_ast.specs.declared.fault.DataFault.{DataFault}
use Rattle.gql_eval.specs.RowLists.{RowList}
use Rattle.gql_ast.specs.ClauseColumns.{ColumnList}
use Rattle.gql_ast.specs.Projections.{is_key}
use Rattle.gql_table.specs.Distinct.{same_row, distinct_rows}

-- what is noted of a row: for each item the value of the key, or the arguments of the item's aggregates
abbrev pub Note : Type 0
Note = List (List Datum)

module _ (columns : ColumnList) where
  -- the keys among what is noted
  abbrev pub key_in : List Tree → Note → List Datum
  key_in (e ∷ es) (n ∷ ns) = if is_key columns e then n ++ key_in es ns else key_in es ns
  key_in _ _ = []

  -- the keys of the groups, in the order of their first rows; without a key there is one group, also over no rows
  abbrev pub group_keys : List Tree → List Note → RowList
  group_keys items notes = if list_any (is_key columns) items then distinct_rows (map (key_in items) notes) else [] ∷ []

  -- the rows of a key's group
  abbrev pub group_with : List Tree → List Note → List Datum → List Note
  group_with items notes key = filter (λ n. same_row key (key_in items n)) notes

  abbrev pub groups_of : List Tree → List Note → List (List Note)
  groups_of items notes = map (group_with items notes) (group_keys items notes)

-- what is noted for the item of place i, row by row
abbrev pub notes_at : ℕ → List Note → RowList
notes_at i notes = map (λ (n : Note). slice_index_or n i []) notes

-- the results of aggregates over their arguments, which stand from place j on
abbrev pub results : ℕ → List RowAggregate → RowList → Result (List Datum) DataFault
results j [] arguments = Ok []
results j (a ∷ more) arguments =
    aggregated a.makes (considered a.quantifier (map (λ (r : List Datum). slice_index_or r j null) arguments)) >>= λ d. results (suc j) more arguments >>= λ ds. Ok (d ∷ ds)

-- the names of results, from place n on
abbrev pub result_columns : ℕ → List Datum → ColumnList
result_columns n [] = []
result_columns n (d ∷ ds) = (result_name n, kind.Plain) ∷ result_columns (suc n) ds

module _ (g : PropertyGraph) (params : List (List ℕ × Datum)) (columns : ColumnList) where
  abbrev pub note_of : Tree → List Datum → Result (List Datum) DataFault
  note_of e row =
      if is_key columns e then (value_of g params (row_scope columns row) e >>= λ d. Ok (d ∷ []))
      else each (λ (a : RowAggregate). value_of g params (row_scope columns row) a.argument) (row_aggregates columns e)

  abbrev pub note_row : List Tree → List Datum → Result Note DataFault
  note_row items row = each (λ e. note_of e row) items

  -- of a group the value of a key, which its first row has, or the results of an item's aggregates
  abbrev pub group_part : Tree → RowList → Result (List Datum) DataFault
  group_part e [] = if is_key columns e then Ok [] else results 0 (row_aggregates columns e) []
  group_part e (n ∷ ns) = if is_key columns e then Ok n else results 0 (row_aggregates columns e) (n ∷ ns)

  abbrev pub group_parts : ℕ → List Tree → List Note → Result (List (List Datum)) DataFault
  group_parts i [] group = Ok []
  group_parts i (e ∷ es) group = group_part e (notes_at i group) >>= λ p. group_parts (suc i) es group >>= λ ps. Ok (p ∷ ps)

  -- the item around the results; it names no column
  abbrev pub item_value : Tree → List Datum → Result Datum DataFault
  item_value e part =
      if is_key columns e then Ok (slice_index_or part 0 null)
      else value_of g params (row_scope (result_columns 0 part) part) (around columns 0 e)

  abbrev pub item_values : List Tree → List (List Datum) → Result (List Datum) DataFault
  item_values (e ∷ es) (p ∷ ps) = item_value e p >>= λ d. item_values es ps >>= λ ds. Ok (d ∷ ds)
  item_values _ _ = Ok []

  -- the row of a group
  abbrev pub group_row : List Tree → List Note → Result (List Datum) DataFault
  group_row items group = group_parts 0 items group >>= item_values items

  abbrev pub grouped_rows : List Tree → RowList → Result RowList DataFault
  grouped_rows items rows = each (note_row items) rows >>= λ notes. each (group_row items) (groups_of columns items notes)
