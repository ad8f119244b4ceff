-- How a grouped RETURN is worked out: what is prepared of its items, what is kept of each row, the groups of rows, and
-- the row that a group gives. It comes to the rows of `Grouping`.
use Rattle.std.specs.Prelude.{ℕ, zero, suc, Bool, List, [], ◌∷◌, ◌++◌, ◌+◌, length, map, take, drop, Result, Ok, if◌then◌else◌}
use Rattle.std.specs.List.{list_any}
use Rattle.gql_values3.specs.Datum.{Datum}
use Rattle.gql_values3.specs.PropertyGraph.{PropertyGraph}
use Rattle.gql_values3.specs.declared.table.ColumnKind.TheVariants as kind
use Rattle.gql_ast.specs.Tree.{Tree}
use Rattle.gql_ast.specs.Faults.{◌>>=◌, each}
use Rattle.gql_ast.specs.ClauseColumns.{ColumnList}
use Rattle.gql_ast.specs.Projections.{has_none}
use Rattle.gql_ast.specs.RowAggregates.{RowAggregate, row_aggregates, around, result_name}
use Rattle.gql_ast.specs.declared.fault.DataFault.{DataFault}
use Rattle.gql_eval.specs.Preparation.{Preparation}
use Rattle.gql_eval.specs.RowLists.{RowList}
use Rattle.gql_table.specs.Distinct.{same_row}
use Rattle.gql_table.specs.Machinery.Preparations.{prepared_under, prepared_value}
use Rattle.gql_table.specs.Sorting.{first_key, later_keys}
use Rattle.gql_table.specs.Grouping.{results}

-- an item, its aggregates over rows, the names of their results, and the expression around these
pub record ItemPlan : Type 0 where
  pub tree : Tree
  pub aggregates : List RowAggregate
  pub names : ColumnList
  pub whole : Tree

-- so many names of results, from place n on
abbrev pub names_from : ℕ → ℕ → ColumnList
names_from n zero = []
names_from n (suc count) = (result_name n, kind.Plain) ∷ names_from (suc n) count

abbrev pub planned : ColumnList → Tree → ItemPlan
planned columns e = record {
  tree = e;
  aggregates = row_aggregates columns e;
  names = names_from 0 (length (row_aggregates columns e));
  whole = around columns 0 e;
}

-- what is evaluated of the item in each row: the key, or the arguments of its aggregates
abbrev pub noted_trees : ItemPlan → List Tree
noted_trees p = if has_none p.aggregates then p.tree ∷ [] else map (λ (a : RowAggregate). a.argument) p.aggregates

-- what is prepared of an item: its aggregates over rows, what is evaluated in each row, and what is evaluated in the
-- results of each group
pub record PreparedPlan : Type 0 where
  pub aggregates : List RowAggregate
  pub noted : List Preparation
  pub whole : Preparation

abbrev pub prepared_plan : ColumnList → List (List ℕ × Datum) → ItemPlan → PreparedPlan
prepared_plan columns params p = record {
  aggregates = p.aggregates;
  noted = map (prepared_under columns params) (noted_trees p);
  whole = prepared_under p.names params p.whole;
}

-- what is kept of a row: the keys, and the arguments of the aggregates of all items
abbrev pub Kept : Type 0
Kept = List Datum × List Datum

-- a key's value, or the arguments of an item, join what is kept
abbrev pub kept_with : PreparedPlan → Kept → List Datum → Kept
kept_with p kept note = if has_none p.aggregates then (kept.0 ++ note, kept.1) else (kept.0, kept.1 ++ note)

-- a group: its key, and the arguments of its rows
abbrev pub Gathered : Type 0
Gathered = List Datum × RowList

-- a row joins the group of its key; where there is none, it begins one at the end
abbrev pub joined_group : List Gathered → List Datum → List Datum → List Gathered
joined_group [] key row = (key, row ∷ []) ∷ []
joined_group (g ∷ gs) key row = if same_row g.0 key then (g.0, g.1 ++ row ∷ []) ∷ gs else g ∷ joined_group gs key row

-- rows with their keys join groups
abbrev pub gathered_rows : List Gathered → RowList → RowList → List Gathered
gathered_rows gs (key ∷ keys) (row ∷ rows) = gathered_rows (joined_group gs key row) keys rows
gathered_rows gs _ _ = gs

-- without a key there is one group, also over no rows
abbrev pub all_groups : Bool → RowList → RowList → List Gathered
all_groups keyed keys rows = if keyed then gathered_rows [] keys rows else ([], rows) ∷ []

abbrev pub has_key : List PreparedPlan → Bool
has_key plan = list_any (λ (p : PreparedPlan). has_none p.aggregates) plan

-- the results of the items from some on, behind those of the items before
abbrev pub results_behind : List Datum → List PreparedPlan → RowList → Result (List Datum) DataFault
results_behind done [] rows = Ok done
results_behind done (p ∷ ps) rows = results (length done) p.aggregates rows >>= λ ds. results_behind (done ++ ds) ps rows

-- how many results the items have
abbrev pub result_count : List PreparedPlan → ℕ
result_count [] = 0
result_count (p ∷ ps) = length p.aggregates + result_count ps

-- the keys that are left behind an item
abbrev pub keys_behind : PreparedPlan → List Datum → List Datum
keys_behind p keys = if has_none p.aggregates then later_keys keys else keys

module _ (g : PropertyGraph) where
  -- the value of a key, or the arguments of an item's aggregates
  abbrev pub note_in : PreparedPlan → List Datum → Result (List Datum) DataFault
  note_in p row = each (λ (q : Preparation). prepared_value g q row) p.noted

  -- what is kept of a row, behind what is kept of it already
  abbrev pub kept_behind : Kept → List PreparedPlan → List Datum → Result Kept DataFault
  kept_behind kept [] row = Ok kept
  kept_behind kept (p ∷ ps) row = note_in p row >>= λ note. kept_behind (kept_with p kept note) ps row

  -- the keys and the arguments of all rows, behind those of the rows before
  abbrev pub rows_kept_behind : RowList → RowList → List PreparedPlan → RowList → Result (RowList × RowList) DataFault
  rows_kept_behind keys arguments plan [] = Ok (keys, arguments)
  rows_kept_behind keys arguments plan (row ∷ rows) =
      kept_behind ([], []) plan row >>= λ kept. rows_kept_behind (keys ++ kept.0 ∷ []) (arguments ++ kept.1 ∷ []) plan rows

  -- the value of an item: the first key that is left, or the expression around the results of its aggregates
  abbrev pub value_in_group : PreparedPlan → List Datum → List Datum → Result Datum DataFault
  value_in_group p keys part = if has_none p.aggregates then Ok (first_key keys) else prepared_value g p.whole part

  -- the values of the items, of the keys and the results that are left
  abbrev pub values_in_group : List PreparedPlan → List Datum → List Datum → Result (List Datum) DataFault
  values_in_group [] keys done = Ok []
  values_in_group (p ∷ ps) keys done =
      value_in_group p keys (take (length p.aggregates) done) >>= λ d. values_in_group ps (keys_behind p keys) (drop (length p.aggregates) done) >>= λ ds. Ok (d ∷ ds)

  -- the row of a group
  abbrev pub row_of_group : List PreparedPlan → Gathered → Result (List Datum) DataFault
  row_of_group plan group = results_behind [] plan group.1 >>= λ done. values_in_group plan group.0 done

  -- the rows of all groups
  abbrev pub rows_of_groups : List PreparedPlan → RowList × RowList → Result RowList DataFault
  rows_of_groups plan kept = each (row_of_group plan) (all_groups (has_key plan) kept.0 kept.1)

  -- the rows of a grouped RETURN
  abbrev pub rows_with_plan : List PreparedPlan → RowList → Result RowList DataFault
  rows_with_plan plan rows = rows_kept_behind [] [] plan rows >>= rows_of_groups plan
