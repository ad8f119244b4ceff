-- What RETURN gives, and what its sort keys see.
use Rattle.std.specs.Prelude.{ℕ, Bool, true, false, not, ◌||◌, List, [], ◌∷◌, ◌++◌, map, is_some, if◌then◌else◌}
use Rattle.std.specs.List.{list_any}
use Rattle.gql_values3.specs.declared.table.ColumnKind.{ColumnKind}
use Rattle.gql_ast.specs.Tree.{Tree, name}
use Rattle.gql_ast.specs.Meaning.{tree_of}
use Rattle.gql_ast.specs.Outputs.{item_column}
use Rattle.gql_ast.specs.ClauseColumns.{ColumnList, let_columns, for_columns, match_columns}
use Rattle.gql_ast.specs.InsertColumns.{change_columns}
use Rattle.gql_ast.specs.RowAggregates.{RowAggregate, row_aggregates}
use Rattle.gql_ast.specs.declared.clause.Clause.{Clause}
use Rattle.gql_ast.specs.declared.clause.Clause.TheVariants as clause
use Rattle.gql_ast.specs.declared.projection.Return.{Return}
use Rattle.gql_ast.specs.declared.projection.ReturnItem.{ReturnItem}
use Rattle.gql_ast.specs.declared.projection.ReturnItems.{ReturnItems}
use Rattle.gql_ast.specs.declared.projection.ReturnItems.TheVariants as items
use Rattle.gql_ast.specs.declared.words.SetQuantifier.{SetQuantifier}
use Rattle.gql_ast.specs.declared.words.SetQuantifier.TheVariants as quantifier

-- the columns that RETURN gives; `*` gives all columns in order
abbrev pub output_columns : ColumnList → ReturnItems → ColumnList
output_columns columns items.All = columns
output_columns columns (items.Listed is) = map (item_column columns) is

-- the expressions of the output columns
abbrev pub output_trees : ColumnList → ReturnItems → List Tree
output_trees columns items.All = map (λ (c : List ℕ × ColumnKind). name c.0) columns
output_trees columns (items.Listed is) = map (λ (i : ReturnItem). tree_of i.value) is

-- there is no aggregate over rows
abbrev pub has_none : List RowAggregate → Bool
has_none [] = true
has_none (a ∷ more) = false

-- an item without an aggregate over rows is a key
abbrev pub is_key : ColumnList → Tree → Bool
is_key columns e = has_none (row_aggregates columns e)

-- RETURN is grouped where it has GROUP BY or an item with an aggregate over rows
abbrev pub is_grouped : ColumnList → Return → Bool
is_grouped columns r = is_some r.grouping || list_any (λ e. not (is_key columns e)) (output_trees columns r.items)

-- DISTINCT stands there
abbrev pub is_distinct : SetQuantifier → Bool
is_distinct quantifier.Distinct = true
is_distinct quantifier.All = false

-- the columns that sort keys see: without DISTINCT and grouping also the incoming ones, an output name winning
abbrev pub sort_columns : ColumnList → Return → ColumnList
sort_columns columns r =
    if is_grouped columns r || is_distinct r.quantifier
    then output_columns columns r.items
    else output_columns columns r.items ++ columns

-- the columns behind a clause; of the patterns of MATCH a node alone counts here, and all in `columns_after` of gql_norm
abbrev pub columns_behind : ColumnList → Clause → ColumnList
columns_behind columns (clause.Match m) = match_columns columns m.pattern
columns_behind columns (clause.Let is) = let_columns columns is
columns_behind columns (clause.For f) = for_columns columns f
columns_behind columns (clause.Return r) = output_columns columns r.items
columns_behind columns (clause.Change c) = change_columns columns c
columns_behind columns _ = columns
