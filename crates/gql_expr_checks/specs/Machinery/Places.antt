-- Where an expression stands in the code, and the columns that it sees there: within an aggregate over a group, the
-- group's name is an item.
use Rattle.std.specs.Prelude.{Bool, ◌||◌, ◌&&◌, ◌∷◌, Some, None}
use Rattle.gql_ast.specs.Tree.{Tree}
use Rattle.gql_ast.specs.ClauseColumns.{ColumnList}
use Rattle.gql_ast.specs.Outputs.{kind_of_name, element_kind}
use Rattle.gql_expr_checks.specs.ExprMisuses as misuses
use Rattle.gql_expr_checks.specs.declared.misuses.Place.{Place}
use Rattle.gql_expr_checks.specs.declared.misuses.Place.TheVariants as place

abbrev pub place_of : Place → misuses.Place
place_of place.Item = misuses.item
place_of place.Elsewhere = misuses.elsewhere
place_of (place.Within group) = misuses.within

abbrev pub columns_at : ColumnList → Place → ColumnList
columns_at columns place.Item = columns
columns_at columns place.Elsewhere = columns
columns_at columns (place.Within None) = columns
columns_at columns (place.Within (Some x)) = (x.now, element_kind (kind_of_name columns x.now)) ∷ columns

-- an aggregate of the argument outside other aggregates is misused, where aggregates over rows are barred or not
abbrev pub argument_misused : ColumnList → Bool → Tree → Bool
argument_misused columns bars e =
    misuses.are_two (misuses.groups_in columns e) || (misuses.is_over_rows (misuses.groups_in columns e) && bars)
    || misuses.misused (misuses.item_columns columns (misuses.groups_in columns e)) misuses.within e

-- an aggregate of the argument is misused
abbrev pub aggregate_misused : ColumnList → misuses.Place → Tree → Bool
aggregate_misused columns p e =
    misuses.bars_aggregates p || misuses.are_two (misuses.groups_in columns e) || (misuses.is_over_rows (misuses.groups_in columns e) && misuses.bars_rows p)
    || misuses.misused (misuses.item_columns columns (misuses.groups_in columns e)) misuses.within e
