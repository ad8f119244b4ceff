-- Under which clauses rows go on fitting their columns: all, but for a grouped `*` where two columns have one name.
use Rattle.std.specs.Prelude.{Bool, true, false, not, ◌||◌, ◌&&◌, is_some}
use Rattle.gql_values3.specs.Rows.{are_columns}
use Rattle.gql_ast.specs.declared.clause.Clause.{Clause}
use Rattle.gql_ast.specs.declared.clause.Clause.TheVariants as clause
use Rattle.gql_ast.specs.declared.projection.ReturnItems.{ReturnItems}
use Rattle.gql_ast.specs.declared.projection.ReturnItems.TheVariants as items
use Rattle.gql_ast.specs.ClauseColumns.{ColumnList}

-- the items are `*`
abbrev pub is_all : ReturnItems → Bool
is_all items.All = true
is_all (items.Listed is) = false

-- a grouped `*` has the value of each column by the column's name
abbrev pub goes_by_names : Clause → Bool
goes_by_names (clause.Return r) = is_all r.items && is_some r.grouping
goes_by_names _ = false

-- where a clause has all columns by their names, these differ: of two columns of one name, the value of the first would
-- stand in both
abbrev pub names_serve : ColumnList → Clause → Bool
names_serve columns c = not (goes_by_names c) || are_columns columns
