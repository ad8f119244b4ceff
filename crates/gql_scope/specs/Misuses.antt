-- E15 MISUSE: an aggregate inside an aggregate, an aggregate's argument that names two groups, an aggregate over rows
-- outside the items of RETURN, or a property or an IS test of a group outside an aggregate over it.
use Rattle.std.specs.Prelude.{Bool, false, ◌||◌, List, [], ◌∷◌, ◌++◌, Option, Some, None}
use Rattle.std.specs.List.{list_any}
use Rattle.gql_values3.specs.declared.table.ColumnKind.{ColumnKind}
use Rattle.gql_ast.specs.Meaning.{tree_of}
use Rattle.gql_ast.specs.Outputs.{kind_of}
use Rattle.gql_ast.specs.ClauseColumns.{ColumnList}
use Rattle.gql_ast.specs.InsertColumns.{insert_spots}
use Rattle.gql_ast.specs.Projections.{sort_columns}
use Rattle.gql_ast.specs.declared.change.ChangeClause.{ChangeClause}
use Rattle.gql_ast.specs.declared.change.ChangeClause.TheVariants as change
use Rattle.gql_ast.specs.declared.change.Fill.{Fill}
use Rattle.gql_ast.specs.declared.change.SetItem.{SetItem}
use Rattle.gql_ast.specs.declared.change.SetItem.TheVariants as set_item
use Rattle.gql_ast.specs.declared.clause.Clause.{Clause}
use Rattle.gql_ast.specs.declared.clause.Clause.TheVariants as clause
use Rattle.gql_ast.specs.declared.clause.LetItem.{LetItem}
use Rattle.gql_ast.specs.declared.filler.MapItem.{MapItem}
use Rattle.gql_ast.specs.declared.page.Page.{Page}
use Rattle.gql_ast.specs.declared.page.Page.TheVariants as page
use Rattle.gql_ast.specs.declared.page.SortItem.{SortItem}
use Rattle.gql_ast.specs.declared.projection.ReturnItem.{ReturnItem}
use Rattle.gql_ast.specs.declared.projection.ReturnItems.{ReturnItems}
use Rattle.gql_ast.specs.declared.projection.ReturnItems.TheVariants as items
use Rattle.gql_expr_checks.specs.ExprMisuses.{misused_expr, elsewhere, item}

-- in LET, whose later items see the names of those before
abbrev pub misused_let : ColumnList → List LetItem → Bool
misused_let columns [] = false
misused_let columns (i ∷ is) = misused_expr columns elsewhere i.value || misused_let (columns ++ (i.name, kind_of columns (tree_of i.value)) ∷ []) is

-- in the keys of ORDER BY
abbrev pub misused_keys : ColumnList → List SortItem → Bool
misused_keys columns is = list_any (λ (i : SortItem). misused_expr columns elsewhere i.key) is

-- in an ORDER BY, where there is one
abbrev pub misused_order : ColumnList → Option (List SortItem) → Bool
misused_order columns None = false
misused_order columns (Some is) = misused_keys columns is

-- in a clause of ORDER BY, OFFSET and LIMIT, in which the keys alone are expressions
abbrev pub misused_page : ColumnList → Page → Bool
misused_page columns (page.Order is skip limit) = misused_keys columns is
misused_page columns _ = false

-- in the items of RETURN, where aggregates over rows may stand
abbrev pub misused_items : ColumnList → ReturnItems → Bool
misused_items columns items.All = false
misused_items columns (items.Listed is) = list_any (λ (i : ReturnItem). misused_expr columns item i.value) is

-- in the values of a map
abbrev pub misused_map : ColumnList → Option (List MapItem) → Bool
misused_map columns None = false
misused_map columns (Some is) = list_any (λ (i : MapItem). misused_expr columns elsewhere i.value) is

-- in the value that SET gives a property
abbrev pub misused_set : ColumnList → SetItem → Bool
misused_set columns (set_item.Property x p e) = misused_expr columns elsewhere e
misused_set columns (set_item.Label x l) = false

-- in a clause that changes data
abbrev pub misused_change : ColumnList → ChangeClause → Bool
misused_change columns (change.Insert ps) = list_any (λ (s : ColumnKind × Fill). misused_map columns s.1.map) (insert_spots ps)
misused_change columns (change.Set is) = list_any (misused_set columns) is
misused_change columns _ = false

-- of a clause that is no MATCH; of a MATCH `WholePatterns` says what its pattern does wrong
abbrev pub misused_clause : ColumnList → Clause → Bool
misused_clause columns (clause.Match m) = false
misused_clause columns (clause.Let is) = misused_let columns is
misused_clause columns (clause.Filter e) = misused_expr columns elsewhere e
misused_clause columns (clause.For f) = misused_expr columns elsewhere f.list
misused_clause columns (clause.Page p) = misused_page columns p
misused_clause columns (clause.Return r) = misused_items columns r.items || misused_order (sort_columns columns r) r.order
misused_clause columns (clause.Change c) = misused_change columns c
