-- E23 PARAM: a parameter isn't set. Here stand the names at fault in the order of the text.
use Rattle.std.specs.Prelude.{ℕ, List, [], ◌∷◌, ◌++◌, Option, Some, None}
use Rattle.std.specs.List.{flat_map}
use Rattle.gql_values3.specs.declared.table.ColumnKind.{ColumnKind}
use Rattle.gql_ast.specs.InsertColumns.{insert_spots}
use Rattle.gql_ast.specs.declared.change.ChangeClause.{ChangeClause}
use Rattle.gql_ast.specs.declared.change.ChangeClause.TheVariants as change
use Rattle.gql_ast.specs.declared.change.Fill.{Fill}
use Rattle.gql_ast.specs.declared.change.SetItem.{SetItem}
use Rattle.gql_ast.specs.declared.change.SetItem.TheVariants as set_item
use Rattle.gql_ast.specs.declared.clause.Clause.{Clause}
use Rattle.gql_ast.specs.declared.clause.Clause.TheVariants as clause
use Rattle.gql_ast.specs.declared.clause.LetItem.{LetItem}
use Rattle.gql_ast.specs.declared.filler.MapItem.{MapItem}
use Rattle.gql_ast.specs.declared.page.Page.{Page}
use Rattle.gql_ast.specs.declared.page.Page.TheVariants as page
use Rattle.gql_ast.specs.declared.page.RowCount.{RowCount}
use Rattle.gql_ast.specs.declared.page.RowCount.TheVariants as rows
use Rattle.gql_ast.specs.declared.page.SortItem.{SortItem}
use Rattle.gql_ast.specs.declared.projection.Return.{Return}
use Rattle.gql_ast.specs.declared.projection.ReturnItem.{ReturnItem}
use Rattle.gql_ast.specs.declared.projection.ReturnItems.{ReturnItems}
use Rattle.gql_ast.specs.declared.projection.ReturnItems.TheVariants as items
use Rattle.gql_expr_checks.specs.ExprParameters.{parameters_of}

-- in the keys of ORDER BY
abbrev pub parameters_of_keys : List SortItem → List (List ℕ)
parameters_of_keys is = flat_map (λ (i : SortItem). parameters_of i.key) is

-- in an ORDER BY, where there is one
abbrev pub parameters_of_order : Option (List SortItem) → List (List ℕ)
parameters_of_order None = []
parameters_of_order (Some is) = parameters_of_keys is

-- of OFFSET or LIMIT, where its number is a parameter
abbrev pub parameters_of_count : RowCount → List (List ℕ)
parameters_of_count (rows.Number digits) = []
parameters_of_count (rows.Parameter p) = p ∷ []

-- of OFFSET or LIMIT, where it stands there
abbrev pub parameters_of_count_if : Option RowCount → List (List ℕ)
parameters_of_count_if None = []
parameters_of_count_if (Some c) = parameters_of_count c

-- in a clause of ORDER BY, OFFSET and LIMIT
abbrev pub parameters_of_page : Page → List (List ℕ)
parameters_of_page (page.Order is skip limit) = parameters_of_keys is ++ parameters_of_count_if skip ++ parameters_of_count_if limit
parameters_of_page (page.Skip skip limit) = parameters_of_count skip ++ parameters_of_count_if limit
parameters_of_page (page.Limit limit) = parameters_of_count limit

-- in the items of RETURN
abbrev pub parameters_of_items : ReturnItems → List (List ℕ)
parameters_of_items items.All = []
parameters_of_items (items.Listed is) = flat_map (λ (i : ReturnItem). parameters_of i.value) is

-- in RETURN with its ORDER BY, OFFSET and LIMIT
abbrev pub parameters_of_return : Return → List (List ℕ)
parameters_of_return r = parameters_of_items r.items ++ parameters_of_order r.order ++ parameters_of_count_if r.skip ++ parameters_of_count_if r.limit

-- in the values of a map
abbrev pub parameters_of_map : Option (List MapItem) → List (List ℕ)
parameters_of_map None = []
parameters_of_map (Some is) = flat_map (λ (i : MapItem). parameters_of i.value) is

-- in the value that SET gives a property
abbrev pub parameters_of_set : SetItem → List (List ℕ)
parameters_of_set (set_item.Property x p e) = parameters_of e
parameters_of_set (set_item.Label x l) = []

-- in a clause that changes data
abbrev pub parameters_of_change : ChangeClause → List (List ℕ)
parameters_of_change (change.Insert ps) = flat_map (λ (s : ColumnKind × Fill). parameters_of_map s.1.map) (insert_spots ps)
parameters_of_change (change.Set is) = flat_map parameters_of_set is
parameters_of_change _ = []

-- of a clause that is no MATCH; those of a MATCH stand in `WholePatterns`
abbrev pub parameters_of_clause : Clause → List (List ℕ)
parameters_of_clause (clause.Match m) = []
parameters_of_clause (clause.Let is) = flat_map (λ (i : LetItem). parameters_of i.value) is
parameters_of_clause (clause.Filter e) = parameters_of e
parameters_of_clause (clause.For f) = parameters_of f.list
parameters_of_clause (clause.Page p) = parameters_of_page p
parameters_of_clause (clause.Return r) = parameters_of_return r
parameters_of_clause (clause.Change c) = parameters_of_change c
