-- E08 VARIABLE: an expression, SET, REMOVE or DELETE names a variable that isn't in scope; LET or FOR declares a name that
-- is taken; an INSERT variable that stands already has labels or a map, or is an edge's. Here stand the names at fault in
-- the order of the text.
use Rattle.std.specs.Prelude.{ℕ, Bool, true, false, not, ◌&&◌, List, [], ◌∷◌, ◌++◌, Option, Some, None, if◌then◌else◌}
use Rattle.std.specs.List.{flat_map}
use Rattle.gql_values3.specs.declared.table.ColumnKind.{ColumnKind}
use Rattle.gql_values3.specs.declared.table.ColumnKind.TheVariants as kind
use Rattle.gql_ast.specs.Meaning.{tree_of}
use Rattle.gql_ast.specs.Outputs.{kind_of}
use Rattle.gql_ast.specs.ClauseColumns.{ColumnList, is_column}
use Rattle.gql_ast.specs.InsertColumns.{Spots, insert_spots, with_variable}
use Rattle.gql_ast.specs.Projections.{sort_columns}
use Rattle.gql_ast.specs.declared.change.ChangeClause.{ChangeClause}
use Rattle.gql_ast.specs.declared.change.ChangeClause.TheVariants as change
use Rattle.gql_ast.specs.declared.change.Fill.{Fill}
use Rattle.gql_ast.specs.declared.change.RemoveItem.{RemoveItem}
use Rattle.gql_ast.specs.declared.change.RemoveItem.TheVariants as remove_item
use Rattle.gql_ast.specs.declared.change.SetItem.{SetItem}
use Rattle.gql_ast.specs.declared.change.SetItem.TheVariants as set_item
use Rattle.gql_ast.specs.declared.clause.Clause.{Clause}
use Rattle.gql_ast.specs.declared.clause.Clause.TheVariants as clause
use Rattle.gql_ast.specs.declared.clause.Counting.{Counting}
use Rattle.gql_ast.specs.declared.clause.For.{For}
use Rattle.gql_ast.specs.declared.clause.LetItem.{LetItem}
use Rattle.gql_ast.specs.declared.filler.MapItem.{MapItem}
use Rattle.gql_ast.specs.declared.page.Page.{Page}
use Rattle.gql_ast.specs.declared.page.Page.TheVariants as page
use Rattle.gql_ast.specs.declared.page.SortItem.{SortItem}
use Rattle.gql_ast.specs.declared.projection.Return.{Return}
use Rattle.gql_ast.specs.declared.projection.ReturnItem.{ReturnItem}
use Rattle.gql_ast.specs.declared.projection.ReturnItems.{ReturnItems}
use Rattle.gql_ast.specs.declared.projection.ReturnItems.TheVariants as items
use Rattle.gql_expr_checks.specs.ExprNames.{unknown_in_expr}

-- a declared name that is a column already
abbrev pub taken : ColumnList → List ℕ → List (List ℕ)
taken columns x = if is_column columns x then x ∷ [] else []

-- a LET's name stands before its expression, and later items see it
abbrev pub unknown_in_let : ColumnList → List LetItem → List (List ℕ)
unknown_in_let columns [] = []
unknown_in_let columns (i ∷ is) =
    taken columns i.name ++ unknown_in_expr columns i.value ++ unknown_in_let (columns ++ (i.name, kind_of columns (tree_of i.value)) ∷ []) is

-- a FOR's counter may not bear the item's name either
abbrev pub unknown_in_counter : ColumnList → Option (Counting × List ℕ) → List (List ℕ)
unknown_in_counter columns None = []
unknown_in_counter columns (Some c) = taken columns c.1

-- in FOR, whose list sees the incoming columns alone
abbrev pub unknown_in_for : ColumnList → For → List (List ℕ)
unknown_in_for columns f =
    taken columns f.name ++ unknown_in_expr columns f.list ++ unknown_in_counter (columns ++ (f.name, kind.Plain) ∷ []) f.counter

-- in the keys of ORDER BY
abbrev pub unknown_in_keys : ColumnList → List SortItem → List (List ℕ)
unknown_in_keys columns is = flat_map (λ (i : SortItem). unknown_in_expr columns i.key) is

-- in an ORDER BY, where there is one
abbrev pub unknown_in_order : ColumnList → Option (List SortItem) → List (List ℕ)
unknown_in_order columns None = []
unknown_in_order columns (Some is) = unknown_in_keys columns is

-- in a clause of ORDER BY, OFFSET and LIMIT
abbrev pub unknown_in_page : ColumnList → Page → List (List ℕ)
unknown_in_page columns (page.Order is skip limit) = unknown_in_keys columns is
unknown_in_page columns _ = []

-- in the items of RETURN
abbrev pub unknown_in_items : ColumnList → ReturnItems → List (List ℕ)
unknown_in_items columns items.All = []
unknown_in_items columns (items.Listed is) = flat_map (λ (i : ReturnItem). unknown_in_expr columns i.value) is

-- GROUP BY names output columns, and its faults are E16
abbrev pub unknown_in_return : ColumnList → Return → List (List ℕ)
unknown_in_return columns r = unknown_in_items columns r.items ++ unknown_in_order (sort_columns columns r) r.order

-- a node without labels and a map may be one that stands already
abbrev pub may_refer : ColumnKind → Option (List (List ℕ)) → Option (List MapItem) → Bool
may_refer kind.Node None None = true
may_refer _ _ _ = false

-- the variable of an element of INSERT, where it stands already and what else is written bars that
abbrev pub misplaced : ColumnList → ColumnKind → Fill → Option (List ℕ) → List (List ℕ)
misplaced columns k f None = []
misplaced columns k f (Some x) = if is_column columns x && not (may_refer k f.labels f.map) then x ∷ [] else []

-- in the values of a map
abbrev pub unknown_in_map : ColumnList → Option (List MapItem) → List (List ℕ)
unknown_in_map columns None = []
unknown_in_map columns (Some is) = flat_map (λ (i : MapItem). unknown_in_expr columns i.value) is

-- the expressions of an INSERT see the incoming columns alone
abbrev pub unknown_in_spots : ColumnList → ColumnList → Spots → List (List ℕ)
unknown_in_spots incoming columns [] = []
unknown_in_spots incoming columns (s ∷ ss) =
    misplaced columns s.0 s.1 s.1.variable ++ unknown_in_map incoming s.1.map ++ unknown_in_spots incoming (with_variable columns s.0 s.1.variable) ss

-- a target that is no column
abbrev pub missing : ColumnList → List ℕ → List (List ℕ)
missing columns x = if is_column columns x then [] else x ∷ []

-- in an item of SET, its target first
abbrev pub unknown_in_set : ColumnList → SetItem → List (List ℕ)
unknown_in_set columns (set_item.Property x p e) = missing columns x ++ unknown_in_expr columns e
unknown_in_set columns (set_item.Label x l) = missing columns x

-- in an item of REMOVE, which names its target alone
abbrev pub unknown_in_remove : ColumnList → RemoveItem → List (List ℕ)
unknown_in_remove columns (remove_item.Property x p) = missing columns x
unknown_in_remove columns (remove_item.Label x l) = missing columns x

-- in a clause that changes data
abbrev pub unknown_in_change : ColumnList → ChangeClause → List (List ℕ)
unknown_in_change columns (change.Insert ps) = unknown_in_spots columns columns (insert_spots ps)
unknown_in_change columns (change.Set is) = flat_map (unknown_in_set columns) is
unknown_in_change columns (change.Remove is) = flat_map (unknown_in_remove columns) is
unknown_in_change columns (change.Delete d xs) = flat_map (missing columns) xs

-- of a clause that is no MATCH; of a MATCH `WholePatterns` says what its pattern does wrong
abbrev pub unknown_in_clause : ColumnList → Clause → List (List ℕ)
unknown_in_clause columns (clause.Match m) = []
unknown_in_clause columns (clause.Let is) = unknown_in_let columns is
unknown_in_clause columns (clause.Filter e) = unknown_in_expr columns e
unknown_in_clause columns (clause.For f) = unknown_in_for columns f
unknown_in_clause columns (clause.Page p) = unknown_in_page columns p
unknown_in_clause columns (clause.Return r) = unknown_in_return columns r
unknown_in_clause columns (clause.Change c) = unknown_in_change columns c
