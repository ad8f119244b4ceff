-- E09 KIND: an INSERT endpoint or a target of SET, REMOVE or DELETE is a column of another kind than is needed. Here stand the
-- names at fault in the order of the text; those of a MATCH stand in `WholePatterns`.
use Rattle.std.specs.Prelude.{ℕ, Bool, true, false, not, ◌&&◌, List, [], ◌∷◌, if◌then◌else◌}
use Rattle.std.specs.List.{flat_map}
use Rattle.gql_values3.specs.declared.table.ColumnKind.{ColumnKind}
use Rattle.gql_values3.specs.declared.table.ColumnKind.TheVariants as kind
use Rattle.gql_ast.specs.Outputs.{kind_of_name}
use Rattle.gql_ast.specs.ClauseColumns.{ColumnList, is_column}
use Rattle.gql_ast.specs.Endpoints.{wrong_in_spots}
use Rattle.gql_ast.specs.InsertColumns.{insert_spots}
use Rattle.gql_ast.specs.declared.change.ChangeClause.{ChangeClause}
use Rattle.gql_ast.specs.declared.change.ChangeClause.TheVariants as change
use Rattle.gql_ast.specs.declared.change.RemoveItem.{RemoveItem}
use Rattle.gql_ast.specs.declared.change.RemoveItem.TheVariants as remove_item
use Rattle.gql_ast.specs.declared.change.SetItem.{SetItem}
use Rattle.gql_ast.specs.declared.change.SetItem.TheVariants as set_item
use Rattle.gql_ast.specs.declared.clause.Clause.{Clause}
use Rattle.gql_ast.specs.declared.clause.Clause.TheVariants as clause

-- what SET, REMOVE and DELETE act on; a group is no element
abbrev pub is_element : ColumnKind → Bool
is_element kind.Node = true
is_element kind.Edge = true
is_element _ = false

-- a target that is a column and no element
abbrev pub wrong_target : ColumnList → List ℕ → List (List ℕ)
wrong_target columns x = if is_column columns x && not (is_element (kind_of_name columns x)) then x ∷ [] else []

-- the target of an item of SET
abbrev pub set_target : SetItem → List ℕ
set_target (set_item.Property x p e) = x
set_target (set_item.Label x l) = x

-- the target of an item of REMOVE
abbrev pub remove_target : RemoveItem → List ℕ
remove_target (remove_item.Property x p) = x
remove_target (remove_item.Label x l) = x

-- in a clause that changes data
abbrev pub wrong_in_change : ColumnList → ChangeClause → List (List ℕ)
wrong_in_change columns (change.Insert ps) = wrong_in_spots columns (insert_spots ps)
wrong_in_change columns (change.Set is) = flat_map (λ (i : SetItem). wrong_target columns (set_target i)) is
wrong_in_change columns (change.Remove is) = flat_map (λ (i : RemoveItem). wrong_target columns (remove_target i)) is
wrong_in_change columns (change.Delete d xs) = flat_map (wrong_target columns) xs

-- of a clause that is no MATCH
abbrev pub wrong_in_clause : ColumnList → Clause → List (List ℕ)
wrong_in_clause columns (clause.Change c) = wrong_in_change columns c
wrong_in_clause columns _ = []
