-- E16 COLUMN: two output columns have one name; a map names a property twice; an item with an aggregate over rows names a
-- column outside it; GROUP BY names something else than a key, or one twice, or omits one; `RETURN *` has no column. Here
-- stands what is at fault, in the order of the text.
use Rattle.std.specs.Prelude.{ℕ, not, ◌&&◌, List, [], ◌∷◌, ◌++◌, map, filter, Option, Some, None, if◌then◌else◌}
use Rattle.std.specs.List.{flat_map}
use Rattle.gql_values3.specs.declared.table.ColumnKind.{ColumnKind}
use Rattle.gql_ast.specs.Tree.{Tree}
use Rattle.gql_ast.specs.Meaning.{tree_of}
use Rattle.gql_ast.specs.Outputs.{item_name}
use Rattle.gql_ast.specs.ClauseColumns.{ColumnList}
use Rattle.gql_ast.specs.InsertColumns.{insert_spots}
use Rattle.gql_ast.specs.Projections.{is_key}
use Rattle.gql_ast.specs.declared.change.ChangeClause.{ChangeClause}
use Rattle.gql_ast.specs.declared.change.ChangeClause.TheVariants as change
use Rattle.gql_ast.specs.declared.change.Fill.{Fill}
use Rattle.gql_ast.specs.declared.clause.Clause.{Clause}
use Rattle.gql_ast.specs.declared.clause.Clause.TheVariants as clause
use Rattle.gql_ast.specs.declared.filler.MapItem.{MapItem}
use Rattle.gql_ast.specs.declared.projection.Return.{Return}
use Rattle.gql_ast.specs.declared.projection.ReturnItem.{ReturnItem}
use Rattle.gql_ast.specs.declared.projection.ReturnItems.{ReturnItems}
use Rattle.gql_ast.specs.declared.projection.ReturnItems.TheVariants as items
use Rattle.gql_ast.specs.declared.refusal.ColumnRef.{ColumnRef}
use Rattle.gql_ast.specs.declared.refusal.ColumnRef.TheVariants as column
use Rattle.gql_expr_checks.specs.NamesOutside.{names_outside}
use Rattle.gql_expr_checks.specs.Repeated.{is_among, repeated}

module _ (columns : ColumnList) where
  -- an item with an aggregate over rows may name no column outside it
  abbrev pub columns_outside : Tree → List ColumnRef
  columns_outside e = if is_key columns e then [] else map column.Name (names_outside columns e)

  -- an output name that an item before has
  abbrev pub repeated_name : List (List ℕ) → List ℕ → List ColumnRef
  repeated_name seen x = if is_among seen x then column.Name x ∷ [] else []

  -- a name behind AS stands behind its expression; without AS the expression is the name, which so begins where the item does
  abbrev pub faults_at : Option (List ℕ) → List ColumnRef → List ColumnRef → List ColumnRef
  faults_at (Some x) outside again = outside ++ again
  faults_at None outside again = again ++ outside

  -- of an item of RETURN behind these output names
  abbrev pub faults_in_item : List (List ℕ) → ReturnItem → List ColumnRef
  faults_in_item seen i = faults_at i.name (columns_outside (tree_of i.value)) (repeated_name seen (item_name i))

  -- of items in order, each behind the output names before it
  abbrev pub faults_in_list : List (List ℕ) → List ReturnItem → List ColumnRef
  faults_in_list seen [] = []
  faults_in_list seen (i ∷ is) = faults_in_item seen i ++ faults_in_list (item_name i ∷ seen) is

  -- of all items; `RETURN *` needs a column
  abbrev pub faults_in_items : ReturnItems → List ColumnRef
  faults_in_items items.All = none columns
    where
      none : ColumnList → List ColumnRef
      none [] = column.All ∷ []
      none (c ∷ cs) = []
  faults_in_items (items.Listed is) = faults_in_list [] is

  -- the output names of the keys
  abbrev pub key_names : ReturnItems → List (List ℕ)
  key_names items.All = map (λ (c : List ℕ × ColumnKind). c.0) columns
  key_names (items.Listed is) = map item_name (filter (λ (i : ReturnItem). is_key columns (tree_of i.value)) is)

  -- names of GROUP BY that are no key, or stand a second time
  abbrev pub faults_in_names : List (List ℕ) → List (List ℕ) → List (List ℕ) → List ColumnRef
  faults_in_names keys seen [] = []
  faults_in_names keys seen (x ∷ xs) =
      if is_among keys x && not (is_among seen x) then faults_in_names keys (x ∷ seen) xs else column.Name x ∷ faults_in_names keys (x ∷ seen) xs

  -- keys that GROUP BY omits stand behind its last name
  abbrev pub omitted : List (List ℕ) → List (List ℕ) → List ColumnRef
  omitted keys names = map column.Name (filter (λ k. not (is_among names k)) keys)

  -- of GROUP BY, where it stands
  abbrev pub faults_in_grouping : List (List ℕ) → Option (List (List ℕ)) → List ColumnRef
  faults_in_grouping keys None = []
  faults_in_grouping keys (Some names) = faults_in_names keys [] names ++ omitted keys names

  -- of RETURN: its items, and then GROUP BY
  abbrev pub faults_in_return : Return → List ColumnRef
  faults_in_return r = faults_in_items r.items ++ faults_in_grouping (key_names r.items) r.grouping

-- of a map, whose properties differ
abbrev pub faults_in_map : Option (List MapItem) → List ColumnRef
faults_in_map None = []
faults_in_map (Some is) = map column.Property (repeated [] (map (λ (i : MapItem). i.name) is))

-- of a clause that changes data: of the maps of INSERT
abbrev pub faults_in_change : ChangeClause → List ColumnRef
faults_in_change (change.Insert ps) = flat_map (λ (s : ColumnKind × Fill). faults_in_map s.1.map) (insert_spots ps)
faults_in_change _ = []

-- of a clause that is no MATCH
abbrev pub faults_in_clause : ColumnList → Clause → List ColumnRef
faults_in_clause columns (clause.Return r) = faults_in_return columns r
faults_in_clause columns (clause.Change c) = faults_in_change c
faults_in_clause columns _ = []
