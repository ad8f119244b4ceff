-- A clause that changes data: the graph, the columns and the rows behind it, or its refusal. All expressions are evaluated
-- on the graph before the clause, and their first fault comes before every other refusal.
use Rattle.std.specs.Prelude.{ℕ, Bool, true, false, ◌&&◌, ◌==◌, List, [], ◌∷◌, length, Option, Some, None, Result, Ok, Err, if◌then◌else◌}
use Rattle.std.specs.List.{list_all}
use Rattle.gql_values3.specs.Datum.{Datum}
use Rattle.gql_values3.specs.PropertyGraph.{PropertyGraph}
use Rattle.gql_ast.specs.ClauseColumns.{ColumnList}
use Rattle.gql_ast.specs.InsertColumns.{insert_spots}
use Rattle.gql_ast.specs.Endpoints.{wrong_in_spots}
use Rattle.gql_ast.specs.declared.change.ChangeClause.{ChangeClause}
use Rattle.gql_ast.specs.declared.change.ChangeClause.TheVariants as change
use Rattle.gql_ast.specs.declared.change.Detachment.{Detachment}
use Rattle.gql_ast.specs.declared.change.InsertPath.{InsertPath}
use Rattle.gql_ast.specs.declared.fault.DataFault.{DataFault}
use Rattle.gql_ast.specs.declared.fault.DataFault.TheVariants as fault
use Rattle.gql_ast.specs.declared.refusal.ElemKind.{ElemKind}
use Rattle.gql_ast.specs.declared.refusal.Refusal.{Refusal}
use Rattle.gql_ast.specs.declared.refusal.Refusal.TheVariants as refusal
use Rattle.gql_eval.specs.RowLists.{RowList}
use Rattle.gql_change.specs.Assignments.{set_assignments, remove_assignments}
use Rattle.gql_change.specs.AssignedGraph.{assigned}
use Rattle.gql_change.specs.Conflicts.{conflict_among}
use Rattle.gql_change.specs.Deletion.{named_elements, first_left, deleted}
use Rattle.gql_change.specs.Insertion.{rows_values, make_rows}
use Rattle.gql_change.specs.declared.assignment.Assignment.{Assignment}

-- the graph and the rows behind a change
abbrev pub Changed : Type 0
Changed = PropertyGraph × RowList

-- a step whose first fault refuses the clause (E18)
abbrev pub unless_fault : {A : Type 0} → Result A DataFault → (A → Result Changed Refusal) → Result Changed Refusal
unless_fault (Ok x) f = f x
unless_fault (Err e) f = Err (refusal.Fault e)

-- the change, unless there is a refusal
abbrev pub refused_by : Option Refusal → Changed → Result Changed Refusal
refused_by None c = Ok c
refused_by (Some r) c = Err r

-- numbers that are used up refuse it (E24)
abbrev pub unless_full : Result Changed ElemKind → Result Changed Refusal
unless_full (Ok c) = Ok c
unless_full (Err k) = Err (refusal.Full k)

-- there are no names
abbrev pub is_empty : List (List ℕ) → Bool
is_empty [] = true
is_empty (x ∷ xs) = false

-- each row is as wide as its columns, and no endpoint is a column of another kind than a node's: so it is in each statement
-- without a static refusal
abbrev pub has_endpoints : ColumnList → RowList → List InsertPath → Bool
has_endpoints columns rows ps = list_all (λ (row : List Datum). length row == length columns) rows && is_empty (wrong_in_spots columns (insert_spots ps))

module _ (g : PropertyGraph) (params : List (List ℕ × Datum)) (columns : ColumnList) (rows : RowList) where
  -- INSERT: the values of all rows first, and then the elements row by row
  abbrev pub changed_by_insert : List InsertPath → Result Changed Refusal
  changed_by_insert ps = unless_fault (rows_values g params columns ps rows) (λ values. unless_full (make_rows columns ps g rows values))

  -- SET and REMOVE keep the rows
  abbrev pub changed_by_assignments : Result (List Assignment) DataFault → Result Changed Refusal
  changed_by_assignments given = unless_fault given (λ list. refused_by (conflict_among list) (assigned list g, rows))

  -- and so does DELETE: a deleted element stays in them
  abbrev pub changed_by_deletion : Detachment → List (List ℕ) → Result Changed Refusal
  changed_by_deletion d names =
      refused_by (first_left d (named_elements columns names rows) g g.nodes) (deleted d (named_elements columns names rows) g, rows)

  -- what the clause comes to
  abbrev pub change_of : ChangeClause → Result Changed Refusal
  change_of (change.Insert ps) = if has_endpoints columns rows ps then changed_by_insert ps else Err (refusal.Fault fault.WrongKind)
  change_of (change.Set is) = changed_by_assignments (set_assignments g params columns is rows)
  change_of (change.Remove is) = changed_by_assignments (remove_assignments g params columns is rows)
  change_of (change.Delete d names) = changed_by_deletion d names
