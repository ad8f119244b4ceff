-- SET and REMOVE: what they do to which elements. All expressions are evaluated on the graph before the clause, rows in
-- order, and items in the order of the text; in an item the target is looked at before the expression.
use Rattle.std.specs.Prelude.{ℕ, List, [], ◌∷◌, Option, Some, None, Result, Ok}
use Rattle.gql_values3.specs.Datum.{Datum}
use Rattle.gql_values3.specs.Meaning.{as_value}
use Rattle.gql_values3.specs.PropertyGraph.{PropertyGraph}
use Rattle.gql_values3.specs.declared.element.Elem.{Elem}
use Rattle.gql_values3.specs.declared.value.Value.{Value}
use Rattle.gql_values3.specs.declared.value.Value.TheVariants as v
use Rattle.gql_ast.specs.Meaning.{tree_of}
use Rattle.gql_ast.specs.Scope.{Scope, row_scope, datum_of_name}
use Rattle.gql_ast.specs.Faults.{◌>>=◌}
use Rattle.gql_ast.specs.ElementTests.{element_in}
use Rattle.gql_ast.specs.Evaluation.{value_of}
use Rattle.gql_ast.specs.ClauseColumns.{ColumnList}
use Rattle.gql_ast.specs.declared.change.RemoveItem.{RemoveItem}
use Rattle.gql_ast.specs.declared.change.RemoveItem.TheVariants as remove_item
use Rattle.gql_ast.specs.declared.change.SetItem.{SetItem}
use Rattle.gql_ast.specs.declared.change.SetItem.TheVariants as set_item
use Rattle.gql_ast.specs.declared.fault.DataFault.{DataFault}
use Rattle.gql_eval.specs.RowLists.{RowList, each_some}
use Rattle.gql_change.specs.Storing.{stored}
use Rattle.gql_change.specs.declared.assignment.Act.{Act}
use Rattle.gql_change.specs.declared.assignment.Act.TheVariants as act
use Rattle.gql_change.specs.declared.assignment.Assignment.{Assignment}

-- nothing is done to NULL
abbrev pub on : Option Elem → Act → List Assignment
on None a = []
on (Some e) a = record { target = e; act = a } ∷ []

module _ (g : PropertyGraph) (params : List (List ℕ × Datum)) where
  -- the element under a name; None is NULL
  abbrev pub target_in : Scope → List ℕ → Result (Option Elem) DataFault
  target_in scope x = element_in g (datum_of_name scope x)

  -- only what is done to an element has to be storable
  abbrev pub set_property : Option Elem → List ℕ → Datum → Result (List Assignment) DataFault
  set_property None p d = Ok []
  set_property (Some e) p d = stored d >>= λ kept. Ok (on (Some e) (act.Property p (as_value kept)))

  -- what one item of SET does for a row
  abbrev pub set_by : Scope → SetItem → Result (List Assignment) DataFault
  set_by scope (set_item.Property x p e) = target_in scope x >>= λ t. value_of g params scope (tree_of e) >>= λ d. set_property t p d
  set_by scope (set_item.Label x l) = target_in scope x >>= λ t. Ok (on t (act.Label l))

  -- what one item of REMOVE does for a row: a property becomes NULL, or a label goes
  abbrev pub removed_by : Scope → RemoveItem → Result (List Assignment) DataFault
  removed_by scope (remove_item.Property x p) = target_in scope x >>= λ t. Ok (on t (act.Property p v.Null))
  removed_by scope (remove_item.Label x l) = target_in scope x >>= λ t. Ok (on t (act.NoLabel l))

  -- what SET does for all rows, and what REMOVE does, or the first fault
  abbrev pub set_assignments : ColumnList → List SetItem → RowList → Result (List Assignment) DataFault
  set_assignments columns items rows = each_some (λ row. each_some (set_by (row_scope columns row)) items) rows

  abbrev pub remove_assignments : ColumnList → List RemoveItem → RowList → Result (List Assignment) DataFault
  remove_assignments columns items rows = each_some (λ row. each_some (removed_by (row_scope columns row)) items) rows
