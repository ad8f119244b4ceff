-- What the code's prepared items of SET and REMOVE do in a row: by the places of their variables, and by what their
-- expressions were prepared with.
use Rattle.std.specs.Prelude.{ℕ, List, [], Option, Ok}
use Rattle.gql_values3.specs.Datum.{Datum}
use Rattle.gql_values3.specs.declared.element.Elem.{Elem}
use Rattle.gql_values3.specs.declared.value.Value.TheVariants as v
use Rattle.gql_ast.specs.Scope.{row_scope}
use Rattle.gql_ast.specs.Faults.{◌>>=◌}
use Rattle.gql_ast.specs.ElementTests.{element_in}
use Rattle.gql_ast.specs.ClauseColumns.{ColumnList}
use Rattle.gql_ast.specs.declared.change.RemoveItem.{RemoveItem}
use Rattle.gql_ast.specs.declared.change.SetItem.{SetItem}
use Rattle.gql_eval.specs.RowLists.{each_some}
use Rattle.gql_change.specs.Assignments.{on, set_property, set_by, removed_by}
use Rattle.gql_change.specs.Machinery.DeletionSteps.{value_at}
use Rattle.gql_change.specs.Machinery.InRow.{InRow, value_in}
use Rattle.gql_change.specs.declared.assignment.Act.TheVariants as act
use Rattle.gql_change.specs.declared.assignment.Assignment.{Assignment}
use Rattle.gql_change.specs.declared.prepared_item.PreparedAct.{PreparedAct}
use Rattle.gql_change.specs.declared.prepared_item.PreparedAct.TheVariants as prepared
use Rattle.gql_change.specs.declared.prepared_item.PreparedItem.{PreparedItem}

-- what is done to the element
abbrev pub act_in : PreparedAct → Option Elem → InRow (List Assignment)
act_in (prepared.Property p) t g row = value_in p.value g row >>= λ d. set_property g p.value.params t p.name d
act_in (prepared.NoProperty x) t g row = Ok (on t (act.Property x.now v.Null))
act_in (prepared.Label l) t g row = Ok (on t (act.Label l.now))
act_in (prepared.NoLabel l) t g row = Ok (on t (act.NoLabel l.now))

-- what an item does
abbrev pub item_in : PreparedItem → InRow (List Assignment)
item_in i g row = element_in g (value_at row i.target) >>= λ t. act_in i.act t g row

-- what the items do, in their order
abbrev pub all_in : List PreparedItem → InRow (List Assignment)
all_in is g row = each_some (λ (i : PreparedItem). item_in i g row) is

-- what the definitions say of an item
abbrev pub set_in : ColumnList → List (List ℕ × Datum) → SetItem → InRow (List Assignment)
set_in columns params i g row = set_by g params (row_scope columns row) i

abbrev pub removed_in : ColumnList → RemoveItem → InRow (List Assignment)
removed_in columns i g row = removed_by g [] (row_scope columns row) i
