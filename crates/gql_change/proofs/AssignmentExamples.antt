-- What SET and REMOVE do, computed of the definitions.
use Rattle.std.proofs.Common.{◌≡◌, ℕ, pos, true, List, [], ◌∷◌, Some, None, Ok, Err, codes, refl}
use Rattle.gql_values3.specs.Datum.{null, boolean, integer, text, node}
use Rattle.gql_values3.specs.PropertyGraph.{PropertyGraph, is_graph}
use Rattle.gql_values3.specs.declared.element.Elem.{Elem}
use Rattle.gql_values3.specs.declared.element.Elem.TheVariants as elem
use Rattle.gql_values3.specs.declared.element.Ends.TheVariants.{Directed}
use Rattle.gql_values3.specs.declared.records.NodeRecord.{NodeRecord}
use Rattle.gql_values3.specs.declared.table.ColumnKind.TheVariants as kind
use Rattle.gql_values3.specs.declared.value.Value.{Value}
use Rattle.gql_values3.specs.declared.value.Value.TheVariants as v
use Rattle.gql_ast.specs.ClauseColumns.{ColumnList}
use Rattle.gql_ast.specs.Evaluation.{value_of}
use Rattle.gql_ast.specs.declared.change.RemoveItem.TheVariants as remove_item
use Rattle.gql_ast.specs.declared.change.SetItem.TheVariants as set_item
use Rattle.gql_ast.specs.declared.expr.Expr.TheVariants as expr
use Rattle.gql_ast.specs.declared.fault.DataFault.TheVariants as fault
use Rattle.gql_ast.specs.declared.refusal.Refusal.TheVariants as refusal
use Rattle.gql_eval.specs.RowLists.{RowList}
use Rattle.gql_change.specs.Storing.{PropertyList}
use Rattle.gql_change.specs.Assignments.{set_assignments, remove_assignments}
use Rattle.gql_change.specs.AssignedGraph.{assigned, labels_after}
use Rattle.gql_change.specs.Changing.{changed_by_assignments}
use Rattle.gql_change.specs.Conflicts.{conflict_among}
use Rattle.gql_change.specs.declared.assignment.Act.TheVariants as act
use Rattle.gql_change.specs.declared.assignment.Assignment.{Assignment}

abbrev node_record : ℕ → List (List ℕ) → PropertyList → NodeRecord
node_record n ls ps = record { number = record { 0 = n }; labels = ls; properties = ps }

-- nodes 1 and 2, and an edge from 1 to 2; node 1 has these labels and properties
abbrev graph_with : List (List ℕ) → PropertyList → PropertyGraph
graph_with ls ps = record {
  nodes = node_record 1 ls ps ∷ node_record 2 [] [] ∷ [];
  edges = record { number = record { 0 = 1 }; ends = Directed (record { 0 = 1 }) (record { 0 = 2 }); labels = []; properties = [] } ∷ [];
  next_node = 3;
  next_edge = 2;
}

abbrev before : PropertyGraph
before = graph_with (codes "A" ∷ []) ((codes "n", integer (pos 1)) ∷ [])

abbrev first : Elem
first = elem.Node (record { 0 = 1 })

abbrev second : Elem
second = elem.Node (record { 0 = 2 })

-- n of an element is set
abbrev n_is : Elem → Value → Assignment
n_is e a = record { target = e; act = act.Property (codes "n") a }

abbrev columns : ColumnList
columns = (codes "x", kind.Node) ∷ (codes "y", kind.Plain) ∷ []

abbrev one_row : RowList
one_row = (node 1 ∷ boolean true ∷ []) ∷ []

abbrev graph_fits : is_graph before ≡ true
graph_fits = refl

-- `SET x.n = 'b', x.m = TRUE`
pub two_properties_are_set : set_assignments before [] columns
    (set_item.Property (codes "x") (codes "n") (expr.Constant (v.Text (codes "b"))) ∷ set_item.Property (codes "x") (codes "m") (expr.Constant (v.Bool true)) ∷ []) one_row
    ≡ Ok (n_is first (v.Text (codes "b")) ∷ record { target = first; act = act.Property (codes "m") (v.Bool true) } ∷ [])
unfolding value_of
two_properties_are_set = refl

pub properties_are_in_order : assigned (n_is first (v.Text (codes "b")) ∷ record { target = first; act = act.Property (codes "m") (v.Bool true) } ∷ []) before
    ≡ graph_with (codes "A" ∷ []) ((codes "m", boolean true) ∷ (codes "n", text (codes "b")) ∷ [])
properties_are_in_order = refl

-- NULL takes the property away, and so does REMOVE
pub null_takes_away : changed_by_assignments before [] columns one_row (Ok (n_is first v.Null ∷ [])) ≡ Ok (graph_with (codes "A" ∷ []) [], one_row)
null_takes_away = refl

pub a_property_is_removed : remove_assignments before [] columns (remove_item.Property (codes "x") (codes "n") ∷ []) one_row ≡ Ok (n_is first v.Null ∷ [])
a_property_is_removed = refl

-- of two nodes the least is named, and of its values the first two that differ, whatever the rows' order
pub the_least_node_is_named : conflict_among
    (n_is second (v.Int (pos 1)) ∷ n_is second (v.Int (pos 2)) ∷ n_is first (v.Int (pos 3)) ∷ n_is first (v.Int (pos 3)) ∷ n_is first (v.Int (pos 5)) ∷ n_is first (v.Int (pos 4)) ∷ [])
    ≡ Some (refusal.Conflict first (codes "n") (v.Int (pos 3)) (v.Int (pos 5)))
the_least_node_is_named = refl

pub one_value_twice_is_no_conflict : conflict_among (n_is first (v.Int (pos 1)) ∷ n_is second (v.Int (pos 2)) ∷ n_is first (v.Int (pos 1)) ∷ []) ≡ None
one_value_twice_is_no_conflict = refl

pub null_and_a_value_are_a_conflict : conflict_among (n_is first v.Null ∷ n_is first (v.Int (pos 1)) ∷ []) ≡ Some (refusal.Conflict first (codes "n") v.Null (v.Int (pos 1)))
null_and_a_value_are_a_conflict = refl

-- a label is added once, and taken
pub a_label_is_set_and_taken : labels_after (act.Label (codes "C") ∷ act.Label (codes "B") ∷ act.Label (codes "C") ∷ act.NoLabel (codes "A") ∷ []) (codes "A" ∷ []) ≡ codes "B" ∷ codes "C" ∷ []
a_label_is_set_and_taken = refl

-- an element may not be stored
pub an_element_is_no_property : set_assignments before [] columns (set_item.Property (codes "x") (codes "n") (expr.Name (codes "x")) ∷ []) one_row ≡ Err fault.WrongKind
unfolding value_of
an_element_is_no_property = refl

-- nothing is done to NULL, so what it would get may be anything
pub nothing_is_done_to_null : set_assignments before [] columns (set_item.Property (codes "x") (codes "n") (expr.Name (codes "y")) ∷ []) ((null ∷ node 1 ∷ []) ∷ []) ≡ Ok []
unfolding value_of
nothing_is_done_to_null = refl

-- the target is looked at before the expression: node 9 is deleted, and a boolean has no properties
pub the_target_is_first : set_assignments before [] columns (set_item.Property (codes "x") (codes "n") (expr.Property (codes "y") (codes "p")) ∷ []) ((node 9 ∷ boolean true ∷ []) ∷ []) ≡ Err fault.Deleted
unfolding value_of
the_target_is_first = refl
