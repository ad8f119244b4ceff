-- DELETE: the named nodes and edges of all rows together. NULL and what was deleted before is skipped.
use Rattle.std.specs.Prelude.{ℕ, Bool, not, ◌&&◌, ◌||◌, List, [], ◌∷◌, filter, find, Option, Some, None, if◌then◌else◌}
use Rattle.std.specs.List.{list_any, flat_map}
use Rattle.gql_values3.specs.Datum.{Datum, node, edge}
use Rattle.gql_values3.specs.PropertyGraph.{PropertyGraph}
use Rattle.gql_values3.specs.Lookup.{touches}
use Rattle.gql_values3.specs.declared.element.Elem.{Elem}
use Rattle.gql_values3.specs.declared.element.Elem.TheVariants as elem
use Rattle.gql_values3.specs.declared.element.Ends.{Ends}
use Rattle.gql_values3.specs.declared.element.Ends.TheVariants.{Directed, Undirected}
use Rattle.gql_values3.specs.declared.records.NodeRecord.{NodeRecord}
use Rattle.gql_values3.specs.declared.records.EdgeRecord.{EdgeRecord}
use Rattle.gql_ast.specs.Scope.{row_scope, datum_of_name}
use Rattle.gql_ast.specs.ClauseColumns.{ColumnList}
use Rattle.gql_ast.specs.declared.change.Detachment.{Detachment}
use Rattle.gql_ast.specs.declared.change.Detachment.TheVariants as detachment
use Rattle.gql_ast.specs.declared.refusal.Refusal.{Refusal}
use Rattle.gql_ast.specs.declared.refusal.Refusal.TheVariants as refusal
use Rattle.gql_eval.specs.RowLists.{RowList}
use Rattle.std.specs.Option.{option_or}
use Rattle.gql_change.specs.Conflicts.{same_elem}

-- the element that a value is
abbrev pub elements_in : Datum → List Elem
elements_in (node n) = elem.Node (record { 0 = n }) ∷ []
elements_in (edge n) = elem.Edge (record { 0 = n }) ∷ []
elements_in _ = []

-- the named elements of all rows
abbrev pub named_elements : ColumnList → List (List ℕ) → RowList → List Elem
named_elements columns names rows = flat_map (λ row. flat_map (λ x. elements_in (datum_of_name (row_scope columns row) x)) names) rows

-- the element is named
abbrev pub is_named : List Elem → Elem → Bool
is_named es e = list_any (same_elem e) es

-- an end of the edge is named
abbrev pub end_is_named : List Elem → Ends → Bool
end_is_named es (Directed s t) = is_named es (elem.Node s) || is_named es (elem.Node t)
end_is_named es (Undirected l h) = is_named es (elem.Node l) || is_named es (elem.Node h)

-- DETACH takes the edges of a deleted node with it
abbrev pub edge_goes : Detachment → List Elem → EdgeRecord → Bool
edge_goes detachment.Detach es r = is_named es (elem.Edge r.number) || end_is_named es r.ends
edge_goes detachment.NoDetach es r = is_named es (elem.Edge r.number)

-- the least edge that stays and touches the node
abbrev pub edge_left : Detachment → List Elem → PropertyGraph → NodeRecord → Option EdgeRecord
edge_left d es g n = find (λ (r : EdgeRecord). touches n.number r && not (edge_goes d es r)) g.edges

-- the refusal for an edge that is left on a deleted node
abbrev pub left_on : NodeRecord → Option EdgeRecord → Option Refusal
left_on n None = None
left_on n (Some r) = Some (refusal.Edges n.number r.number)

-- E20: the least deleted node that an edge which stays touches, and the least such edge
abbrev pub first_left : Detachment → List Elem → PropertyGraph → List NodeRecord → Option Refusal
first_left d es g [] = None
first_left d es g (n ∷ ns) =
    if is_named es (elem.Node n.number) then option_or (left_on n (edge_left d es g n)) (first_left d es g ns) else first_left d es g ns

-- the graph without the named nodes and without the edges that go
abbrev pub deleted : Detachment → List Elem → PropertyGraph → PropertyGraph
deleted d es g = record {
  nodes = filter (λ (r : NodeRecord). not (is_named es (elem.Node r.number))) g.nodes;
  edges = filter (λ (r : EdgeRecord). not (edge_goes d es r)) g.edges;
  next_node = g.next_node;
  next_edge = g.next_edge;
}
