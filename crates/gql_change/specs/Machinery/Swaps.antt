-- The changes that give an element of a graph its labels and properties behind some acts.
use Rattle.std.specs.Prelude.{ℕ, Bool, true, not, ◌&&◌, List, [], ◌∷◌, filter, Option, Some, None}
use Rattle.std.specs.List.{list_all}
use Rattle.gql_values3.specs.Meaning.{datum_of}
use Rattle.gql_values3.specs.PropertyGraph.{PropertyGraph, is_storable}
use Rattle.gql_values3.specs.Lookup.{ends_of, labels_of, properties_of, has_element}
use Rattle.gql_values3.specs.declared.element.EdgeId.{EdgeId}
use Rattle.gql_values3.specs.declared.element.Elem.{Elem}
use Rattle.gql_values3.specs.declared.element.Elem.TheVariants as elem
use Rattle.gql_values3.specs.declared.element.Ends.{Ends}
use Rattle.gql_graph.specs.declared.change.Change.{Change}
use Rattle.gql_graph.specs.declared.change.Change.TheVariants as change
use Rattle.gql_change.specs.Storing.{PropertyList}
use Rattle.gql_change.specs.Conflicts.{same_elem}
use Rattle.gql_change.specs.AssignedGraph.{labels_after, properties_after}
use Rattle.gql_change.specs.declared.assignment.Act.{Act}
use Rattle.gql_change.specs.declared.assignment.Act.TheVariants as act
use Rattle.gql_change.specs.declared.assignment.Assignment.{Assignment}

-- an edge keeps its ends; one that isn't there has no change
abbrev pub swap_edge : EdgeId → Option Ends → List (List ℕ) → PropertyList → List Change
swap_edge e None ls ps = []
swap_edge e (Some ends) ls ps = change.SwapEdge (record { number = e; ends = ends; labels = ls; properties = ps }) ∷ []

-- the element with these labels and properties
abbrev pub swap_with : PropertyGraph → Elem → List (List ℕ) → PropertyList → List Change
swap_with g (elem.Node n) ls ps = change.SwapNode (record { number = n; labels = ls; properties = ps }) ∷ []
swap_with g (elem.Edge e) ls ps = swap_edge e (ends_of g e) ls ps

-- the element with what it has behind the acts
abbrev pub swaps : PropertyGraph → Elem → List Act → List Change
swaps g e acts = swap_with g e (labels_after acts (labels_of g e)) (properties_after acts (properties_of g e))

-- what an act gives may be stored
abbrev pub act_fits : Act → Bool
act_fits (act.Property x a) = is_storable (datum_of a) 64
act_fits (act.Label l) = true
act_fits (act.NoLabel l) = true

-- the element is in the graph, and what it gets may be stored
abbrev pub fits : PropertyGraph → Assignment → Bool
fits g a = has_element g a.target && act_fits a.act

abbrev pub all_fit : PropertyGraph → List Assignment → Bool
all_fit g xs = list_all (fits g) xs

-- what is done to other elements
abbrev pub others : Elem → List Assignment → List Assignment
others e xs = filter (λ (a : Assignment). not (same_elem a.target e)) xs
