-- Look-ups in a property graph, as filters of its two lists.
use Rattle.std.specs.Prelude.{ℕ, Bool, ◌==◌, ◌||◌, List, [], map, filter, Option, Some, None, option_map, is_some, find, slice_get}
use Rattle.std.specs.List.{list_any}
use Rattle.gql_values3.specs.Datum.{Datum}
use Rattle.gql_values3.specs.Texts.{same_text}
use Rattle.gql_values3.specs.PropertyGraph.{PropertyGraph}
use Rattle.gql_values3.specs.declared.element.NodeId.{NodeId}
use Rattle.gql_values3.specs.declared.element.EdgeId.{EdgeId}
use Rattle.gql_values3.specs.declared.records.NodeRecord.{NodeRecord}
use Rattle.gql_values3.specs.declared.records.EdgeRecord.{EdgeRecord}
use Rattle.gql_values3.specs.declared.element.Elem.{Elem}
use Rattle.gql_values3.specs.declared.element.Elem.TheVariants as elem
use Rattle.gql_values3.specs.declared.element.Ends.{Ends}
use Rattle.gql_values3.specs.declared.element.Ends.TheVariants.{Directed, Undirected}

-- the record of a number, where there is one
abbrev pub node_of : PropertyGraph → NodeId → Option NodeRecord
node_of g n = find (λ r. r.number.0 == n.0) g.nodes

-- the edge of a number, where the graph has one
abbrev pub edge_of : PropertyGraph → EdgeId → Option EdgeRecord
edge_of g e = find (λ r. r.number.0 == e.0) g.edges

-- the graph has a node of this number
abbrev pub has_node : PropertyGraph → NodeId → Bool
has_node g n = is_some (node_of g n)

-- the graph has a node or an edge of this number
abbrev pub has_element : PropertyGraph → Elem → Bool
has_element g (elem.Node n) = is_some (node_of g n)
has_element g (elem.Edge e) = is_some (edge_of g e)

-- the endpoints of an edge, where the graph has the edge
abbrev pub ends_of : PropertyGraph → EdgeId → Option Ends
ends_of g e = option_map (λ r. r.ends) (edge_of g e)

-- the node of a place, by ascending number
abbrev pub node_at : PropertyGraph → ℕ → Option NodeId
node_at g index = option_map (λ r. r.number) (slice_get g.nodes index)

-- the labels, in order; an element that isn't there has none
abbrev pub labels_in : Option (List (List ℕ)) → List (List ℕ)
labels_in None = []
labels_in (Some ls) = ls

-- the labels of a node or an edge, in order
abbrev pub labels_of : PropertyGraph → Elem → List (List ℕ)
labels_of g (elem.Node n) = labels_in (option_map (λ r. r.labels) (node_of g n))
labels_of g (elem.Edge e) = labels_in (option_map (λ r. r.labels) (edge_of g e))

-- the element is there and has the label
abbrev pub has_label : PropertyGraph → Elem → List ℕ → Bool
has_label g e label = list_any (same_text label) (labels_of g e)

-- the nodes with a label, by ascending number
abbrev pub labelled_nodes : PropertyGraph → List ℕ → List NodeId
labelled_nodes g label = map (λ r. r.number) (filter (λ (r : NodeRecord). list_any (same_text label) r.labels) g.nodes)

-- the properties, in order; an element that isn't there has none
abbrev pub properties_in : Option (List (List ℕ × Datum)) → List (List ℕ × Datum)
properties_in None = []
properties_in (Some ps) = ps

-- the properties of a node or an edge, in order of their names
abbrev pub properties_of : PropertyGraph → Elem → List (List ℕ × Datum)
properties_of g (elem.Node n) = properties_in (option_map (λ r. r.properties) (node_of g n))
properties_of g (elem.Edge e) = properties_in (option_map (λ r. r.properties) (edge_of g e))

-- the names of the properties, in order
abbrev pub names_of : PropertyGraph → Elem → List (List ℕ)
names_of g e = map (λ (p : List ℕ × Datum). p.0) (properties_of g e)

-- the value of an element's property, where it has one of this name
abbrev pub property_of : PropertyGraph → Elem → List ℕ → Option Datum
property_of g e name = option_map (λ (p : List ℕ × Datum). p.1) (find (λ p. same_text name p.0) (properties_of g e))

-- the node is an end of the edge
abbrev pub touches : NodeId → EdgeRecord → Bool
touches n r = meets r.ends
  where
    meets : Ends → Bool
    meets (Directed s t) = (s.0 == n.0) || (t.0 == n.0)
    meets (Undirected l h) = (l.0 == n.0) || (h.0 == n.0)

-- the edges that touch a node, by ascending number; a loop stands once
abbrev pub touching_edges : PropertyGraph → NodeId → List EdgeId
touching_edges g n = map (λ r. r.number) (filter (touches n) g.edges)
