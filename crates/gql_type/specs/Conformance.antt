-- Conformance of a property graph to a graph type: GQL's graph types, whose node and edge types have exact label sets.
use Rattle.std.specs.Prelude.{ℕ, Bool, false, not, nat_le, ◌==◌, ◌&&◌, ◌||◌, List, Option, Some, option_map, find, slice_get}
use Rattle.std.specs.Option.{option_or}
use Rattle.std.specs.List.{list_all, list_any}
use Rattle.gql_values3.specs.Datum.{Datum}
use Rattle.gql_values3.specs.Texts.{same_text}
use Rattle.gql_values3.specs.PropertyGraph.{PropertyGraph}
use Rattle.gql_values3.specs.Lookup.{node_of}
use Rattle.gql_values3.specs.declared.element.NodeId.{NodeId}
use Rattle.gql_values3.specs.declared.element.Elem.{Elem}
use Rattle.gql_values3.specs.declared.element.Elem.TheVariants as elem
use Rattle.gql_values3.specs.declared.element.Ends.{Ends}
use Rattle.gql_values3.specs.declared.element.Ends.TheVariants as ends
use Rattle.gql_values3.specs.declared.records.NodeRecord.{NodeRecord}
use Rattle.gql_values3.specs.declared.records.EdgeRecord.{EdgeRecord}
use Rattle.gql_graph.specs.declared.graph_type.PropType.{PropType}
use Rattle.gql_graph.specs.declared.graph_type.NodeType.{NodeType}
use Rattle.gql_graph.specs.declared.graph_type.EdgeType.{EdgeType}
use Rattle.gql_graph.specs.declared.graph_type.GraphType.{GraphType}
use Rattle.gql_type.specs.PropertyKinds.{is_of_kind}

-- the properties of an element: names and values
abbrev pub PropertyList : Type 0
PropertyList = List (List ℕ × Datum)

-- the name is among these
abbrev pub contains_name : List (List ℕ) → List ℕ → Bool
contains_name names name = list_any (same_text name) names

-- two lists of names are one set
abbrev pub same_set : List (List ℕ) → List (List ℕ) → Bool
same_set a b = list_all (contains_name b) a && list_all (contains_name a) b

-- the property is named by the type, and has a value of that kind
abbrev pub is_allowed : List PropType → List ℕ × Datum → Bool
is_allowed body p = list_any (λ (t : PropType). same_text t.name p.0 && is_of_kind t.kind p.1) body

-- a property of that name is there, or the type does not say NOT NULL
abbrev pub is_provided : PropertyList → PropType → Bool
is_provided ps t = not t.required || list_any (λ (p : List ℕ × Datum). same_text t.name p.0) ps

-- exactly the type's labels, no properties but the type's, and all that are NOT NULL
abbrev pub has_content : List (List ℕ) → List PropType → List (List ℕ) → PropertyList → Bool
has_content labels body ls ps = same_set ls labels && list_all (is_allowed body) ps && list_all (is_provided ps) body

-- the node has the content that the node type asks for
abbrev pub fits_node_type : NodeRecord → NodeType → Bool
fits_node_type r t = has_content t.labels t.body r.labels r.properties

-- there are a node and a node type, and the one fits the other
abbrev pub both_fit : Option NodeRecord → Option NodeType → Bool
both_fit (Some r) (Some t) = fits_node_type r t
both_fit _ _ = false

-- the node fits the node type of that place
abbrev pub is_end : PropertyGraph → GraphType → NodeId → ℕ → Bool
is_end g t n place = both_fit (node_of g n) (slice_get t.nodes place)

-- direction is that of the type, and the endpoints fit its ends; those of an undirected edge in either assignment
abbrev pub has_ends : PropertyGraph → GraphType → Ends → EdgeType → Bool
has_ends g t (ends.Directed source target) e = e.directed && is_end g t source e.first && is_end g t target e.second
has_ends g t (ends.Undirected low high) e = not e.directed && ((is_end g t low e.first && is_end g t high e.second) || (is_end g t high e.first && is_end g t low e.second))

-- the edge has the content that the edge type asks for, and its ends, too, are as the type says
abbrev pub fits_edge_type : PropertyGraph → GraphType → EdgeRecord → EdgeType → Bool
fits_edge_type g t r e = has_content e.labels e.body r.labels r.properties && has_ends g t r.ends e

-- the node fits some node type
abbrev pub node_fits : GraphType → NodeRecord → Bool
node_fits t r = list_any (fits_node_type r) t.nodes

-- the edge fits some edge type
abbrev pub edge_fits : PropertyGraph → GraphType → EdgeRecord → Bool
edge_fits g t r = list_any (fits_edge_type g t r) t.edges

-- each node fits some node type, and each edge some edge type
abbrev pub conforms : PropertyGraph → GraphType → Bool
conforms g t = list_all (node_fits t) g.nodes && list_all (edge_fits g t) g.edges

-- the first element that fits no type: nodes before edges, each in the order of the graph, which is by number
abbrev pub first_misfit : PropertyGraph → GraphType → Option Elem
first_misfit g t = option_or (option_map (λ (r : NodeRecord). elem.Node r.number) (find (λ r. not (node_fits t r)) g.nodes)) (option_map (λ (r : EdgeRecord). elem.Edge r.number) (find (λ r. not (edge_fits g t r)) g.edges))

-- the element is one that fits no type, and none of a lesser number is; where it is an edge, each node fits
abbrev pub is_least_misfit : PropertyGraph → GraphType → Elem → Bool
is_least_misfit g t (elem.Node n) = list_any (λ (r : NodeRecord). (r.number.0 == n.0) && not (node_fits t r)) g.nodes && list_all (λ (r : NodeRecord). node_fits t r || nat_le n.0 r.number.0) g.nodes
is_least_misfit g t (elem.Edge e) = list_all (node_fits t) g.nodes && list_any (λ (r : EdgeRecord). (r.number.0 == e.0) && not (edge_fits g t r)) g.edges && list_all (λ (r : EdgeRecord). edge_fits g t r || nat_le e.0 r.number.0) g.edges
