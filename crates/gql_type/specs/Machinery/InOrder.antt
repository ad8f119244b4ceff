-- Conformance as the code finds it: sets in order by bytes are compared from the left, each side once.
use Rattle.std.specs.Prelude.{ℕ, Bool, true, false, not, ◌&&◌, ◌||◌, ◌==◌, List, [], ◌∷◌, Option, Some, option_map, find, slice_get, if◌then◌else◌}
use Rattle.std.specs.Option.{option_or}
use Rattle.std.specs.List.{list_any}
use Rattle.gql_values3.specs.Texts.{same_text}
use Rattle.gql_values3.specs.PropertyGraph.{PropertyGraph}
use Rattle.gql_values3.specs.declared.element.NodeId.{NodeId}
use Rattle.gql_values3.specs.declared.element.Elem.{Elem}
use Rattle.gql_values3.specs.declared.element.Elem.TheVariants as elem
use Rattle.gql_values3.specs.declared.element.Ends.{Ends}
use Rattle.gql_values3.specs.declared.element.Ends.TheVariants as ends
use Rattle.gql_values3.specs.declared.records.NodeRecord.{NodeRecord}
use Rattle.gql_values3.specs.declared.records.EdgeRecord.{EdgeRecord}
use Rattle.gql_graph.specs.declared.graph_type.PropType.{PropType}
use Rattle.gql_graph.specs.declared.graph_type.NodeType.{NodeType}
use Rattle.gql_graph.specs.declared.graph_type.EdgeType.{EdgeType}
use Rattle.gql_graph.specs.declared.graph_type.GraphType.{GraphType}
use Rattle.gql_type.specs.PropertyKinds.{is_of_kind}
use Rattle.gql_type.specs.Conformance.{PropertyList}

-- the same names, in the same order
abbrev pub same_names : List (List ℕ) → List (List ℕ) → Bool
same_names [] [] = true
same_names [] (y ∷ ys) = false
same_names (x ∷ xs) [] = false
same_names (x ∷ xs) (y ∷ ys) = same_text x y && same_names xs ys

-- each property has its type, and each type that is NOT NULL its property
abbrev pub are_matched : List PropType → PropertyList → Bool
are_matched [] [] = true
are_matched [] (p ∷ ps) = false
are_matched (t ∷ ts) [] = not t.required && are_matched ts []
are_matched (t ∷ ts) (p ∷ ps) = if same_text t.name p.0 then is_of_kind t.kind p.1 && are_matched ts ps else not t.required && are_matched ts (p ∷ ps)

abbrev pub matches_content : List (List ℕ) → List PropType → List (List ℕ) → PropertyList → Bool
matches_content labels body ls ps = same_names ls labels && are_matched body ps

abbrev pub matches_node_type : NodeRecord → NodeType → Bool
matches_node_type r t = matches_content t.labels t.body r.labels r.properties

abbrev pub both_match : Option NodeRecord → Option NodeType → Bool
both_match (Some r) (Some t) = matches_node_type r t
both_match _ _ = false

-- the node of a number among some nodes
abbrev pub node_of_number : List NodeRecord → NodeId → Option NodeRecord
node_of_number nodes n = find (λ (r : NodeRecord). r.number.0 == n.0) nodes

abbrev pub end_matches : List NodeRecord → GraphType → NodeId → ℕ → Bool
end_matches nodes t n place = both_match (node_of_number nodes n) (slice_get t.nodes place)

abbrev pub ends_either_way : List NodeRecord → GraphType → NodeId → NodeId → EdgeType → Bool
ends_either_way nodes t low high e = (end_matches nodes t low e.first && end_matches nodes t high e.second) || (end_matches nodes t high e.first && end_matches nodes t low e.second)

abbrev pub ends_match : List NodeRecord → GraphType → Ends → EdgeType → Bool
ends_match nodes t (ends.Directed source target) e = e.directed && end_matches nodes t source e.first && end_matches nodes t target e.second
ends_match nodes t (ends.Undirected low high) e = not e.directed && ends_either_way nodes t low high e

abbrev pub matches_edge_type : List NodeRecord → GraphType → EdgeRecord → EdgeType → Bool
matches_edge_type nodes t r e = matches_content e.labels e.body r.labels r.properties && ends_match nodes t r.ends e

abbrev pub node_matches : GraphType → NodeRecord → Bool
node_matches t r = list_any (matches_node_type r) t.nodes

abbrev pub edge_matches : List NodeRecord → GraphType → EdgeRecord → Bool
edge_matches nodes t r = list_any (matches_edge_type nodes t r) t.edges

abbrev pub first_unmatched_node : GraphType → List NodeRecord → Option NodeRecord
first_unmatched_node t rs = find (λ r. not (node_matches t r)) rs

abbrev pub first_unmatched_edge : List NodeRecord → GraphType → List EdgeRecord → Option EdgeRecord
first_unmatched_edge nodes t rs = find (λ r. not (edge_matches nodes t r)) rs

abbrev pub first_unmatched : PropertyGraph → GraphType → Option Elem
first_unmatched g t = option_or (option_map (λ (r : NodeRecord). elem.Node r.number) (first_unmatched_node t g.nodes)) (option_map (λ (r : EdgeRecord). elem.Edge r.number) (first_unmatched_edge g.nodes t g.edges))
