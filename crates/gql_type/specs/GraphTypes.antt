-- The graph types of GQL as plain data: which of them are in order, as those of a catalog are.
use Rattle.std.specs.Prelude.{ℕ, Bool, ◌&&◌, nat_lt, List, map, length}
use Rattle.std.specs.List.{list_all}
use Rattle.gql_values3.specs.Texts.{texts_ascend}
use Rattle.gql_graph.specs.declared.graph_type.PropType.{PropType}
use Rattle.gql_graph.specs.declared.graph_type.NodeType.{NodeType}
use Rattle.gql_graph.specs.declared.graph_type.EdgeType.{EdgeType}
use Rattle.gql_graph.specs.declared.graph_type.GraphType.{GraphType}

-- labels and names of properties, each a set that is kept as a list which strictly ascends by bytes
abbrev pub is_content_type : List (List ℕ) → List PropType → Bool
is_content_type labels body = texts_ascend labels && texts_ascend (map (λ (t : PropType). t.name) body)

-- the labels and properties of a node type are in order
abbrev pub is_node_type : NodeType → Bool
is_node_type t = is_content_type t.labels t.body

-- among so many node types, those of its two ends
abbrev pub is_edge_type : ℕ → EdgeType → Bool
is_edge_type count t = is_content_type t.labels t.body && nat_lt t.first count && nat_lt t.second count

-- sets are in order, and the ends of edge types are node types
abbrev pub is_graph_type : GraphType → Bool
is_graph_type t = list_all is_node_type t.nodes && list_all (is_edge_type (length t.nodes)) t.edges
