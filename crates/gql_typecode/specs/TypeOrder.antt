-- Graph types whose sets are in order.
use Rattle.std.specs.Prelude.{ℕ, List, map, IsTrue}
use Rattle.std.specs.List.{AllByRecursion}
use Rattle.gql_values3.specs.Texts.{texts_ascend}
use Rattle.gql_graph.specs.declared.graph_type.PropType.{PropType}
use Rattle.gql_graph.specs.declared.graph_type.NodeType.{NodeType}
use Rattle.gql_graph.specs.declared.graph_type.EdgeType.{EdgeType}
use Rattle.gql_graph.specs.declared.graph_type.GraphType.{GraphType}

-- labels strictly ascend by bytes, and so do the names of the properties
abbrev pub AreInOrder : List (List ℕ) → List PropType → Type 0
AreInOrder labels body = IsTrue (texts_ascend labels) × IsTrue (texts_ascend (map (λ (t : PropType). t.name) body))

-- the labels and the properties of a node type
abbrev pub IsNodeTypeInOrder : NodeType → Type 0
IsNodeTypeInOrder t = AreInOrder t.labels t.body

-- those of an edge type; its ends are places of node types, in no order
abbrev pub IsEdgeTypeInOrder : EdgeType → Type 0
IsEdgeTypeInOrder t = AreInOrder t.labels t.body

-- those of each node type and each edge type
pub record IsTypeInOrder (t : GraphType) : Type 0 where
  pub nodes : AllByRecursion IsNodeTypeInOrder t.nodes
  pub edges : AllByRecursion IsEdgeTypeInOrder t.edges
