-- Graph types that a record can keep: label sets and names of properties strictly ascend, texts are UTF-8, and nothing has 2 to the 64
-- parts or more. Whether the ends of edge types are node types is asked elsewhere.
use Rattle.std.specs.Prelude.{◌<◌, ◌^◌, List, map, length, IsTrue}
use Rattle.std.specs.List.{AllByRecursion}
use Rattle.gql_values3.specs.Texts.{texts_ascend}
use Rattle.gql_graph.specs.declared.graph_type.PropType.{PropType}
use Rattle.gql_graph.specs.declared.graph_type.NodeType.{NodeType}
use Rattle.gql_graph.specs.declared.graph_type.EdgeType.{EdgeType}
use Rattle.gql_graph.specs.declared.graph_type.GraphType.{GraphType}
use Rattle.gql_fields.specs.Kept.{IsText, AreKeptLabels}

-- a property of a type: its name is a text
abbrev pub IsKeptPropType : PropType → Type 0
IsKeptPropType t = IsText t.name

-- the properties of a type
pub record IsKeptBody (ts : List PropType) : Type 0 where
  pub few : length ts < 2 ^ 64
  pub ascend : IsTrue (texts_ascend (map (λ (t : PropType). t.name) ts))
  pub texts : AllByRecursion IsKeptPropType ts

-- a node type: its labels and its properties
abbrev pub IsKeptNodeType : NodeType → Type 0
IsKeptNodeType t = AreKeptLabels t.labels × IsKeptBody t.body

-- the places of its two node types fit in eight bytes
pub record IsKeptEdgeType (t : EdgeType) : Type 0 where
  pub first : t.first < 2 ^ 64
  pub second : t.second < 2 ^ 64
  pub labels : AreKeptLabels t.labels
  pub body : IsKeptBody t.body

-- a graph type: few enough node types and edge types, each of which can be kept
pub record IsKeptType (t : GraphType) : Type 0 where
  pub few_nodes : length t.nodes < 2 ^ 64
  pub few_edges : length t.edges < 2 ^ 64
  pub nodes : AllByRecursion IsKeptNodeType t.nodes
  pub edges : AllByRecursion IsKeptEdgeType t.edges
