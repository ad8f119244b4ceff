-- How a graph type is spelled in bytes: its node types, and then its edge types. Numbers stand high byte first.
use Rattle.std.specs.Prelude.{ℕ, not, List, [], ◌∷◌, ◌++◌, length}
use Rattle.std.specs.Int.{to_be_bytes, w64}
use Rattle.std.specs.List.{flat_map}
use Rattle.gql_values3.specs.declared.prop_kind.Scalar.{Scalar}
use Rattle.gql_values3.specs.declared.prop_kind.Scalar.TheVariants as scalar
use Rattle.gql_values3.specs.declared.prop_kind.PropKind.{PropKind}
use Rattle.gql_values3.specs.declared.prop_kind.PropKind.TheVariants as kind
use Rattle.gql_graph.specs.declared.graph_type.PropType.{PropType}
use Rattle.gql_graph.specs.declared.graph_type.NodeType.{NodeType}
use Rattle.gql_graph.specs.declared.graph_type.EdgeType.{EdgeType}
use Rattle.gql_graph.specs.declared.graph_type.GraphType.{GraphType}
use Rattle.gql_fields.specs.Spelling.{spelled, labels_spelled, flag_spelled}

-- booleans, integers and strings, in one byte
abbrev pub scalar_spelled : Scalar → ℕ
scalar_spelled scalar.Bool = 1
scalar_spelled scalar.Int = 2
scalar_spelled scalar.Text = 3

-- the kind of a property: a scalar, or 4, the scalar of a list's items, and whether they are NOT NULL
abbrev pub kind_spelled : PropKind → List ℕ
kind_spelled (kind.One s) = scalar_spelled s ∷ []
kind_spelled (kind.Many s required) = 4 ∷ scalar_spelled s ∷ flag_spelled required ∷ []

-- a property of a type: its name, its kind, and whether it is NOT NULL
abbrev pub property_type_spelled : PropType → List ℕ
property_type_spelled t = spelled t.name ++ kind_spelled t.kind ++ flag_spelled t.required ∷ []

-- the properties of a type: eight bytes of how many, and each
abbrev pub body_spelled : List PropType → List ℕ
body_spelled ts = to_be_bytes w64 (length ts) ++ flat_map property_type_spelled ts

-- a node type: its labels and its properties
abbrev pub node_type_spelled : NodeType → List ℕ
node_type_spelled t = labels_spelled t.labels ++ body_spelled t.body

-- 0 where it is directed and 1 where not, the places of its two node types, its labels and its properties
abbrev pub edge_type_spelled : EdgeType → List ℕ
edge_type_spelled t = flag_spelled (not t.directed) ∷ (to_be_bytes w64 t.first ++ to_be_bytes w64 t.second ++ labels_spelled t.labels ++ body_spelled t.body)

-- eight bytes of how many node types, these, and so the edge types
abbrev pub graph_type_spelled : GraphType → List ℕ
graph_type_spelled t =
    to_be_bytes w64 (length t.nodes) ++ flat_map node_type_spelled t.nodes ++ to_be_bytes w64 (length t.edges) ++ flat_map edge_type_spelled t.edges
