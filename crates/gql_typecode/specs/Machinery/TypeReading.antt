-- Reading the graph type that bytes spell, from left to right: a part and the bytes after it, or nothing where none is spelled.
use Rattle.std.specs.Prelude.{ℕ, not, List, [], ◌∷◌, map, length, Option, Some, None, ◌==◌, if◌then◌else◌}
use Rattle.std.specs.Int.{w64}
use Rattle.gql_values3.specs.Texts.{texts_ascend}
use Rattle.gql_values3.specs.declared.prop_kind.Scalar.{Scalar}
use Rattle.gql_values3.specs.declared.prop_kind.Scalar.TheVariants as scalar
use Rattle.gql_values3.specs.declared.prop_kind.PropKind.{PropKind}
use Rattle.gql_values3.specs.declared.prop_kind.PropKind.TheVariants as kind
use Rattle.gql_graph.specs.declared.graph_type.PropType.{PropType}
use Rattle.gql_graph.specs.declared.graph_type.NodeType.{NodeType}
use Rattle.gql_graph.specs.declared.graph_type.EdgeType.{EdgeType}
use Rattle.gql_graph.specs.declared.graph_type.GraphType.{GraphType}
use Rattle.gql_fields.specs.Machinery.Reading.{◌>>=◌, number_at, text_at, flag_at, counted_at, labels_at}
use Rattle.gql_typecode.specs.declared.type_ends.TypeEnds.{TypeEnds}

-- the first byte
unfoldable pub byte_at : List ℕ → Option (ℕ × List ℕ)
byte_at [] = None
byte_at (byte ∷ bytes) = Some (byte, bytes)

-- a scalar, as a byte tells
abbrev pub scalar_told : ℕ → Option Scalar
scalar_told byte =
    if byte == 1 then Some scalar.Bool
    else (if byte == 2 then Some scalar.Int else (if byte == 3 then Some scalar.Text else None))

-- the items of a list, behind the byte that tells of a list
unfoldable pub items_kind_at : List ℕ → Option (PropKind × List ℕ)
items_kind_at bytes = do
  byte ← byte_at bytes
  item ← scalar_told byte.0
  required ← flag_at byte.1
  Some (kind.Many item required.0, required.1)

-- a kind behind its first byte
abbrev pub kind_behind : ℕ × List ℕ → Option (PropKind × List ℕ)
kind_behind byte = if byte.0 == 4 then items_kind_at byte.1 else (scalar_told byte.0 >>= λ item. Some (kind.One item, byte.1))

unfoldable pub kind_at : List ℕ → Option (PropKind × List ℕ)
kind_at bytes = byte_at bytes >>= kind_behind

unfoldable pub property_type_at : List ℕ → Option (PropType × List ℕ)
property_type_at bytes = do
  name ← text_at bytes
  kind ← kind_at name.1
  required ← flag_at kind.1
  Some (record { name = name.0; kind = kind.0; required = required.0 }, required.1)

-- the properties of a type, behind their count
unfoldable pub body_at : List ℕ → Option (List PropType × List ℕ)
body_at bytes = do
  body ← counted_at property_type_at bytes
  if texts_ascend (map (λ (t : PropType). t.name) body.0) then Some body else None

unfoldable pub node_type_at : List ℕ → Option (NodeType × List ℕ)
node_type_at bytes = do
  labels ← labels_at bytes
  body ← body_at labels.1
  Some (record { labels = labels.0; body = body.0 }, body.1)

-- the direction and the places of an edge type
unfoldable pub ends_at : List ℕ → Option (TypeEnds × List ℕ)
ends_at bytes = do
  undirected ← flag_at bytes
  first ← number_at w64 undirected.1
  second ← number_at w64 first.1
  Some (record { directed = not undirected.0; first = first.0; second = second.0 }, second.1)

-- an edge type of these
abbrev pub edge_type_between : TypeEnds → List (List ℕ) → List PropType → EdgeType
edge_type_between ends labels body = record { directed = ends.directed; first = ends.first; second = ends.second; labels = labels; body = body }

unfoldable pub edge_type_at : List ℕ → Option (EdgeType × List ℕ)
edge_type_at bytes = do
  ends ← ends_at bytes
  labels ← labels_at ends.1
  body ← body_at labels.1
  Some (edge_type_between ends.0 labels.0 body.0, body.1)

unfoldable pub graph_type_at : List ℕ → Option (GraphType × List ℕ)
graph_type_at bytes = do
  nodes ← counted_at node_type_at bytes
  edges ← counted_at edge_type_at nodes.1
  Some (record { nodes = nodes.0; edges = edges.0 }, edges.1)

-- a graph type to the last byte
unfoldable pub whole_type_at : List ℕ → Option GraphType
whole_type_at bytes = do
  found ← graph_type_at bytes
  if length found.1 == 0 then Some found.0 else None
