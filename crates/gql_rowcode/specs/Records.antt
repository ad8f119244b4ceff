-- The records of a store: what each says, and how it is spelled in bytes as a key and a value. Numbers stand high byte first.
use Rattle.std.specs.Prelude.{◌≡◌, ℕ, ◌<◌, ◌^◌, List, [], ◌∷◌, ◌++◌, Option, Some, None}
use Rattle.std.specs.Int.{to_be_bytes, w32}
use Rattle.gql_values3.specs.declared.element.Ends.{Ends}
use Rattle.gql_values3.specs.declared.element.Ends.TheVariants.{Directed, Undirected}
use Rattle.gql_values3.specs.declared.records.NodeRecord.{NodeRecord}
use Rattle.gql_values3.specs.declared.records.EdgeRecord.{EdgeRecord}
use Rattle.gql_graph.specs.declared.graph_type.GraphType.{GraphType}
use Rattle.gql_ports.specs.declared.stored.Record.{Record}
use Rattle.gql_fields.specs.Spelling.{spelled, content_spelled}
use Rattle.gql_fields.specs.Kept.{IsText, IsKeptContent}
use Rattle.gql_typecode.specs.TypeSpelling.{graph_type_spelled}
use Rattle.gql_typecode.specs.KeptTypes.{IsKeptType}

-- what a record says
pub data Form : Type 0 where
  -- the records are of version 1
  version : Form
  -- there is a graph type of this name
  graph_type : List ℕ → GraphType → Form
  -- there is a graph of this name; the name of its type, where it has one; the numbers that its next node and its next edge take
  graph : List ℕ → Option (List ℕ) → ℕ → ℕ → Form
  -- the graph of this name has this node
  node : List ℕ → NodeRecord → Form
  -- it has this edge
  edge : List ℕ → EdgeRecord → Form

-- the type of a graph: 0 where it has none, else 1 and its name
abbrev pub type_name_spelled : Option (List ℕ) → List ℕ
type_name_spelled None = 0 ∷ []
type_name_spelled (Some name) = 1 ∷ spelled name

-- the ends of an edge: 0 where it is directed and 1 where not, and the numbers of its nodes
abbrev pub ends_spelled : Ends → List ℕ
ends_spelled (Directed source target) = 0 ∷ (to_be_bytes w32 source.0 ++ to_be_bytes w32 target.0)
ends_spelled (Undirected low high) = 1 ∷ (to_be_bytes w32 low.0 ++ to_be_bytes w32 high.0)

-- the key of what is said of a node of this number
abbrev pub node_key : List ℕ → ℕ → List ℕ
node_key name n = 3 ∷ (spelled name ++ to_be_bytes w32 n)

-- and of an edge
abbrev pub edge_key : List ℕ → ℕ → List ℕ
edge_key name n = 4 ∷ (spelled name ++ to_be_bytes w32 n)

-- a key: a byte that tells what it is about, a name, and a number where it is about an element
abbrev pub key_of : Form → List ℕ
key_of version = 0 ∷ []
key_of (graph_type name t) = 1 ∷ spelled name
key_of (graph name kind next_node next_edge) = 2 ∷ spelled name
key_of (node name r) = node_key name r.number.0
key_of (edge name r) = edge_key name r.number.0

-- a value: what is said of the thing that the key names
abbrev pub value_of : Form → List ℕ
value_of version = 1 ∷ []
value_of (graph_type name t) = graph_type_spelled t
value_of (graph name kind next_node next_edge) = type_name_spelled kind ++ to_be_bytes w32 next_node ++ to_be_bytes w32 next_edge
value_of (node name r) = content_spelled r.labels r.properties
value_of (edge name r) = ends_spelled r.ends ++ content_spelled r.labels r.properties

-- the record that says it
abbrev pub record_of : Form → Record
record_of f = record { key = key_of f; value = value_of f }

-- the name of a graph's type, where it has one, is a text
abbrev pub IsKeptName : Option (List ℕ) → Type 0
IsKeptName None = Unit {0}
IsKeptName (Some name) = IsText name

-- the numbers of its nodes fit in four bytes
abbrev pub AreKeptEnds : Ends → Type 0
AreKeptEnds (Directed source target) = (source.0 < 2 ^ 32) × (target.0 < 2 ^ 32)
AreKeptEnds (Undirected low high) = (low.0 < 2 ^ 32) × (high.0 < 2 ^ 32)

-- what can be said: numbers fit in four bytes, sets are in order, texts are UTF-8
abbrev pub IsForm : Form → Type 0
IsForm version = Unit {0}
IsForm (graph_type name t) = IsText name × IsKeptType t
IsForm (graph name kind next_node next_edge) = IsText name × IsKeptName kind × (next_node < 2 ^ 32) × (next_edge < 2 ^ 32)
IsForm (node name r) = IsText name × (r.number.0 < 2 ^ 32) × IsKeptContent r.labels r.properties
IsForm (edge name r) = IsText name × (r.number.0 < 2 ^ 32) × AreKeptEnds r.ends × IsKeptContent r.labels r.properties

-- the record says it, and it can be said
abbrev pub Says : Form → Record → Type 0
Says f r = IsForm f × (r ≡ record_of f)
