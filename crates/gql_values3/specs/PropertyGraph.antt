-- The property graph of GQL: nodes and edges with numbers, labels and properties; which lists and numbers are one.
use Rattle.std.specs.Prelude.{ℕ, zero, suc, ◌^◌, Bool, true, false, ◌&&◌, nat_lt, nat_le, List, [], ◌∷◌, map, ◌==◌}
use Rattle.std.specs.List.{list_all, list_any}
use Rattle.gql_values3.specs.Datum.{Datum, Data, null, boolean, integer, text, list, node, edge, path, no_data, more_data}
use Rattle.gql_values3.specs.Texts.{texts_ascend}
use Rattle.gql_values3.specs.Integers.{is_int64}
use Rattle.gql_values3.specs.declared.element.NodeId.{NodeId}
use Rattle.gql_values3.specs.declared.element.Ends.{Ends}
use Rattle.gql_values3.specs.declared.element.Ends.TheVariants.{Directed, Undirected}
use Rattle.gql_values3.specs.declared.records.NodeRecord.{NodeRecord}
use Rattle.gql_values3.specs.declared.records.EdgeRecord.{EdgeRecord}

-- the nodes, the edges, and the numbers that the next new ones take
pub record PropertyGraph : Type 0 where
  pub nodes : List NodeRecord
  pub edges : List EdgeRecord
  pub next_node : ℕ
  pub next_edge : ℕ

-- low, the numbers and high strictly ascend
abbrev pub numbers_ascend : ℕ → List ℕ → ℕ → Bool
numbers_ascend low [] high = nat_lt low high
numbers_ascend low (n ∷ ns) high = nat_lt low n && numbers_ascend n ns high

-- numbers from 1 on, each once, below the next one, which is at most 4,294,967,295
abbrev pub are_numbers : List ℕ → ℕ → Bool
are_numbers ns next = numbers_ascend 0 ns next && nat_lt next (2 ^ 32)

-- what may stand in a property, nested at most so deep: booleans, integers, strings, NULL, and lists of these; no element and no path
abbrev mutual
  pub is_storable : Datum → ℕ → Bool
  is_storable null k = true
  is_storable (boolean b) k = true
  is_storable (integer z) k = is_int64 z
  is_storable (text t) k = true
  is_storable (list ds) zero = false
  is_storable (list ds) (suc k) = are_storable ds k
  is_storable (node n) k = false
  is_storable (edge e) k = false
  is_storable (path p) k = false

  pub are_storable : Data → ℕ → Bool
  are_storable no_data k = true
  are_storable (more_data d ds) k = is_storable d k && are_storable ds k

-- the value of a property; NULL stands inside lists alone, and lists are nested at most 64 deep
abbrev pub is_property : Datum → Bool
is_property null = false
is_property d = is_storable d 64

-- a property map, kept as a list whose names strictly ascend
abbrev pub are_properties : List (List ℕ × Datum) → Bool
are_properties ps = texts_ascend (map (λ p. p.0) ps) && list_all (λ p. is_property p.1) ps

-- a node of this number is among the records
abbrev pub is_among : List NodeRecord → NodeId → Bool
is_among nodes n = list_any (λ r. r.number.0 == n.0) nodes

-- the endpoints are nodes, and low isn't above high
abbrev pub are_ends : List NodeRecord → Ends → Bool
are_ends nodes (Directed s t) = is_among nodes s && is_among nodes t
are_ends nodes (Undirected l h) = is_among nodes l && is_among nodes h && nat_le l.0 h.0

-- a node of a graph: its labels strictly ascend, and its properties are a property map
abbrev pub is_node_record : NodeRecord → Bool
is_node_record r = texts_ascend r.labels && are_properties r.properties

-- an edge of a graph with these nodes: the same of its labels and properties, and its endpoints are among the nodes
abbrev pub is_edge_record : List NodeRecord → EdgeRecord → Bool
is_edge_record nodes r = texts_ascend r.labels && are_properties r.properties && are_ends nodes r.ends

-- the nodes are those of a graph
abbrev pub are_nodes : List NodeRecord → ℕ → Bool
are_nodes nodes next = are_numbers (map (λ r. r.number.0) nodes) next && list_all is_node_record nodes

-- the edges are those of a graph with these nodes
abbrev pub are_edges : List NodeRecord → List EdgeRecord → ℕ → Bool
are_edges nodes edges next = are_numbers (map (λ r. r.number.0) edges) next && list_all (is_edge_record nodes) edges

-- numbers ascend, endpoints are there, labels and properties are in order
abbrev pub is_graph : PropertyGraph → Bool
is_graph g = are_nodes g.nodes g.next_node && are_edges g.nodes g.edges g.next_edge
