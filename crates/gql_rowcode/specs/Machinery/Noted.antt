-- What is known of the records before a place: a catalog whose types and graphs stand in the order of their records.
use Rattle.std.specs.Prelude.{◌≡◌, ◌≢◌, ℕ, Bool, true, false, not, ◌&&◌, nat_lt, List, [], ◌∷◌, ◌++◌, map, Option, Some, None, IsTrue, if◌then◌else◌}
use Rattle.std.specs.List.{list_all}
use Rattle.gql_values3.specs.PropertyGraph.{are_ends, are_nodes}
use Rattle.gql_values3.specs.declared.records.NodeRecord.{NodeRecord}
use Rattle.gql_values3.specs.declared.records.EdgeRecord.{EdgeRecord}
use Rattle.gql_fields.specs.Machinery.Reading.{◌>>=◌}
use Rattle.gql_graph.specs.Catalog.{CatalogGraph, CatalogData, named, is_before}
use Rattle.gql_graph.specs.declared.graph_type.GraphType.{GraphType}
use Rattle.gql_type.specs.Conformance.{node_fits, edge_fits}
use Rattle.gql_type.specs.GraphTypes.{is_graph_type}
use Rattle.gql_eval.specs.StableSort.{stably_sorted}
use Rattle.gql_ports.specs.declared.stored.Record.{Record}
use Rattle.gql_rowcode.specs.Records.{Form, version, graph_type, graph, node, edge}
use Rattle.gql_rowcode.specs.StandFor.{StandFor}
use Rattle.gql_rowcode.specs.FirstBad.{and_node, and_edge, on_graph, passes_type, FirstBad}
use Rattle.gql_rowcode.specs.Machinery.FormReading.{form_at}
use Rattle.gql_rowcode.specs.Machinery.KeyOrder.{AreListed}
use Rattle.gql_rowcode.specs.declared.seen.GraphSeen.{GraphSeen}
use Rattle.gql_rowcode.specs.declared.seen.Seen.{Seen}

-- a new graph
abbrev pub new_graph : Option (List ℕ) → ℕ → ℕ → CatalogGraph
new_graph kind next_node next_edge = record { graph = record { nodes = []; edges = []; next_node = next_node; next_edge = next_edge }; kind = kind }

-- with one form more, behind the others
abbrev pub note : CatalogData → Form → CatalogData
note c version = c
note c (graph_type name t) = record { graphs = c.graphs; types = c.types ++ (name, t) ∷ [] }
note c (graph name kind next_node next_edge) = record { graphs = c.graphs ++ (name, new_graph kind next_node next_edge) ∷ []; types = c.types }
note c (node name r) = on_graph name (and_node r) c
note c (edge name r) = on_graph name (and_edge r) c

-- a graph takes the node
abbrev pub node_joins : List (List ℕ × GraphType) → NodeRecord → Option CatalogGraph → Bool
node_joins types r None = false
node_joins types r (Some g) = nat_lt 0 r.number.0 && nat_lt r.number.0 g.graph.next_node && passes_type (λ t. node_fits t r) types g.kind

-- a graph takes the edge
abbrev pub edge_joins : List (List ℕ × GraphType) → EdgeRecord → Option CatalogGraph → Bool
edge_joins types r None = false
edge_joins types r (Some g) =
    nat_lt 0 r.number.0 && nat_lt r.number.0 g.graph.next_edge && are_ends g.graph.nodes r.ends && passes_type (λ t. edge_fits g.graph t r) types g.kind

abbrev pub graph_joins : List (List ℕ × GraphType) → Option (List ℕ) → ℕ → ℕ → Bool
graph_joins types kind next_node next_edge = nat_lt 0 next_node && nat_lt 0 next_edge && passes_type (λ t. true) types kind

-- the form may be told next; first: as the first of all
abbrev pub may_join : Bool → CatalogData → Form → Bool
may_join first c version = first
may_join first c (graph_type name t) = not first && is_graph_type t
may_join first c (graph name kind next_node next_edge) = not first && graph_joins c.types kind next_node next_edge
may_join first c (node name r) = node_joins c.types r (named name c.graphs)
may_join first c (edge name r) = edge_joins c.types r (named name c.graphs)

-- what is known after one form more, where it may be told
abbrev pub noted_after : Bool → CatalogData → Form → Option CatalogData
noted_after first c f = if may_join first c f then Some (note c f) else None

-- after one record more, behind one of this key
unfoldable pub record_after : List ℕ → Bool → CatalogData → List ℕ → List ℕ → Option CatalogData
record_after last first c key value = if is_before last key then (form_at key value >>= noted_after first c) else None

-- by name
abbrev pub name_before : {A : Type 0} → List ℕ × A → List ℕ × A → Bool
name_before a b = is_before a.0 b.0

-- the catalog, with its graphs and types in order by name
abbrev pub in_order : CatalogData → CatalogData
in_order c = record { graphs = stably_sorted name_before c.graphs; types = stably_sorted name_before c.types }

-- types and nodes are in order, and stand in the order of keys
pub record IsNoted (c : CatalogData) : Type 0 where
  pub types_listed : AreListed c.types
  pub graphs_listed : AreListed c.graphs
  pub types_fit : IsTrue (list_all (λ t. is_graph_type t.1) c.types)
  pub nodes_fit : IsTrue (list_all (λ g. are_nodes g.1.graph.nodes g.1.graph.next_node) c.graphs)

-- The records were read to the last, and this is what is known of them.
pub record WasRead (records : List Record) (c : CatalogData) : Type 0 where
  pub stand : records ≢ [] → StandFor records (in_order c)
  pub no_fault : (i : ℕ) → ¬ FirstBad records i

-- a graph as the code has it
abbrev pub graph_seen : GraphSeen → CatalogGraph
graph_seen g = record { graph = record { nodes = g.nodes; edges = g.edges; next_node = g.next_node; next_edge = g.next_edge }; kind = g.kind }

abbrev pub named_seen : List ℕ × GraphSeen → List ℕ × CatalogGraph
named_seen g = (g.0, graph_seen g.1)

-- what the code knows
abbrev pub noted_of : Seen → CatalogData
noted_of s = record { graphs = map named_seen s.graphs.items; types = s.types.items }

-- with a node more, with an edge more
abbrev pub with_node_seen : NodeRecord → List ℕ × GraphSeen → List ℕ × GraphSeen
with_node_seen r g = (g.0, record g.1 { nodes = g.1.nodes ++ r ∷ [] })

abbrev pub with_edge_seen : EdgeRecord → List ℕ × GraphSeen → List ℕ × GraphSeen
with_edge_seen r g = (g.0, record g.1 { edges = g.1.edges ++ r ∷ [] })
