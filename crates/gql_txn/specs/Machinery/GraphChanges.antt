-- What a store has to be told where one graph of a catalog is another: what is said of it now and was not said before, and the keys
-- of what is said no more.
use Rattle.std.specs.Prelude.{◌≡◌, ℕ, Bool, true, false, ◌==◌, ◌&&◌, if◌then◌else◌, List, [], ◌∷◌, ◌++◌, map, Option, Some, None}
use Rattle.std.specs.List.{flat_map}
use Rattle.gql_values3.specs.PropertyGraph.{PropertyGraph}
use Rattle.gql_values3.specs.Lookup.{node_of, edge_of, has_node}
use Rattle.gql_values3.specs.declared.records.NodeRecord.{NodeRecord}
use Rattle.gql_values3.specs.declared.records.EdgeRecord.{EdgeRecord}
use Rattle.gql_graph.specs.Catalog.{CatalogGraph}
use Rattle.gql_graph.specs.Edits.{has_edge}
use Rattle.gql_rowcode.specs.Records.{Form, version, graph_type, graph, node, edge, key_of}
use Rattle.gql_rowcode.specs.StandFor.{graph_forms}
use Rattle.gql_txn.specs.Machinery.Same.{same_node, same_edge}

-- the node found is this one
abbrev pub is_node : Option NodeRecord → NodeRecord → Bool
is_node None r = false
is_node (Some old) r = same_node old r

-- the edge found is this one
abbrev pub is_edge : Option EdgeRecord → EdgeRecord → Bool
is_edge None r = false
is_edge (Some old) r = same_edge old r

-- it is said of this graph, too, where that has the same name and the same type
abbrev pub is_said : PropertyGraph → Form → Bool
is_said g version = true
is_said g (graph_type name t) = true
is_said g (graph name kind next_node next_edge) = g.next_node == next_node && g.next_edge == next_edge
is_said g (node name r) = is_node (node_of g r.number) r
is_said g (edge name r) = is_edge (edge_of g r.number) r

-- something is said of this graph that has the same key
abbrev pub is_keyed : PropertyGraph → Form → Bool
is_keyed g version = true
is_keyed g (graph_type name t) = true
is_keyed g (graph name kind next_node next_edge) = true
is_keyed g (node name r) = has_node g r.number
is_keyed g (edge name r) = has_edge g r.number

-- it alone, unless a test holds
abbrev pub unless : Bool → Form → List Form
unless b f = if b then [] else f ∷ []

-- what is said of the graph of this name now, and was not said of the one before
abbrev pub new_forms : List ℕ → PropertyGraph → CatalogGraph → List Form
new_forms name before after = flat_map (λ (f : Form). unless (is_said before f) f) (graph_forms (name, after))

-- the graph before, under the type of the one now
abbrev pub with_type_of : CatalogGraph → PropertyGraph → CatalogGraph
with_type_of after before = record { graph = before; kind = after.kind }

-- what was said of the graph before, and has a key that nothing has now
abbrev pub gone_forms : List ℕ → PropertyGraph → CatalogGraph → List Form
gone_forms name before after = flat_map (λ (f : Form). unless (is_keyed after.graph f) f) (graph_forms (name, with_type_of after before))

-- behind these keys those of what is gone
abbrev pub KeysAlso : List Form → List (List ℕ) → List (List ℕ) → Type 0
KeysAlso forms before after = after ≡ before ++ map key_of forms
