-- Which record of a list is at fault: the first one that can't stand where it stands.
use Rattle.std.specs.Prelude.{◌≡◌, ◌≢◌, ℕ, ◌<◌, Bool, true, false, if◌then◌else◌, List, [], ◌∷◌, ◌++◌, map, length, take, slice_get, is_some, Option, Some, None, IsTrue}
use Rattle.std.specs.List.{AllByRecursion}
use Rattle.gql_values3.specs.PropertyGraph.{PropertyGraph, are_ends}
use Rattle.gql_values3.specs.Texts.{same_text}
use Rattle.gql_values3.specs.declared.records.NodeRecord.{NodeRecord}
use Rattle.gql_values3.specs.declared.records.EdgeRecord.{EdgeRecord}
use Rattle.gql_graph.specs.Catalog.{CatalogGraph, CatalogData, named, held_in, with_graph, with_type}
use Rattle.gql_graph.specs.declared.graph_type.GraphType.{GraphType}
use Rattle.gql_type.specs.Conformance.{node_fits, edge_fits}
use Rattle.gql_type.specs.GraphTypes.{is_graph_type}
use Rattle.gql_ports.specs.Held.{keys_ascend}
use Rattle.gql_ports.specs.declared.stored.Record.{Record}
use Rattle.gql_rowcode.specs.Records.{Form, version, graph_type, graph, node, edge, record_of, IsForm}

-- with one more node at the end
abbrev pub and_node : NodeRecord → PropertyGraph → PropertyGraph
and_node r g = record g { nodes = g.nodes ++ r ∷ [] }

-- with one more edge at the end
abbrev pub and_edge : EdgeRecord → PropertyGraph → PropertyGraph
and_edge r g = record g { edges = g.edges ++ r ∷ [] }

-- with the graph of this name changed
abbrev pub on_graph : List ℕ → (PropertyGraph → PropertyGraph) → CatalogData → CatalogData
on_graph name change c = record c { graphs = map (λ (p : List ℕ × CatalogGraph). if same_text name p.0 then (p.0, record { graph = change p.1.graph; kind = p.1.kind }) else p) c.graphs }

-- the catalog, with what is said
abbrev pub with_form : CatalogData → Form → CatalogData
with_form c version = c
with_form c (graph_type name t) = with_type name t c
with_form c (graph name kind next_node next_edge) = with_graph name (record { graph = record { nodes = []; edges = []; next_node = next_node; next_edge = next_edge }; kind = kind }) c
with_form c (node name r) = on_graph name (and_node r) c
with_form c (edge name r) = on_graph name (and_edge r) c

-- what is said one after the other, on top of a catalog
abbrev pub with_forms : CatalogData → List Form → CatalogData
with_forms c [] = c
with_forms c (f ∷ fs) = with_forms (with_form c f) fs

-- what these forms describe so far
abbrev pub described : List Form → CatalogData
described forms = with_forms (record { graphs = []; types = [] }) forms

-- there is a type, and a test holds of it
abbrev pub by_type : (GraphType → Bool) → Option GraphType → Bool
by_type test None = false
by_type test (Some t) = test t

-- the graph has no type, or a test holds of its type, which is one of these
abbrev pub passes_type : (GraphType → Bool) → List (List ℕ × GraphType) → Option (List ℕ) → Bool
passes_type test types None = true
passes_type test types (Some name) = by_type test (named name types)

-- a node that may come to the graph: its number is below the graph's next one, and it fits the graph's type
abbrev pub JoinsAsNode : List (List ℕ × GraphType) → NodeRecord → Option CatalogGraph → Type 0
JoinsAsNode types r None = ⊥
JoinsAsNode types r (Some g) = (0 < r.number.0) × (r.number.0 < g.graph.next_node) × IsTrue (passes_type (λ t. node_fits t r) types g.kind)

-- an edge that may come to the graph: its nodes are there, too, and low isn't above high
abbrev pub JoinsAsEdge : List (List ℕ × GraphType) → EdgeRecord → Option CatalogGraph → Type 0
JoinsAsEdge types r None = ⊥
JoinsAsEdge types r (Some g) =
    (0 < r.number.0) × (r.number.0 < g.graph.next_edge) × IsTrue (are_ends g.graph.nodes r.ends) × IsTrue (passes_type (λ t. edge_fits g.graph t r) types g.kind)

-- Behind forms that say this, such a one may stand: the version is the first and stands nowhere else; the ends of edge types are node
-- types; next numbers aren't 0; whatever a form names stands before it.
abbrev pub Follows : List Form → Form → Type 0
Follows before version = before ≡ []
Follows before (graph_type name t) = (before ≢ []) × IsTrue (is_graph_type t)
Follows before (graph name kind next_node next_edge) = (before ≢ []) × IsTrue (passes_type (λ t. true) (described before).types kind) × (0 < next_node) × (0 < next_edge)
Follows before (node name r) = JoinsAsNode (described before).types r (held_in (described before) name)
Follows before (edge name r) = JoinsAsEdge (described before).types r (held_in (described before) name)

-- The record isn't at fault behind these, which say what the forms say: keys ascend, its bytes are a form's to their last, and it may
-- stand there.
pub record IsGood (before : List Record) (found : Record) : Type 0 where
  pub forms : List Form
  pub earlier : before ≡ map record_of forms
  pub earlier_fit : AllByRecursion IsForm forms
  pub form : Form
  pub fits : IsForm form
  pub spelled : found ≡ record_of form
  pub ordered : IsTrue (keys_ascend (before ++ found ∷ []))
  pub follows : Follows forms form

-- The record of that place, from 0, is the first at fault.
pub record FirstBad (records : List Record) (index : ℕ) : Type 0 where
  pub there : index < length records
  pub earlier : (i : ℕ) (r : Record) → i < index → slice_get records i ≡ Some r → IsGood (take i records) r
  pub fault : (r : Record) → slice_get records index ≡ Some r → ¬ IsGood (take index records) r
