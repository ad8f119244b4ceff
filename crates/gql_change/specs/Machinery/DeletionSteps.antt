-- The steps by which a deletion is planned: where names stand, which numbers go, and what is left on a node.
use Rattle.std.specs.Prelude.{◌≡◌, ℕ, Bool, not, ◌==◌, List, [], ◌∷◌, ◌++◌, map, filter, find, reverse, slice_get, position, Option, Some, None, Result, Ok, Err, if◌then◌else◌}
use Rattle.std.specs.List.{list_any, flat_map}
use Rattle.gql_values3.specs.Datum.{Datum, null}
use Rattle.gql_values3.specs.Texts.{same_text}
use Rattle.gql_values3.specs.PropertyGraph.{PropertyGraph}
use Rattle.gql_values3.specs.Lookup.{has_node, touching_edges}
use Rattle.gql_values3.specs.declared.element.EdgeId.{EdgeId}
use Rattle.gql_values3.specs.declared.element.Elem.{Elem}
use Rattle.gql_values3.specs.declared.element.Elem.TheVariants as elem
use Rattle.gql_values3.specs.declared.records.NodeRecord.{NodeRecord}
use Rattle.gql_values3.specs.declared.table.ColumnKind.{ColumnKind}
use Rattle.gql_ast.specs.ClauseColumns.{ColumnList}
use Rattle.gql_ast.specs.declared.change.Detachment.{Detachment}
use Rattle.gql_ast.specs.declared.change.Detachment.TheVariants as detachment
use Rattle.gql_ast.specs.declared.refusal.Refusal.{Refusal}
use Rattle.gql_ast.specs.declared.refusal.Refusal.TheVariants as refusal
use Rattle.gql_graph.specs.Edits.{node_key, edge_key, has_edge}
use Rattle.gql_graph.specs.declared.change.Change.{Change}
use Rattle.gql_graph.specs.declared.change.Change.TheVariants as change
use Rattle.std.specs.Option.{option_or}
use Rattle.gql_change.specs.Deletion.{elements_in, is_named, edge_goes, first_left, deleted}
use Rattle.gql_change.specs.Plans.{LeadTo}
use Rattle.gql_change.specs.declared.fault.ChangeFault.{ChangeFault}
use Rattle.gql_change.specs.declared.fault.ChangeFault.TheVariants as fault

-- the first column of a name, from 0
abbrev pub column_place : ColumnList → List ℕ → Option ℕ
column_place columns x = position (λ (c : List ℕ × ColumnKind). same_text x c.0) columns

-- what a row has at a place; NULL where it has nothing
abbrev pub datum_or_null : Option Datum → Datum
datum_or_null None = null
datum_or_null (Some d) = d

abbrev pub value_at : List Datum → Option ℕ → Datum
value_at row None = null
value_at row (Some i) = datum_or_null (slice_get row i)

-- the elements of a row at some places
abbrev pub elements_at : List Datum → Option ℕ → List Elem
elements_at row place = elements_in (value_at row place)

abbrev pub row_elements : List (Option ℕ) → List Datum → List Elem
row_elements places row = flat_map (elements_at row) places

-- the number is among them
abbrev pub has_number : List ℕ → ℕ → Bool
has_number ns n = list_any (λ m. n == m) ns

-- the number of a node, or of an edge, that is in the graph
abbrev pub node_there : PropertyGraph → Elem → List ℕ
node_there g (elem.Node n) = if has_node g n then n.0 ∷ [] else []
node_there g (elem.Edge e) = []

abbrev pub edge_there : PropertyGraph → Elem → List ℕ
edge_there g (elem.Node n) = []
edge_there g (elem.Edge e) = if has_edge g e then e.0 ∷ [] else []

-- the edges on a node, by number
abbrev pub touching_numbers : PropertyGraph → ℕ → List ℕ
touching_numbers g n = map (λ (e : EdgeId). e.0) (touching_edges g (record { 0 = n }))

-- the nodes and the edges that go, each once, by ascending number
abbrev pub deleted_nodes : List Elem → PropertyGraph → List ℕ
deleted_nodes es g = map node_key (filter (λ (r : NodeRecord). is_named es (elem.Node r.number)) g.nodes)

abbrev pub deleted_edges : Detachment → List Elem → PropertyGraph → List ℕ
deleted_edges d es g = map edge_key (filter (edge_goes d es) g.edges)

-- the first edge on a node that is not among these
abbrev pub other_edge : List ℕ → PropertyGraph → ℕ → Option EdgeId
other_edge edges g n = find (λ (e : EdgeId). not (has_number edges e.0)) (touching_edges g (record { 0 = n }))

abbrev pub refused_at : ℕ → Option EdgeId → Option Refusal
refused_at n None = None
refused_at n (Some e) = Some (refusal.Edges (record { 0 = n }) e)

-- the refusal of the first of these nodes that has such an edge
abbrev pub other_edges : List ℕ → PropertyGraph → List ℕ → Option Refusal
other_edges edges g [] = None
other_edges edges g (n ∷ ns) = option_or (refused_at n (other_edge edges g n)) (other_edges edges g ns)

-- with DETACH no edge is left
abbrev pub refusal_of : Detachment → List ℕ → PropertyGraph → List ℕ → Option Refusal
refusal_of detachment.Detach edges g nodes = None
refusal_of detachment.NoDetach edges g nodes = other_edges edges g nodes

-- a list is cut from its end: edges from the greatest to the least, and then nodes
abbrev pub edge_out : ℕ → Change
edge_out n = change.OutEdge (record { 0 = n })

abbrev pub node_out : ℕ → Change
node_out n = change.OutNode (record { 0 = n })

abbrev pub outs : List ℕ → List ℕ → List Change
outs nodes edges = map edge_out (reverse edges) ++ map node_out (reverse nodes)

-- the changes of a deletion of these elements, or its refusal
abbrev pub Deletes : Detachment → List Elem → PropertyGraph → Result (List Change) ChangeFault → Type 0
Deletes d es g (Ok cs) = (first_left d es g g.nodes ≡ None) × LeadTo g cs (deleted d es g)
Deletes d es g (Err fault.OutOfMemory) = Unit {0}
Deletes d es g (Err (fault.Refused r)) = first_left d es g g.nodes ≡ Some r
