-- The graph type that a text means: its node types and its edge types, each in the order of the text.
use Rattle.std.specs.Prelude.{ℕ, suc, Bool, true, false, List, [], ◌∷◌, map, Option, Some, None, if◌then◌else◌}
use Rattle.std.specs.List.{dedup}
use Rattle.gql_values3.specs.Texts.{same_text}
use Rattle.gql_ast.specs.declared.change.Arrow.{Arrow}
use Rattle.gql_ast.specs.declared.change.Arrow.TheVariants as arrow
use Rattle.gql_ast.specs.declared.graph_type.TypeProperty.{TypeProperty}
use Rattle.gql_ast.specs.declared.graph_type.ElementBody.{ElementBody}
use Rattle.gql_ast.specs.declared.graph_type.TypeElement.{TypeElement}
use Rattle.gql_ast.specs.declared.graph_type.TypeElement.TheVariants as element
use Rattle.gql_ast.specs.declared.graph_type.TypeBody.{TypeBody}
use Rattle.gql_eval.specs.StableSort.{stably_sorted}
use Rattle.gql_graph.specs.Catalog.{is_before}
use Rattle.gql_graph.specs.declared.graph_type.PropType.{PropType}
use Rattle.gql_graph.specs.declared.graph_type.NodeType.{NodeType}
use Rattle.gql_graph.specs.declared.graph_type.EdgeType.{EdgeType}
use Rattle.gql_graph.specs.declared.graph_type.GraphType.{GraphType}

-- the labels as a set: in order, each once
abbrev pub label_set : List (List ℕ) → List (List ℕ)
label_set labels = dedup same_text (stably_sorted is_before labels)

-- the labels of an element type; where none stand, the empty set
abbrev pub labels_meant : Option (List (List ℕ)) → List (List ℕ)
labels_meant None = []
labels_meant (Some labels) = label_set labels

-- a property of the text, as a property of the type
abbrev pub property_type : TypeProperty → PropType
property_type p = record { name = p.name; kind = p.kind; required = p.required }

-- the property of the lesser name comes first
abbrev pub name_before : PropType → PropType → Bool
name_before a b = is_before a.name b.name

-- the properties in order by name
abbrev pub properties_meant : Option (List TypeProperty) → List PropType
properties_meant None = []
properties_meant (Some ps) = stably_sorted name_before (map property_type ps)

-- the node type of these labels and properties
abbrev pub node_type : ElementBody → NodeType
node_type body = record { labels = labels_meant body.labels; body = properties_meant body.properties }

-- the node types, in the order of the text; edge types are passed over
abbrev pub node_types : List TypeElement → List NodeType
node_types [] = []
node_types (element.Node alias body ∷ es) = node_type body ∷ node_types es
node_types (element.Edge first arrow body second ∷ es) = node_types es

-- an element type has this alias
abbrev pub has_alias : List ℕ → Option (List ℕ) → Bool
has_alias name None = false
has_alias name (Some alias) = same_text name alias

-- the place of the node type of an alias among the node types, from 0
abbrev pub place_of : List ℕ → List TypeElement → ℕ
place_of name [] = 0
place_of name (element.Node alias body ∷ es) = if has_alias name alias then 0 else suc (place_of name es)
place_of name (element.Edge first arrow body second ∷ es) = place_of name es

-- a left arrow is the directed edge the other way round
abbrev pub edge_type : List TypeElement → List ℕ → Arrow → ElementBody → List ℕ → EdgeType
edge_type all a arrow.Right body b = record { directed = true; first = place_of a all; second = place_of b all; labels = labels_meant body.labels; body = properties_meant body.properties }
edge_type all a arrow.Left body b = record { directed = true; first = place_of b all; second = place_of a all; labels = labels_meant body.labels; body = properties_meant body.properties }
edge_type all a arrow.Undirected body b = record { directed = false; first = place_of a all; second = place_of b all; labels = labels_meant body.labels; body = properties_meant body.properties }

-- the edge types, in the order of the text; the aliases of their ends are looked up among all elements
abbrev pub edge_types : List TypeElement → List TypeElement → List EdgeType
edge_types all [] = []
edge_types all (element.Node alias body ∷ es) = edge_types all es
edge_types all (element.Edge a arrow body b ∷ es) = edge_type all a arrow body b ∷ edge_types all es

-- the graph type of a whole body
abbrev pub graph_type_of : TypeBody → GraphType
graph_type_of body = record { nodes = node_types body.elements; edges = edge_types body.elements body.elements }
