-- Soundness of a catalog: each graph type is in order, and each graph that names a graph type conforms to it.
use Rattle.std.specs.Prelude.{ℕ, Bool, true, false, ◌&&◌, List, Option, Some, None}
use Rattle.std.specs.List.{list_all}
use Rattle.gql_values3.specs.PropertyGraph.{PropertyGraph}
use Rattle.gql_graph.specs.declared.graph_type.GraphType.{GraphType}
use Rattle.gql_graph.specs.Catalog.{CatalogData, is_catalog, named}
use Rattle.gql_type.specs.GraphTypes.{is_graph_type}
use Rattle.gql_type.specs.Conformance.{conforms}

-- the type is there, and the graph conforms to it
abbrev pub conforms_to : PropertyGraph → Option GraphType → Bool
conforms_to g None = false
conforms_to g (Some t) = conforms g t

-- what is asked of a graph by the name of its type, where it has one
abbrev pub fits_kind : List (List ℕ × GraphType) → PropertyGraph → Option (List ℕ) → Bool
fits_kind types g None = true
fits_kind types g (Some name) = conforms_to g (named name types)

-- a catalog whose graph types are in order, and whose graphs are what their types say
abbrev pub is_sound : CatalogData → Bool
is_sound c = is_catalog c && list_all (λ t. is_graph_type t.1) c.types && list_all (λ g. fits_kind c.types g.1.graph g.1.kind) c.graphs
