-- The catalog: graphs by name, and graph types by name.
use Rattle.std.specs.Prelude.{ℕ, Bool, ◌&&◌, if◌then◌else◌, List, [], ◌∷◌, map, Option, None, option_map, not, find, filter, codes}
use Rattle.std.specs.List.{list_all}
use Rattle.std.specs.Ordering.{is_lt, nat_cmp}
use Rattle.std.specs.Cmp.Lexicographic.{slice_cmp}
use Rattle.gql_values3.specs.Texts.{same_text, texts_ascend}
use Rattle.gql_values3.specs.PropertyGraph.{PropertyGraph, is_graph}
use Rattle.gql_graph.specs.declared.graph_type.GraphType.{GraphType}

-- a graph of a catalog: with the name of its graph type, where it has one
pub record CatalogGraph : Type 0 where
  pub graph : PropertyGraph
  pub kind : Option (List ℕ)

-- a catalog: its graphs by strictly ascending name, and its graph types
pub record CatalogData : Type 0 where
  pub graphs : List (List ℕ × CatalogGraph)
  pub types : List (List ℕ × GraphType)

-- a graph without a type
abbrev pub untyped : PropertyGraph → CatalogGraph
untyped g = record { graph = g; kind = None }

-- what stands under a name, where something does
abbrev pub named : {X : Type 0} → List ℕ → List (List ℕ × X) → Option X
named {X} name xs = option_map (λ (x : List ℕ × X). x.1) (find (λ x. same_text name x.0) xs)

-- by bytes; a beginning is less
abbrev pub is_before : List ℕ → List ℕ → Bool
is_before a b = is_lt (slice_cmp nat_cmp a b)

-- among others in order, one more: before the first of a greater name
abbrev pub put_named : {X : Type 0} → List ℕ → X → List (List ℕ × X) → List (List ℕ × X)
put_named name x [] = (name, x) ∷ []
put_named name x (y ∷ ys) = if is_before name y.0 then (name, x) ∷ y ∷ ys else y ∷ put_named name x ys

-- without what stands under the name
abbrev pub without_named : {X : Type 0} → List ℕ → List (List ℕ × X) → List (List ℕ × X)
without_named {X} name xs = filter (λ (x : List ℕ × X). not (same_text name x.0)) xs

-- the graph of a name, where there is one
abbrev pub graph_of : CatalogData → List ℕ → Option PropertyGraph
graph_of c name = option_map (λ (g : List ℕ × CatalogGraph). g.1.graph) (find (λ g. same_text name g.0) c.graphs)

-- the same with the name of its type
abbrev pub held_in : CatalogData → List ℕ → Option CatalogGraph
held_in c name = named name c.graphs

-- the graph type of a name, where there is one
abbrev pub type_in : CatalogData → List ℕ → Option GraphType
type_in c name = named name c.types

-- the names of the graphs and those of the types strictly ascend, and each graph is one
abbrev pub is_catalog : CatalogData → Bool
is_catalog c = texts_ascend (map (λ g. g.0) c.graphs) && texts_ascend (map (λ t. t.0) c.types) && list_all (λ g. is_graph g.1.graph) c.graphs

-- with a graph of a name that no graph has
abbrev pub with_graph : List ℕ → CatalogGraph → CatalogData → CatalogData
with_graph name g c = record { graphs = put_named name g c.graphs; types = c.types }

-- without the graph of the name; where there is none, all stays
abbrev pub without_graph : List ℕ → CatalogData → CatalogData
without_graph name c = record { graphs = without_named name c.graphs; types = c.types }

-- with a graph type of a name that no graph type has
abbrev pub with_type : List ℕ → GraphType → CatalogData → CatalogData
with_type name t c = record { graphs = c.graphs; types = put_named name t c.types }

-- without the graph type of the name; where there is none, all stays
abbrev pub without_type : List ℕ → CatalogData → CatalogData
without_type name c = record { graphs = c.graphs; types = without_named name c.types }

-- with another graph in the place of the one of the name, which keeps its type
abbrev pub replaced : List ℕ → PropertyGraph → CatalogData → CatalogData
replaced name graph c = record {
  graphs = map (λ (g : List ℕ × CatalogGraph). if same_text name g.0 then (g.0, record { graph = graph; kind = g.1.kind }) else g) c.graphs;
  types = c.types;
}

-- a graph without elements; the first node and the first edge take number 1
abbrev pub empty_graph : PropertyGraph
empty_graph = record { nodes = []; edges = []; next_node = 1; next_edge = 1 }

-- the catalog of one graph without a type
abbrev pub catalog_with : List ℕ → PropertyGraph → CatalogData
catalog_with name g = record { graphs = (name, untyped g) ∷ []; types = [] }

-- what a store without records stands for: one empty graph of the name home
abbrev pub initial_catalog : CatalogData
initial_catalog = catalog_with (codes "home") empty_graph
