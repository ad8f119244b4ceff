-- A catalog under transactions: as the statements so far left it, and as the store keeps it.
use Rattle.std.specs.Prelude.{Option, Some, None, List, ℕ}
use Rattle.gql_ast.specs.declared.statement.AccessMode.{AccessMode}
use Rattle.gql_values3.specs.PropertyGraph.{PropertyGraph}
use Rattle.gql_values3.specs.declared.element.Elem.{Elem}
use Rattle.gql_graph.specs.Catalog.{CatalogGraph, CatalogData, named, held_in, empty_graph}
use Rattle.gql_graph.specs.declared.graph_type.GraphType.{GraphType}
use Rattle.gql_type.specs.Conformance.{first_misfit}

-- the catalog that statements see, the one that is kept, and the transaction that is open, if one is, by what it may do
pub record TxnData : Type 0 where
  pub catalog : CatalogData
  pub kept : CatalogData
  pub access : Option AccessMode

-- both catalogs are one, and no transaction is open
abbrev pub settled : CatalogData → TxnData
settled c = record { catalog = c; kept = c; access = None }

-- statements see another catalog; the kept one and the transaction stay
abbrev pub with_catalog : TxnData → CatalogData → TxnData
with_catalog t c = record { catalog = c; kept = t.kept; access = t.access }

-- the type of this name among these types, where a name is given
abbrev pub type_named : List (List ℕ × GraphType) → Option (List ℕ) → Option GraphType
type_named types None = None
type_named types (Some name) = named name types

-- the type of a graph of the catalog, where there is such a graph and it has one
abbrev pub type_of_held : CatalogData → Option CatalogGraph → Option GraphType
type_of_held c None = None
type_of_held c (Some g) = type_named c.types g.kind

-- the type of the graph of this name, where it has one
abbrev pub type_of_graph : CatalogData → List ℕ → Option GraphType
type_of_graph c name = type_of_held c (held_in c name)

-- the first element that fits no type, where there is a type
abbrev pub misfit_under : Option GraphType → PropertyGraph → Option Elem
misfit_under None g = None
misfit_under (Some t) g = first_misfit g t

-- of a graph that would take the place of the one of this name
abbrev pub misfit_in : CatalogData → List ℕ → PropertyGraph → Option Elem
misfit_in c name g = misfit_under (type_of_graph c name) g

-- a graph without elements, of the type of this name, where one is given
abbrev pub new_graph : Option (List ℕ) → CatalogGraph
new_graph kind = record { graph = empty_graph; kind = kind }
