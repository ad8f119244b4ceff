-- A graph that a catalog holds, without the room that it has in memory.
use Rattle.std.specs.Prelude.{ℕ, List}
use Rattle.gql_graph.specs.Catalog.{CatalogGraph}
use Rattle.gql_graph.specs.declared.held.Held.{Held}

-- the graph and the name of its type alone
abbrev pub bare_held : Held → CatalogGraph
bare_held h = record { graph = h.graph.graph; kind = h.kind }

-- with its name
abbrev pub bare : List ℕ × Held → List ℕ × CatalogGraph
bare g = (g.0, bare_held g.1)
