-- Which catalog records stand for.
use Rattle.std.specs.Prelude.{◌≡◌, ℕ, List, [], ◌∷◌, ◌++◌, map, IsTrue, Contains}
use Rattle.std.specs.List.{flat_map, AllByRecursion}
use Rattle.gql_graph.specs.Catalog.{CatalogGraph, CatalogData, initial_catalog}
use Rattle.gql_graph.specs.declared.graph_type.GraphType.{GraphType}
use Rattle.gql_type.specs.SoundCatalog.{is_sound}
use Rattle.gql_ports.specs.Held.{keys_ascend}
use Rattle.gql_ports.specs.declared.stored.Record.{Record}
use Rattle.gql_rowcode.specs.Records.{Form, version, graph_type, graph, node, edge, record_of, IsForm}

-- what is said of a graph of this name
abbrev pub graph_forms : List ℕ × CatalogGraph → List Form
graph_forms p = graph p.0 p.1.kind p.1.graph.next_node p.1.graph.next_edge ∷ (map (node p.0) p.1.graph.nodes ++ map (edge p.0) p.1.graph.edges)

-- what is said of a catalog
abbrev pub catalog_forms : CatalogData → List Form
catalog_forms c = version ∷ (map (λ (t : List ℕ × GraphType). graph_type t.0 t.1) c.types ++ flat_map graph_forms c.graphs)

-- The records are those that say it, by strictly ascending key.
pub record AreRecordsOf (records : List Record) (c : CatalogData) : Type 0 where
  pub ascend : IsTrue (keys_ascend records)
  pub said : (r : Record) → Contains records r → (f : Form) × Contains (catalog_forms c) f × (r ≡ record_of f)
  pub kept : (f : Form) → Contains (catalog_forms c) f → Contains records (record_of f)

-- The records stand for the catalog: none for the initial one; else it is sound, all of it can be said, and they are its records.
abbrev pub StandFor : List Record → CatalogData → Type 0
StandFor [] c = c ≡ initial_catalog
StandFor (r ∷ rs) c = IsTrue (is_sound c) × AllByRecursion IsForm (catalog_forms c) × AreRecordsOf (r ∷ rs) c
