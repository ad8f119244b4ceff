-- Whether each graph of a catalog that has a type conforms to it.
use Rattle.std.specs.Prelude.{Bool, ◌&&◌, map, IsTrue}
use Rattle.std.specs.List.{list_all}
use Rattle.gql_graph.specs.Catalog.{CatalogData}
use Rattle.gql_type.specs.SoundCatalog.{fits_kind}
use Rattle.gql_values3.specs.Texts.{texts_ascend}
use Rattle.gql_machine.specs.SessionState.{SessionState}

-- the names of graphs and of types ascend, the type of each graph is there, and the graph conforms to it
abbrev pub is_typed : CatalogData → Bool
is_typed c = texts_ascend (map (λ g. g.0) c.graphs) && texts_ascend (map (λ t. t.0) c.types) && list_all (λ g. fits_kind c.types g.1.graph g.1.kind) c.graphs

-- the catalog that statements see, and the one that is kept
abbrev pub IsTypedState : SessionState → Type 0
IsTypedState s = IsTrue (is_typed s.catalog) × IsTrue (is_typed s.kept)
