-- What a store keeps, where it tells.
use Rattle.std.specs.Prelude.{Option, Some, None}
use Rattle.gql_graph.specs.Catalog.{CatalogData}
use Rattle.gql_ports.specs.Held.{Holding}
use Rattle.gql_ports.specs.Told.{MatchTold}
use Rattle.std.specs.Prelude.{◌≡◌}
use Rattle.gql_rowcode.specs.StandFor.{StandFor}

-- the store's records stand for the catalog, where they are told
abbrev pub Keeps : Option Holding → CatalogData → Type 0
Keeps None c = Unit {0}
Keeps (Some h) c = StandFor h.records c

-- the same store, under the same name, which tells as before
abbrev pub IsSameStore : Option Holding → Option Holding → Type 0
IsSameStore before after = MatchTold before after (λ a b. b.name ≡ a.name)
