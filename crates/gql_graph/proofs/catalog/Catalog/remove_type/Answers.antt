use Rattle.std.proofs.Common.{map}
use Rattle.gql_graph.specs.Bare.{bare}
use Rattle.gql_graph.proofs.CatalogEdits.{fewer_types}
use Rattle.gql_graph.proofs.catalog.Catalog.remove_type.Goals as goal

pub invariant_of-self : goal.invariant_of-self
invariant_of-self c = fewer_types c.args.name.now (map bare c.self.inside.graphs.items) c.self.inside.types.items c.self.invariant c.take_named.new.items.items c.take_named.ensures
