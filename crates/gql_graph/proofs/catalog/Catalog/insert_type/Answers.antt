use Rattle.std.proofs.Common.{map}
use Rattle.gql_graph.specs.Bare.{bare}
use Rattle.gql_graph.proofs.CatalogEdits.{type_put}
use Rattle.gql_graph.proofs.catalog.Catalog.insert_type.Goals as goal

pub invariant_of-self : goal.invariant_of-self
invariant_of-self c =
    let none = rw (← c.self.view_is) at c.requires in
    type_put c.args.name (map bare c.self.inside.graphs.items) c.self.inside.types.items c.self.invariant c.put_named.result c.args.kind c.put_named.new.items.items none c.put_named.ensures.ok c.put_named.ensures.err
