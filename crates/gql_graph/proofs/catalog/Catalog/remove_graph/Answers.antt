use Rattle.std.proofs.Common.{◌∙◌, map, ap}
use Rattle.gql_graph.specs.Bare.{bare, bare_held}
use Rattle.gql_graph.proofs.NamedLemmas.{without_under}
use Rattle.gql_graph.proofs.CatalogEdits.{catalog, graph_taken}
use Rattle.gql_graph.proofs.catalog.Catalog.remove_graph.Goals as goal

pub invariant_of-self : goal.invariant_of-self
invariant_of-self c = graph_taken c.args.name.now c.self.inside.graphs.items c.take_named.new.items.items c.self.inside.types.items c.self.invariant c.take_named.ensures

pub returns : goal.returns
returns c =
    let taken = without_under bare_held c.args.name.now c.self.inside.graphs.items in
    rw (← c.self.view_is) (ap (λ gs. catalog gs c.self.inside.types.items) (ap (map bare) c.take_named.ensures ∙ taken))
