use Rattle.std.proofs.Common.{◌∙◌, map, ap}
use Rattle.gql_graph.specs.Bare.{bare, bare_held}
use Rattle.gql_graph.proofs.NamedLemmas.{put_under}
use Rattle.gql_graph.proofs.CatalogEdits.{catalog, graph_put, on_ok}
use Rattle.gql_graph.proofs.catalog.Catalog.insert_graph.Goals as goal

pub invariant_of-self : goal.invariant_of-self
invariant_of-self c =
    let none = rw (← c.self.view_is) at c.requires in
    graph_put c.args.name c.self.inside.graphs.items c.put_named.new.items.items c.self.inside.types.items c.self.invariant c.put_named.result c.args.held c.count_nodes-count.ensures.graph none c.put_named.ensures.ok c.put_named.ensures.err

pub returns-clause-ok : goal.returns-clause-ok
returns-clause-ok c =
    let put = put_under bare_held c.args.name c.args.held c.self.inside.graphs.items in
    rw (← c.self.view_is) (on_ok c.put_named.result (λ done. ap (λ gs. catalog gs c.self.inside.types.items) (ap (map bare) done ∙ put)) c.put_named.ensures.ok)
