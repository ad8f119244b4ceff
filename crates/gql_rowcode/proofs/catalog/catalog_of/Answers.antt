use Rattle.std.proofs.Common.{◌≡◌, ◌∙◌, refl, ap, map, Some}
use Rattle.gql_graph.specs.Catalog.{CatalogData}
use Rattle.gql_graph.specs.Bare.{bare}
use Rattle.gql_rowcode.specs.Machinery.Noted.{in_order, noted_of, named_seen}
use Rattle.gql_rowcode.proofs.CatalogLemmas.{catalog_is, read_graphs, of_made, one_made}
use Rattle.gql_rowcode.proofs.catalog.catalog_of.Goals as goal

pub held_graphs-requires : goal.held_graphs-requires
held_graphs-requires c = rw c.in_ok-graphs_in_order.ensures (read_graphs c.args.seen c.requires)

pub unwrap-requires : goal.unwrap-requires
unwrap-requires c =
    let graphs = c.in_ok-graphs.ensures ∙ ap (map named_seen) c.in_ok-graphs_in_order.ensures in
    let same = catalog_is c.args.seen c.in_ok-graphs.graphs.items c.in_ok-types.types.items graphs c.in_ok-types.ensures in
    rw (of_made c.args.seen c.of.result (record { graphs = map bare c.in_ok-graphs.graphs.items; types = c.in_ok-types.types.items }) same c.requires c.of.ensures) refl

pub returns : goal.returns
returns c =
    let graphs = c.in_ok-graphs.ensures ∙ ap (map named_seen) c.in_ok-graphs_in_order.ensures in
    let same = catalog_is c.args.seen c.in_ok-graphs.graphs.items c.in_ok-types.types.items graphs c.in_ok-types.ensures in
    one_made c.unwrap.result (in_order (noted_of c.args.seen)) c.of.result c.unwrap.ensures
    (of_made c.args.seen c.of.result (record { graphs = map bare c.in_ok-graphs.graphs.items; types = c.in_ok-types.types.items }) same c.requires c.of.ensures)
