use Rattle.std.proofs.Common.{◌&&◌, ◌∙◌}
use Rattle.gql_graph.proofs.CatalogEdits.{told_by_names}
use Rattle.gql_graph.proofs.catalog.is_catalog.Goals as goal

pub returns : goal.returns
returns c = (λ i. c.keys_ascend.ensures i && c.keys_ascend-2.ensures i) ∙ told_by_names c.args.graphs.now c.args.types.now c.show_graphs.ensures
