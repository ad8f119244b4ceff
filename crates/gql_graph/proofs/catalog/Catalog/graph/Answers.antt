use Rattle.gql_values3.specs.Texts.{same_text}
use Rattle.gql_graph.proofs.CatalogLemmas.{find-bare}
use Rattle.gql_graph.proofs.catalog.Catalog.graph.Goals as goal

pub returns-clause-value : goal.returns-clause-value
returns-clause-value c = rw (← c.self.view_is, c.find_graph.ensures, c.as_slice.ensures.value) (find-bare (same_text c.args.name.now) c.self.inside.graphs.items)
