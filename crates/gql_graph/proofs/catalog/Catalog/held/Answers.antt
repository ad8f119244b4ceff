use Rattle.gql_graph.specs.Bare.{bare_held}
use Rattle.gql_graph.proofs.NamedLemmas.{named_under}
use Rattle.gql_graph.proofs.catalog.Catalog.held.Goals as goal

pub returns-clause-value : goal.returns-clause-value
returns-clause-value c = rw (← c.self.view_is, c.find_named.ensures, c.as_slice.ensures.value) (named_under bare_held c.args.name.now c.self.inside.graphs.items)
