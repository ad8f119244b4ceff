use Rattle.std.proofs.Common.{◌∙◌, ap}
use Rattle.std.specs.Prelude.{is_some}
use Rattle.gql_graph.proofs.SearchLemmas.{is_some-find, is_some-option_copied}
use Rattle.gql_graph.proofs.lookup.is_among.Goals as goal

pub returns : goal.returns
returns c = c.is_some.ensures ∙ is_some-option_copied c.find_node.result ∙ ap (λ o. is_some o) c.find_node.ensures ∙ is_some-find _ c.args.nodes.now
