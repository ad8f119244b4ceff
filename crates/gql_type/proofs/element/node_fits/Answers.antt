use Rattle.std.proofs.Common.{◌∙◌}
use Rattle.gql_type.proofs.ConformanceLemmas.{one_node}
use Rattle.gql_type.proofs.element.node_fits.Goals as goal

pub returns : goal.returns
returns c = c.node_matches.ensures ∙ one_node c.args.kind.now c.requires.kind c.args.node.now c.requires.node
