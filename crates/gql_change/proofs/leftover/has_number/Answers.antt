use Rattle.std.proofs.Common.{◌∙◌}
use Rattle.gql_change.proofs.RisingLemmas.{searched_number}
use Rattle.gql_change.proofs.leftover.has_number.Goals as goal

pub returns : goal.returns
returns c = c.is_ok.ensures.value ∙ searched_number c.args.numbers.now c.args.number c.binary_search.result c.requires c.binary_search.ensures.position
