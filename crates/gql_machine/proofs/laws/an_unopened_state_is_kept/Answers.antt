use Rattle.gql_machine.proofs.UnopenedLemmas.{unopened}
use Rattle.gql_machine.proofs.laws.an_unopened_state_is_kept.Goals as goal

pub returns : goal.returns
returns c = unopened
