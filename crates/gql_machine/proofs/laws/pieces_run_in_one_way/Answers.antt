use Rattle.gql_machine.proofs.OneRunLemmas.{one_run}
use Rattle.gql_machine.proofs.laws.pieces_run_in_one_way.Goals as goal

pub returns : goal.returns
returns c = one_run
