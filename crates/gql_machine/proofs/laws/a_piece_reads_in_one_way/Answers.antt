use Rattle.gql_machine.proofs.ReadsLemmas.{one_reading}
use Rattle.gql_machine.proofs.laws.a_piece_reads_in_one_way.Goals as goal

pub returns : goal.returns
returns c = one_reading
