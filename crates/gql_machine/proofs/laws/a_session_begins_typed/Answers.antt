use Rattle.gql_machine.proofs.TypedLemmas.{sound_typed}
use Rattle.gql_machine.proofs.laws.a_session_begins_typed.Goals as goal

pub returns : goal.returns
returns c = λ catalog h. (sound_typed catalog h, sound_typed catalog h)
