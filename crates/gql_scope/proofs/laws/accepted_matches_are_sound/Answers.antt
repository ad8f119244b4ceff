use Rattle.gql_scope.proofs.SoundLemmas.{sound_matches}
use Rattle.gql_scope.proofs.laws.accepted_matches_are_sound.Goals as goal

pub returns : goal.returns
returns c = sound_matches
