use Rattle.gql_change.proofs.GuardLemmas.{guard_holds, guard_is_passed, none_is_wrong}
use Rattle.gql_change.proofs.laws.accepted_inserts_have_endpoints.Goals as goal

pub returns : goal.returns
returns c = record { granted = none_is_wrong; guard = guard_holds; passed = guard_is_passed }
