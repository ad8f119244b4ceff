use Rattle.std.proofs.Common.{refl}
use Rattle.gql_fields.proofs.Utf8Lemmas.{utf8_at-text, utf8_at-none}
use Rattle.gql_fields.proofs.bytes.utf8_of.Goals as goal

pub returns-in-Ok : goal.returns-in-Ok
returns-in-Ok c = rw c.in-Ok.ensures.cases.0 (utf8_at-text _ c.in-Ok.ensures.cases.1)

pub returns-in-Err : goal.returns-in-Err
returns-in-Err c = (refl, utf8_at-none _ c.in-Err.ensures.cases.0)
