use Rattle.std.proofs.Common.{◌≡◌, ◌∙◌, false, sym, inr}
use Rattle.gql_machine.specs.SessionState.{starting}
use Rattle.gql_session.proofs.EndingLemmas.{loaded_ends, is_later, not_before, not_too_long, not_source_fault, source_ends, source_uncounted, sink_counted}
use Rattle.gql_session.proofs.session.run_loaded.Goals as goal

pub returns-in-Ok-clause-ends : goal.returns-in-Ok-clause-ends
returns-in-Ok-clause-ends g c = λ text before t w.
    let all = c.in-Ok.ensures.all text t in
    let told = rw c.as_slice.ensures at (c.run_pieces.ensures.told before w) in
    rw (c.status_of.ensures, ← all) (loaded_ends (starting c.args.txn.catalog) c.in-Ok.text before _ _ c.run_pieces.result _ _ c.in-Ok.ensures.within told)

pub returns-in-Ok-clause-too_long : goal.returns-in-Ok-clause-too_long
returns-in-Ok-clause-too_long g c = λ text t e. absurd (not_too_long _ (is_later c.status_of.result c.run_pieces.result c.status_of.ensures) e)

pub returns-in-Ok-clause-unwritten : goal.returns-in-Ok-clause-unwritten
returns-in-Ok-clause-unwritten g c = λ e. not_before _ (is_later c.status_of.result c.run_pieces.result c.status_of.ensures) e

pub returns-in-Ok-clause-stays : goal.returns-in-Ok-clause-stays
returns-in-Ok-clause-stays g c = λ e. not_before _ (is_later c.status_of.result c.run_pieces.result c.status_of.ensures) e

pub returns-in-Ok-clause-selftest : goal.returns-in-Ok-clause-selftest
returns-in-Ok-clause-selftest g c = λ n e.
    let it = c.in-Ok.ensures.selftest n e in
    let later : _ ≡ false = is_later c.status_of.result c.run_pieces.result c.status_of.ensures in
    (it.0, it.1, not_too_long _ later, not_source_fault _ later)

pub returns-in-Ok-clause-unfailed : goal.returns-in-Ok-clause-unfailed
returns-in-Ok-clause-unfailed g c = λ e. not_before _ (is_later c.status_of.result c.run_pieces.result c.status_of.ensures) e

-- What is left of the source, and the counts of faults

pub returns-in-Ok-clause-read : goal.returns-in-Ok-clause-read
returns-in-Ok-clause-read g c = λ d n h. rw c.status_of.ensures (source_ends d c.run_pieces.result _ (c.in-Ok.ensures.leaves d n h))

pub returns-in-Err-Failed-clause-read : goal.returns-in-Err-Failed-clause-read
returns-in-Err-Failed-clause-read g c = λ d n h. rw c.in-Err-Failed.field-0-is at (c.in-Err-Failed.ensures.leaves d n h)

pub returns-in-Err-TooLong-clause-read : goal.returns-in-Err-TooLong-clause-read
returns-in-Err-TooLong-clause-read g c = λ d n h. rw c.in-Err-TooLong.field-0-is at (c.in-Err-TooLong.ensures.leaves d n h)

pub returns-clause-read : goal.returns-clause-read
returns-clause-read g c = λ d n h. inr (rw c.in-Err-OutOfMemory.field-0-is at (c.in-Err-OutOfMemory.ensures.leaves d n h))

pub returns-in-Ok-clause-source_fault : goal.returns-in-Ok-clause-source_fault
returns-in-Ok-clause-source_fault g c = rw c.status_of.ensures (c.in-Ok.ensures.risen ∙ sym (source_uncounted c.run_pieces.result _))

pub returns-in-Err-Failed-clause-source_fault : goal.returns-in-Err-Failed-clause-source_fault
returns-in-Err-Failed-clause-source_fault g c = rw c.in-Err-Failed.field-0-is at c.in-Err-Failed.ensures.risen

pub returns-in-Err-TooLong-clause-source_fault : goal.returns-in-Err-TooLong-clause-source_fault
returns-in-Err-TooLong-clause-source_fault g c = rw c.in-Err-TooLong.field-0-is at c.in-Err-TooLong.ensures.risen

pub returns-in-Ok-clause-sink_fault : goal.returns-in-Ok-clause-sink_fault
returns-in-Ok-clause-sink_fault g c = rw c.status_of.ensures (c.run_pieces.ensures.risen ∙ sink_counted c.run_pieces.result _)
