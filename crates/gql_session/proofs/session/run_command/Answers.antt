use Rattle.std.proofs.Common.{◌∙◌, inl, sym}
use Rattle.gql_session.specs.Words.{store_of}
use Rattle.gql_session.specs.Machinery.Seen.{seen}
use Rattle.gql_session.proofs.CommandLemmas.{named, same_as_held, same_then}
use Rattle.gql_session.proofs.EndingLemmas.{ends_as, nothing_ran, same_index, first_bad, not_bad_store, not_lacking, store_uncounted}
use Rattle.gql_session.proofs.session.run_command.Goals as goal

pub returns-in-Ok-clause-ends : goal.returns-in-Ok-clause-ends
returns-in-Ok-clause-ends g c = λ text before records t w k.
    let here = named _ _ _ records c.store_of.ensures k in
    let told = rw c.in-Ok.ensures.risen at (c.run_loaded.ensures.ends text before t w) in
    ends_as records (store_of (seen c.args.command.now)) c.in-Ok.txn.catalog text before _ c.run_loaded.result _ _ _ (c.in-Ok.ensures.kept records here ∙ k) (c.in-Ok.ensures.found records here).1
    c.run_loaded.ensures.same told

pub returns-in-Err-Failed-clause-ends : goal.returns-in-Err-Failed-clause-ends
returns-in-Err-Failed-clause-ends g c = λ text before records t w k. nothing_ran records _ before _ _ _ k w (c.in-Err-Failed.ensures.kept records (named _ _ _ records c.store_of.ensures k))

pub returns-in-Err-OutOfMemory-clause-ends : goal.returns-in-Err-OutOfMemory-clause-ends
returns-in-Err-OutOfMemory-clause-ends g c = λ text before records t w k.
    let same = c.in-Err-OutOfMemory.ensures.kept records (named _ _ _ records c.store_of.ensures k) in
    inl (rw c.in-Err-OutOfMemory.field-0-is at c.in-Err-OutOfMemory.ensures.risen, nothing_ran records _ before _ _ _ k w same)

pub returns-in-Err-BadRecord-clause-ends : goal.returns-in-Err-BadRecord-clause-ends
returns-in-Err-BadRecord-clause-ends g c = λ text before records t w k.
    let here = named _ _ _ records c.store_of.ensures k in
    let found = rw c.in-Err-BadRecord.field-0-is at (c.in-Err-BadRecord.ensures.found records here) in
    (found, nothing_ran records _ before _ _ _ k w (c.in-Err-BadRecord.ensures.kept records here))

pub returns-in-Ok-clause-at_fault : goal.returns-in-Ok-clause-at_fault
returns-in-Ok-clause-at_fault g c = λ records i k bad. absurd (c.in-Ok.ensures.at_fault records i (named _ _ _ records c.store_of.ensures k) bad)

pub returns-in-Err-BadRecord-clause-at_fault : goal.returns-in-Err-BadRecord-clause-at_fault
returns-in-Err-BadRecord-clause-at_fault g c = λ records i k bad.
    let told = rw c.in-Err-BadRecord.field-0-is at (c.in-Err-BadRecord.ensures.at_fault records i (named _ _ _ records c.store_of.ensures k) bad) in
    same_index c.in-Err-BadRecord.index i told

pub returns-in-Ok-clause-stays : goal.returns-in-Ok-clause-stays
returns-in-Ok-clause-stays g c = λ records k e. c.run_loaded.ensures.stays e ∙ c.in-Ok.ensures.kept records (named _ _ _ records c.store_of.ensures k)

pub returns-in-Err-Failed-clause-stays : goal.returns-in-Err-Failed-clause-stays
returns-in-Err-Failed-clause-stays g c = λ records k e. c.in-Err-Failed.ensures.kept records (named _ _ _ records c.store_of.ensures k)

pub returns-in-Err-OutOfMemory-clause-stays : goal.returns-in-Err-OutOfMemory-clause-stays
returns-in-Err-OutOfMemory-clause-stays g c = λ records k e. c.in-Err-OutOfMemory.ensures.kept records (named _ _ _ records c.store_of.ensures k)

pub returns-in-Err-BadRecord-clause-stays : goal.returns-in-Err-BadRecord-clause-stays
returns-in-Err-BadRecord-clause-stays g c = λ records k e. c.in-Err-BadRecord.ensures.kept records (named _ _ _ records c.store_of.ensures k)

pub returns-in-Ok-clause-stands : goal.returns-in-Ok-clause-stands
returns-in-Ok-clause-stands g c = λ records d i k stands e. not_bad_store c.run_loaded.result i c.run_loaded.ensures.loaded e

pub returns-in-Err-BadRecord-clause-stands : goal.returns-in-Err-BadRecord-clause-stands
returns-in-Err-BadRecord-clause-stands g c = λ records d i k stands e.
    let lacks = rw c.in-Err-BadRecord.field-0-is at (c.in-Err-BadRecord.ensures.complete records d (named _ _ _ records c.store_of.ensures k) stands) in not_lacking lacks

pub returns-in-Ok-clause-bad_store : goal.returns-in-Ok-clause-bad_store
returns-in-Ok-clause-bad_store g c = λ records i k e. absurd (not_bad_store c.run_loaded.result i c.run_loaded.ensures.loaded e)

pub returns-in-Err-BadRecord-clause-bad_store : goal.returns-in-Err-BadRecord-clause-bad_store
returns-in-Err-BadRecord-clause-bad_store g c = λ records i k e.
    first_bad records c.in-Err-BadRecord.index i (rw c.in-Err-BadRecord.field-0-is at (c.in-Err-BadRecord.ensures.found records (named _ _ _ records c.store_of.ensures k))) e

-- The same store

pub returns-in-Ok-clause-same : goal.returns-in-Ok-clause-same
returns-in-Ok-clause-same g c = λ records k. same_then _ _ _ (same_as_held _ _ (c.in-Ok.ensures.kept records (named _ _ _ records c.store_of.ensures k))) c.run_loaded.ensures.same

pub returns-in-Err-Failed-clause-same : goal.returns-in-Err-Failed-clause-same
returns-in-Err-Failed-clause-same g c = λ records k. same_as_held _ _ (c.in-Err-Failed.ensures.kept records (named _ _ _ records c.store_of.ensures k))

pub returns-in-Err-OutOfMemory-clause-same : goal.returns-in-Err-OutOfMemory-clause-same
returns-in-Err-OutOfMemory-clause-same g c = λ records k. same_as_held _ _ (c.in-Err-OutOfMemory.ensures.kept records (named _ _ _ records c.store_of.ensures k))

pub returns-in-Err-BadRecord-clause-same : goal.returns-in-Err-BadRecord-clause-same
returns-in-Err-BadRecord-clause-same g c = λ records k. same_as_held _ _ (c.in-Err-BadRecord.ensures.kept records (named _ _ _ records c.store_of.ensures k))

-- What is left of the source, and the count of the store's faults

pub returns-in-Ok-clause-read : goal.returns-in-Ok-clause-read
returns-in-Ok-clause-read g c = c.run_loaded.ensures.read

pub returns-in-Err-Failed-clause-read : goal.returns-in-Err-Failed-clause-read
returns-in-Err-Failed-clause-read g c = λ d n h. h

pub returns-in-Err-BadRecord-clause-read : goal.returns-in-Err-BadRecord-clause-read
returns-in-Err-BadRecord-clause-read g c = λ d n h. h

pub returns-in-Err-OutOfMemory-clause-read : goal.returns-in-Err-OutOfMemory-clause-read
returns-in-Err-OutOfMemory-clause-read g c = λ d n h. inl h

pub returns-in-Ok-clause-store_fault : goal.returns-in-Ok-clause-store_fault
returns-in-Ok-clause-store_fault g c = λ e. c.run_loaded.ensures.unfailed e ∙ c.in-Ok.ensures.risen ∙ sym (store_uncounted c.run_loaded.result _ c.run_loaded.ensures.loaded)

pub returns-in-Err-Failed-clause-store_fault : goal.returns-in-Err-Failed-clause-store_fault
returns-in-Err-Failed-clause-store_fault g c = λ e. rw c.in-Err-Failed.field-0-is at c.in-Err-Failed.ensures.risen

pub returns-in-Err-BadRecord-clause-store_fault : goal.returns-in-Err-BadRecord-clause-store_fault
returns-in-Err-BadRecord-clause-store_fault g c = λ e. rw c.in-Err-BadRecord.field-0-is at c.in-Err-BadRecord.ensures.risen

pub returns-in-Err-OutOfMemory-clause-store_fault : goal.returns-in-Err-OutOfMemory-clause-store_fault
returns-in-Err-OutOfMemory-clause-store_fault g c = λ e. rw c.in-Err-OutOfMemory.field-0-is at c.in-Err-OutOfMemory.ensures.risen
