use Rattle.std.proofs.Common.{inl, refl, sym}
use Rattle.gql_session.specs.Words.{selftest}
use Rattle.gql_session.specs.Machinery.Seen.{seen}
use Rattle.gql_session.proofs.CommandLemmas.{not_both, one_command, one_or_none, text_told, store_told, session_told, same_again}
use Rattle.gql_session.proofs.EndingLemmas.{nothing_ran, completed, source_rose, sink_rose, store_rose}
use Rattle.gql_session.proofs.top_call.run.Goals as goal

pub returns-in-Ok-None-clause-ends : goal.returns-in-Ok-None-clause-ends
returns-in-Ok-None-clause-ends g c = λ text before records t. absurd (not_both (rw c.in-Ok-None.field-0-is at c.in-Ok-None.ensures) t.text_is.is_command)

pub returns-in-Ok-None-clause-at_fault : goal.returns-in-Ok-None-clause-at_fault
returns-in-Ok-None-clause-at_fault g c = λ records i t bad. absurd (not_both (rw c.in-Ok-None.field-0-is at c.in-Ok-None.ensures) t.is_command)

pub returns-in-Ok-None-clause-complete : goal.returns-in-Ok-None-clause-complete
returns-in-Ok-None-clause-complete g c = λ text records d s t stands within no_source no_sink no_store. absurd (not_both (rw c.in-Ok-None.field-0-is at c.in-Ok-None.ensures) s.is_command)

pub returns-in-Ok-Some-clause-ends : goal.returns-in-Ok-Some-clause-ends
returns-in-Ok-Some-clause-ends g c = λ text before records t.
    let x = seen c.in-Ok-Some.command in
    c.run_command.ensures.ends text before records (text_told x (rw c.in-Ok-Some.field-0-is at c.in-Ok-Some.ensures) t.text_is) t.sink_is (store_told x (rw c.in-Ok-Some.field-0-is at c.in-Ok-Some.ensures) t.records_are)

pub returns-in-Ok-Some-clause-too_long : goal.returns-in-Ok-Some-clause-too_long
returns-in-Ok-Some-clause-too_long g c = λ text s e. c.run_command.ensures.too_long text (text_told (seen c.in-Ok-Some.command) (rw c.in-Ok-Some.field-0-is at c.in-Ok-Some.ensures) s) e

pub returns-in-Ok-Some-clause-bad_store : goal.returns-in-Ok-Some-clause-bad_store
returns-in-Ok-Some-clause-bad_store g c = λ records i t e. c.run_command.ensures.bad_store records i (store_told (seen c.in-Ok-Some.command) (rw c.in-Ok-Some.field-0-is at c.in-Ok-Some.ensures) t) e

pub returns-in-Ok-Some-clause-at_fault : goal.returns-in-Ok-Some-clause-at_fault
returns-in-Ok-Some-clause-at_fault g c = λ records i t bad. c.run_command.ensures.at_fault records i (store_told (seen c.in-Ok-Some.command) (rw c.in-Ok-Some.field-0-is at c.in-Ok-Some.ensures) t) bad

pub returns-in-Ok-Some-clause-stays : goal.returns-in-Ok-Some-clause-stays
returns-in-Ok-Some-clause-stays g c = λ records t e. c.run_command.ensures.stays records (store_told (seen c.in-Ok-Some.command) (rw c.in-Ok-Some.field-0-is at c.in-Ok-Some.ensures) t) e

pub returns-in-Ok-Some-clause-selftest : goal.returns-in-Ok-Some-clause-selftest
returns-in-Ok-Some-clause-selftest g c = λ n p. c.run_command.ensures.selftest n (sym (one_command (seen c.in-Ok-Some.command) (selftest n) (rw c.in-Ok-Some.field-0-is at c.in-Ok-Some.ensures) p))

pub returns-in-Ok-Some-clause-complete : goal.returns-in-Ok-Some-clause-complete
returns-in-Ok-Some-clause-complete g c = λ text records d s t stands within no_source no_sink no_store.
    let x = seen c.in-Ok-Some.command in
    completed text c.run_command.result _ _ _ within c.run_command.ensures.is_command (c.run_command.ensures.too_long text (text_told x (rw c.in-Ok-Some.field-0-is at c.in-Ok-Some.ensures) s))
    (λ i. c.run_command.ensures.stands records d i (store_told x (rw c.in-Ok-Some.field-0-is at c.in-Ok-Some.ensures) t) stands) (source_rose _ _ _ c.run_command.ensures.source_fault) (sink_rose _ _ _ c.run_command.ensures.sink_fault) (store_rose _ _ _ c.run_command.ensures.store_fault)
    no_source no_sink no_store

pub returns-in-Err-clause-ends : goal.returns-in-Err-clause-ends
returns-in-Err-clause-ends g c = λ text before records t. inl (refl, nothing_ran records _ before _ _ _ t.records_are.keeper_is t.sink_is refl)

-- Words that are no command

pub returns-in-Ok-Some-clause-idle : goal.returns-in-Ok-Some-clause-idle
returns-in-Ok-Some-clause-idle g c = λ p. absurd (one_or_none (seen c.in-Ok-Some.command) (rw c.in-Ok-Some.field-0-is at c.in-Ok-Some.ensures) p)

-- What is left of the source

pub returns-in-Ok-None-clause-read : goal.returns-in-Ok-None-clause-read
returns-in-Ok-None-clause-read g c = λ d t. t.source_is

pub returns-in-Ok-Some-clause-read : goal.returns-in-Ok-Some-clause-read
returns-in-Ok-Some-clause-read g c = λ d t. c.run_command.ensures.read d (session_told (seen c.in-Ok-Some.command) (rw c.in-Ok-Some.field-0-is at c.in-Ok-Some.ensures) t) t.source_is

pub returns-in-Err-clause-read : goal.returns-in-Err-clause-read
returns-in-Err-clause-read g c = λ d t. inl t.source_is

-- The same store

pub returns-in-Ok-None-clause-same : goal.returns-in-Ok-None-clause-same
returns-in-Ok-None-clause-same g c = λ records t. same_again _

pub returns-in-Ok-Some-clause-same : goal.returns-in-Ok-Some-clause-same
returns-in-Ok-Some-clause-same g c = λ records t. c.run_command.ensures.same records (store_told (seen c.in-Ok-Some.command) (rw c.in-Ok-Some.field-0-is at c.in-Ok-Some.ensures) t)

pub returns-in-Err-clause-same : goal.returns-in-Err-clause-same
returns-in-Err-clause-same g c = λ records t. same_again _
