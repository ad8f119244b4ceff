-- No statement changes the catalog that is kept, and one that is refused changes nothing.
use Rattle.std.proofs.Common.{◌≡◌, ℕ, Bool, true, false, List, [], Option, Some, None, Result, Ok, Err, refl, ap, ◌∙◌, sym}
use Rattle.std.specs.Prelude.{if◌then◌else◌, IfOk, OnOk}
use Rattle.gql_values3.specs.Datum.{Datum}
use Rattle.gql_values3.specs.declared.element.Elem.{Elem}
use Rattle.gql_values3.specs.declared.table.Table.{Table}
use Rattle.gql_ast.specs.Meaning.{tree_of}
use Rattle.gql_ast.specs.Evaluation.{value_of}
use Rattle.gql_ast.specs.declared.clause.Query.{Query}
use Rattle.gql_ast.specs.declared.fault.DataFault.{DataFault}
use Rattle.gql_ast.specs.declared.refusal.Outcome.{Outcome}
use Rattle.gql_ast.specs.declared.refusal.Refusal.{Refusal}
use Rattle.gql_ast.specs.declared.statement.SessionStatement.{SessionStatement}
use Rattle.gql_ast.specs.declared.statement.SessionStatement.TheVariants as session
use Rattle.gql_ast.specs.declared.statement.Statement.{Statement}
use Rattle.gql_ast.specs.declared.statement.Statement.TheVariants as statement
use Rattle.gql_ast.specs.declared.statement.TransactionStatement.{TransactionStatement}
use Rattle.gql_ast.specs.declared.statement.TransactionStatement.TheVariants as transaction
use Rattle.gql_linear.specs.QueryRun.{Working, answer_table, changes_data}
use Rattle.gql_txn.specs.TxnData.{misfit_in}
use Rattle.gql_machine.specs.Outcomes.{is_refusal}
use Rattle.gql_machine.specs.SessionState.{SessionState, statement_graph}
use Rattle.gql_machine.specs.StatementRun.{StatementEnd, outcome_of_table, checked_end, query_end, value_end, session_end, transaction_end, MayExecute, first_refusal, RefusedOrExecuted, StatementMayRun}
use Rattle.gql_machine.specs.Machinery.CommitPoints.{before_commit, Ends}
use Rattle.gql_machine.specs.declared.ended.Ended.{Ended}

-- The end keeps what was kept; and where it is a refusal, the state is the one before.
pub record Leaves (s : SessionState) (e : StatementEnd) : Type 0 where
  pub kept : e.after.kept ≡ s.kept
  pub refused : is_refusal e.outcome ≡ true → e.after ≡ s

refused_leaves : (s : SessionState) (o : Outcome) → Leaves s (record { outcome = o; after = s })
refused_leaves s o = record { kept = refl; refused = λ h. refl }

-- an end that is no refusal
answered_leaves : (s : SessionState) (e : StatementEnd) → e.after.kept ≡ s.kept → is_refusal e.outcome ≡ false → Leaves s e
answered_leaves s e kept answered = record { kept = kept; refused = λ h. absurd (let no : true ≡ false = sym h ∙ answered in cc) }

no_table_refused : (t : Option Table) → is_refusal (outcome_of_table t) ≡ false
no_table_refused None = refl
no_table_refused (Some t) = refl

checked_leaves : (s : SessionState) (q : Query) (t : Working) (m : Option Elem) → Leaves s (checked_end s q t m)
checked_leaves s q t (Some m) = record { kept = refl; refused = λ h. refl }
checked_leaves s q t None = answered_leaves s (checked_end s q t None) refl (no_table_refused (answer_table q t))

either_leaves : (s : SessionState) (b : Bool) (d e : StatementEnd) → Leaves s d → Leaves s e → Leaves s (if b then d else e)
either_leaves s true d e h k = h
either_leaves s false d e h k = k

query_leaves : (s : SessionState) (q : Query) (r : Result Working Refusal) → Leaves s (query_end s q r)
query_leaves s q (Ok t) =
    either_leaves s (changes_data q) (checked_end s q t (misfit_in s.catalog s.graph t.graph)) (record { outcome = outcome_of_table (answer_table q t); after = s })
    (checked_leaves s q t (misfit_in s.catalog s.graph t.graph)) (refused_leaves s (outcome_of_table (answer_table q t)))
query_leaves s q (Err r) = record { kept = refl; refused = λ h. refl }

value_leaves : (s : SessionState) (p : List ℕ) (r : Result Datum DataFault) → Leaves s (value_end s p r)
value_leaves s p (Ok d) = answered_leaves s (value_end s p (Ok d)) refl refl
value_leaves s p (Err f) = record { kept = refl; refused = λ h. refl }

session_leaves : (s : SessionState) (t : SessionStatement) → Leaves s (session_end s t)
session_leaves s (session.SetValue p e) = value_leaves s p (value_of (statement_graph s) s.parameters [] (tree_of e))
session_leaves s (session.SetGraph x) = answered_leaves s (session_end s (session.SetGraph x)) refl refl
session_leaves s session.Reset = answered_leaves s (session_end s session.Reset) refl refl
session_leaves s session.Close = answered_leaves s (session_end s session.Close) refl refl

transaction_leaves : (s : SessionState) (t : TransactionStatement) → Leaves s (transaction_end s t)
transaction_leaves s (transaction.Start m) = answered_leaves s (transaction_end s (transaction.Start m)) refl refl
transaction_leaves s transaction.Commit = answered_leaves s (transaction_end s transaction.Commit) refl refl
transaction_leaves s transaction.Rollback = answered_leaves s (transaction_end s transaction.Rollback) refl refl

-- an end that is this one leaves what it does
as_that : (s : SessionState) (d e : StatementEnd) → d ≡ e → Leaves s e → Leaves s d
as_that s d e h k = record {
  kept = ap (λ (x : StatementEnd). x.after.kept) h ∙ k.kept;
  refused = λ r. ap (λ (x : StatementEnd). x.after) h ∙ k.refused (sym (ap (λ (x : StatementEnd). is_refusal x.outcome) h) ∙ r);
}

execution_leaves : (s : SessionState) (t : Statement) (e : StatementEnd) → MayExecute s t e → Leaves s e
execution_leaves s (statement.Query q) e h = as_that s e (query_end s q h.result) h.ends (query_leaves s q h.result)
execution_leaves s (statement.Session t) e h = as_that s e (session_end s t) h (session_leaves s t)
execution_leaves s (statement.Transaction t) e h = as_that s e (transaction_end s t) h (transaction_leaves s t)
execution_leaves s (statement.Catalog c) e h = as_that s e _ h (answered_leaves s _ refl refl)

decided_leaves : (s : SessionState) (t : Statement) (r : Option Refusal) (e : StatementEnd) → RefusedOrExecuted s t r e → Leaves s e
decided_leaves s t (Some r) e h = as_that s e _ h (record { kept = refl; refused = λ h. refl })
decided_leaves s t None e h = execution_leaves s t e h

pub statement_leaves : (s : SessionState) (t : Statement) (e : StatementEnd) → StatementMayRun s t e → Leaves s e
statement_leaves s t e h = decided_leaves s t (first_refusal s t) e h

-- nor does the code before a commit point
before_commit_kept : (commits : Bool) (s : SessionState) → (before_commit commits s).kept ≡ s.kept
before_commit_kept true s = refl
before_commit_kept false s = refl

pub kept_executed : {E : Type 0} (s : SessionState) (t : Statement) (after : SessionState) (r : Result Ended E) → IfOk r (λ made. Ends (MayExecute s t) made after) → OnOk r (after.kept ≡ s.kept)
kept_executed s t after (Ok made) h = sym (before_commit_kept made.commits after) ∙ ap (λ (x : SessionState). x.kept) h.behind ∙ (execution_leaves s t h.end h.may).kept
kept_executed s t after (Err e) h = tt
