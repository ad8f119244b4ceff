-- What stands between a statement and its commit point, as the code tells it.
use Rattle.std.specs.Prelude.{◌≡◌, ◌≢◌, ◌+◌, ◌-◌, ◌^◌, min, ℕ, Bool, true, false, List, Option, Some, None}
use Rattle.gql_ast.specs.declared.refusal.Outcome.TheVariants as outcome
use Rattle.gql_ast.specs.declared.refusal.Refusal.{Refusal}
use Rattle.gql_ast.specs.declared.refusal.Refusal.TheVariants as refusal
use Rattle.gql_text.specs.OutcomeText.{outcome_text}
use Rattle.gql_machine.specs.Reading.{Reading, ReadsAs, blank, bad, deep, unread, read}
use Rattle.gql_machine.specs.SessionState.{SessionState, with_open}
use Rattle.gql_machine.specs.StatementRun.{StatementEnd, StatementMayRun}
use Rattle.gql_machine.specs.SessionRun.{is_commit_point}
use Rattle.gql_machine.specs.declared.ended.Ended.{Ended}

-- the state, in which a transaction has ended before its commit point
abbrev pub before_commit : Bool → SessionState → SessionState
before_commit true s = with_open s None
before_commit false s = s

-- The code came to an end that may be. A COMMIT has left the transaction open.
pub record Ends (May : StatementEnd → Type 0) (made : Ended) (after : SessionState) : Type 0 where
  pub end : StatementEnd
  pub may : May end
  pub outcome : made.outcome ≡ end.outcome
  pub commits : made.commits ≡ is_commit_point end
  pub behind : before_commit made.commits after ≡ end.after

-- a piece that is no statement comes to a refusal, and leaves the state
abbrev pub LeavesRefused : SessionState → Refusal → Option Ended → SessionState → Type 0
LeavesRefused before r made after = (made ≡ Some (record { outcome = outcome.Refused r; commits = false })) × (after ≡ before)

-- what a piece that reads so may come to
abbrev pub MayLeave : SessionState → Reading → Option Ended → SessionState → Type 0
MayLeave before blank made after = (made ≡ None) × (after ≡ before)
MayLeave before bad made after = LeavesRefused before refusal.Lex made after
MayLeave before deep made after = LeavesRefused before refusal.Deep made after
MayLeave before unread made after = LeavesRefused before refusal.Syntax made after
MayLeave before (read s) made after = (e : Ended) × (made ≡ Some e) × Ends (StatementMayRun before s) e after

-- what the piece came to
pub record Answers (before : SessionState) (piece : List ℕ) (made : Option Ended) (after : SessionState) : Type 0 where
  pub goes_on : before.is_closed ≡ false
  pub reading : Reading
  pub reads : ReadsAs piece reading
  pub leaves : MayLeave before reading made after

-- What came of a commit point: what was changed is kept, and the text stays; or the store refused, and the text is that of E22.
abbrev pub CameTo : SessionState → List ℕ → Bool → List ℕ → ℕ → ℕ → SessionState → Type 0
CameTo before text false text_behind faults faults_behind after =
    (text_behind ≡ text) × (faults_behind ≡ faults) × (after ≡ record before { kept = before.catalog; access = None })
CameTo before text true text_behind faults faults_behind after =
    (before.catalog ≢ before.kept) × (text_behind ≡ outcome_text (outcome.Refused refusal.Store)) × (faults_behind ≡ min (faults + 1) (2 ^ 64 - 1)) × (after ≡ record before { catalog = before.kept; access = None })
