-- How the run of a piece and that of a text end, as the calls below `run` tell it.
use Rattle.std.specs.Prelude.{◌≡◌, ℕ, ◌+◌, ◌-◌, ◌^◌, ◌≤◌, ◌<◌, ◌⊎◌, min, Bool, true, false, Result, Ok, Err, MatchResult, List, [], ◌∷◌, ◌++◌, length, take, Option, Some}
use Rattle.std.specs.List.{list_any}
use Rattle.gql_ports.specs.Held.{Holding}
use Rattle.gql_ast.specs.declared.refusal.Outcome.{Outcome}
use Rattle.gql_text.specs.OutcomeText.{outcome_text}
use Rattle.gql_txn.specs.Keeps.{Keeps}
use Rattle.gql_machine.specs.Causes.{RoseBy}
use Rattle.gql_machine.specs.Outcomes.{outcome_texts, is_refusal, store_refusals}
use Rattle.gql_machine.specs.SessionState.{SessionState}
use Rattle.gql_machine.specs.SessionRun.{Step}
use Rattle.gql_session.specs.Endings.{FaultCounts, RanWhole, RanFirst, RanAndFailed}
use Rattle.gql_session.specs.RunEnds.{most_bytes}
use Rattle.gql_session.specs.declared.status.Status.{Status}
use Rattle.gql_session.specs.declared.status.Status.TheVariants as status
use Rattle.gql_session.specs.declared.run_pieces.RunFault.{RunFault}
use Rattle.gql_session.specs.declared.run_pieces.RunFault.TheVariants as fault

-- A piece was run: its outcomes' texts were written, and the store keeps what the machine keeps.
pub record WrotePiece (start : SessionState) (piece before : List ℕ) (faults : FaultCounts) (held : Option Holding) (any_refused : Bool) (end : SessionState) (after : Option (List ℕ)) (held_after : Option Holding) : Type 0 where
  pub made : List Outcome
  pub step : Step start piece made end
  pub written : after ≡ Some (before ++ outcome_texts made)
  pub refused : list_any is_refusal made ≡ any_refused
  pub store : RoseBy (store_refusals made) faults.before faults.after
  pub kept : Keeps held start.kept → Keeps held_after end.kept

-- A piece was run, and of its outcome's text only a first part may be written.
pub record FailedPiece (start : SessionState) (piece before : List ℕ) (faults : FaultCounts) (held : Option Holding) (end : SessionState) (after : Option (List ℕ)) (held_after : Option Holding) : Type 0 where
  pub last : Outcome
  pub step : Step start piece (last ∷ []) end
  pub part : ℕ
  pub written : after ≡ Some (before ++ take part (outcome_text last))
  pub store : RoseBy (store_refusals (last ∷ [])) faults.before faults.after
  pub kept : Keeps held start.kept → Keeps held_after end.kept

-- There was no memory for a piece: nothing was written, the store has not failed, and it keeps what was kept before the piece.
pub record UnrunPiece (start : SessionState) (before : List ℕ) (faults : FaultCounts) (held : Option Holding) (after : Option (List ℕ)) (held_after : Option Holding) : Type 0 where
  pub written : after ≡ Some before
  pub unfailed : faults.after ≡ faults.before
  pub kept : Keeps held start.kept → Keeps held_after start.kept

-- where a piece's run ended early
abbrev pub PieceFault : SessionState → List ℕ → List ℕ → FaultCounts → Option Holding → RunFault → SessionState → Option (List ℕ) → Option Holding → Type 0
PieceFault start piece before faults held fault.Sink end after held_after = FailedPiece start piece before faults held end after held_after
PieceFault start piece before faults held fault.OutOfMemory end after held_after = UnrunPiece start before faults held after held_after

-- how the run of one piece ends
abbrev pub PieceEnding : SessionState → List ℕ → List ℕ → FaultCounts → Option Holding → Result Bool RunFault → SessionState → Option (List ℕ) → Option Holding → Type 0
PieceEnding start piece before faults held result end after held_after =
    MatchResult result (λ refused. WrotePiece start piece before faults held refused end after held_after) (λ e. PieceFault start piece before faults held e end after held_after)

-- the run of a text, behind which the store keeps what the machine keeps
abbrev pub WholeAndKept : SessionState → List ℕ → List ℕ → FaultCounts → Option Holding → Bool → Option (List ℕ) → Option Holding → Type 0
WholeAndKept start text before faults held refused after held_after = (ran : RanWhole start text before faults refused after) × (Keeps held start.kept → Keeps held_after ran.end.kept)

abbrev pub FailedAndKept : SessionState → List ℕ → List ℕ → FaultCounts → Option Holding → Option (List ℕ) → Option Holding → Type 0
FailedAndKept start text before faults held after held_after = (ran : RanAndFailed start text before faults after) × (Keeps held start.kept → Keeps held_after ran.end.kept)

abbrev pub FirstAndKept : SessionState → List ℕ → List ℕ → FaultCounts → Option Holding → Option (List ℕ) → Option Holding → Type 0
FirstAndKept start text before faults held after held_after = (ran : RanFirst start text before faults after) × (Keeps held start.kept → Keeps held_after ran.end.kept)

-- where the run of a whole text ended early
abbrev pub EarlyEnd : SessionState → List ℕ → List ℕ → FaultCounts → Option Holding → RunFault → Option (List ℕ) → Option Holding → Type 0
EarlyEnd start text before faults held fault.Sink after held_after = FailedAndKept start text before faults held after held_after
EarlyEnd start text before faults held fault.OutOfMemory after held_after = FirstAndKept start text before faults held after held_after

abbrev pub TextEnding : SessionState → List ℕ → List ℕ → FaultCounts → Option Holding → Result Bool RunFault → Option (List ℕ) → Option Holding → Type 0
TextEnding start text before faults held result after held_after =
    MatchResult result (λ refused. WholeAndKept start text before faults held refused after held_after) (λ e. EarlyEnd start text before faults held e after held_after)

-- how a run ends by how the run of its text did
abbrev pub status_of : Result Bool RunFault → Status
status_of (Ok false) = status.Answered
status_of (Ok true) = status.Refused
status_of (Err fault.Sink) = status.SinkFault
status_of (Err fault.OutOfMemory) = status.NoMemory

-- the count of the sink's faults behind the run of a text
abbrev pub after_running : {T : Type 0} → Result T RunFault → ℕ → ℕ
after_running (Ok value) count = count
after_running (Err fault.Sink) count = min (count + 1) (2 ^ 64 - 1)
after_running (Err fault.OutOfMemory) count = count

-- nothing is written, and the store is as it was
abbrev pub IsIdle : List ℕ → Option Holding → Option (List ℕ) → Option Holding → Type 0
IsIdle before held after held_after = (after ≡ Some before) × (held_after ≡ held)

-- What stands at each ending, once a catalog is loaded. Others don't come then.
abbrev pub LoadedEndsAs : SessionState → List ℕ → List ℕ → FaultCounts → Option Holding → Status → Option (List ℕ) → Option Holding → Type 0
LoadedEndsAs start text before faults held status.Answered after held_after = (length text ≤ most_bytes) × WholeAndKept start text before faults held false after held_after
LoadedEndsAs start text before faults held status.Refused after held_after = (length text ≤ most_bytes) × WholeAndKept start text before faults held true after held_after
LoadedEndsAs start text before faults held status.Usage after held_after = ⊥
LoadedEndsAs start text before faults held status.SourceFault after held_after = IsIdle before held after held_after
LoadedEndsAs start text before faults held status.SinkFault after held_after = (length text ≤ most_bytes) × FailedAndKept start text before faults held after held_after
LoadedEndsAs start text before faults held status.StoreFault after held_after = ⊥
LoadedEndsAs start text before faults held status.NoMemory after held_after = ((faults.after ≡ faults.before) × IsIdle before held after held_after) ⊎ ((length text ≤ most_bytes) × FirstAndKept start text before faults held after held_after)
LoadedEndsAs start text before faults held status.TooLong after held_after = (most_bytes < length text) × IsIdle before held after held_after
LoadedEndsAs start text before faults held (status.BadStore i) after held_after = ⊥
