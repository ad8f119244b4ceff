-- What stands at each ending of a run: which pieces were run, what was written, and how often the store refused.
use Rattle.std.specs.Prelude.{◌≡◌, ℕ, ◌⊎◌, Bool, true, List, [], ◌∷◌, ◌++◌, length, take, Option, Some}
use Rattle.std.specs.List.{list_any}
use Rattle.gql_ast.specs.declared.refusal.Outcome.{Outcome}
use Rattle.gql_text.specs.OutcomeText.{outcome_text}
use Rattle.gql_machine.specs.Causes.{RoseBy}
use Rattle.gql_machine.specs.Outcomes.{outcome_texts, is_refusal, store_refusals}
use Rattle.gql_machine.specs.SessionState.{SessionState}
use Rattle.gql_machine.specs.SessionRun.{RunsSession}
use Rattle.gql_session.specs.Pieces.{session_pieces}

-- the count of the keeper's faults, before and behind the run
pub record FaultCounts : Type 0 where
  pub before : ℕ
  pub after : ℕ

-- All pieces of the text were run, or those up to the SESSION CLOSE that was answered; the outcomes' texts are written
-- behind what was there.
pub record RanWhole (start : SessionState) (text before : List ℕ) (faults : FaultCounts) (any_refused : Bool) (after : Option (List ℕ)) : Type 0 where
  pub count : ℕ
  pub outcomes : List Outcome
  pub end : SessionState
  pub runs : RunsSession start (take count (session_pieces text)) outcomes end
  pub whole : (count ≡ length (session_pieces text)) ⊎ (end.is_closed ≡ true)
  pub written : after ≡ Some (before ++ outcome_texts outcomes)
  pub refused : list_any is_refusal outcomes ≡ any_refused
  pub store : RoseBy (store_refusals outcomes) faults.before faults.after

-- The first pieces were run, and their outcomes' texts are written.
pub record RanFirst (start : SessionState) (text before : List ℕ) (faults : FaultCounts) (after : Option (List ℕ)) : Type 0 where
  pub count : ℕ
  pub outcomes : List Outcome
  pub end : SessionState
  pub runs : RunsSession start (take count (session_pieces text)) outcomes end
  pub written : after ≡ Some (before ++ outcome_texts outcomes)
  pub store : RoseBy (store_refusals outcomes) faults.before faults.after

-- The first pieces were run; of the last outcome's text only a first part may be written, and all of those before it.
pub record RanAndFailed (start : SessionState) (text before : List ℕ) (faults : FaultCounts) (after : Option (List ℕ)) : Type 0 where
  pub count : ℕ
  pub outcomes : List Outcome
  pub last : Outcome
  pub end : SessionState
  pub runs : RunsSession start (take count (session_pieces text)) (outcomes ++ last ∷ []) end
  pub part : ℕ
  pub written : after ≡ Some ((before ++ outcome_texts outcomes) ++ take part (outcome_text last))
  pub store : RoseBy (store_refusals (outcomes ++ last ∷ [])) faults.before faults.after
