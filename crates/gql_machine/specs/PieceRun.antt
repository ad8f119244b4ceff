-- What a piece that was run leaves: one step of the session machine, and the text of its outcome.
use Rattle.std.specs.Prelude.{◌≡◌, ℕ, Bool, List}
use Rattle.std.specs.List.{list_any}
use Rattle.gql_ast.specs.declared.refusal.Outcome.{Outcome}
use Rattle.gql_machine.specs.Causes.{RoseBy}
use Rattle.gql_machine.specs.Outcomes.{outcome_texts, is_refusal, store_refusals}
use Rattle.gql_machine.specs.SessionRun.{Step}
use Rattle.gql_machine.specs.SessionState.{SessionState}

-- From the start the piece was one step, which leads to the end: whether it was refused, its text, and the faults of the store before
-- and behind it, which rose by as many as the store is told as the cause.
pub record RanPiece (start : SessionState) (piece : List ℕ) (refused : Bool) (text : List ℕ) (faults_before faults_behind : ℕ) (end : SessionState) : Type 0 where
  pub made : List Outcome
  pub step : Step start piece made end
  pub written : text ≡ outcome_texts made
  pub is_refused : list_any is_refusal made ≡ refused
  pub store : RoseBy (store_refusals made) faults_before faults_behind
