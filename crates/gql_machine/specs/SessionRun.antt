-- The session machine, and its runs: one step a piece.
--
-- Behind an answered statement with no transaction open there is a commit point: behind each statement outside a transaction, and
-- behind COMMIT and ROLLBACK. Where the catalog is the kept one nothing happens there. Otherwise it becomes the kept one; or the
-- store refuses (E22), and then the catalog is the kept one again.
use Rattle.std.specs.Prelude.{◌≡◌, ◌≢◌, ◌⊎◌, Bool, true, false, not, ◌&&◌, is_some, ℕ, List, [], ◌∷◌, ◌++◌}
use Rattle.gql_ast.specs.declared.refusal.Outcome.{Outcome}
use Rattle.gql_ast.specs.declared.refusal.Outcome.TheVariants as outcome
use Rattle.gql_ast.specs.declared.refusal.Refusal.{Refusal}
use Rattle.gql_ast.specs.declared.refusal.Refusal.TheVariants as refusal
use Rattle.gql_ast.specs.declared.statement.Statement.{Statement}
use Rattle.gql_machine.specs.Outcomes.{is_refusal}
use Rattle.gql_machine.specs.Reading.{Reading, ReadsAs, blank, bad, deep, unread, read}
use Rattle.gql_machine.specs.SessionState.{SessionState}
use Rattle.gql_machine.specs.StatementRun.{StatementEnd, StatementMayRun}

-- the statement was answered, and no transaction is open behind it
abbrev pub is_commit_point : StatementEnd → Bool
is_commit_point end = not (is_refusal end.outcome) && not (is_some end.after.access)

-- what was changed is kept
abbrev pub IsKept : StatementEnd → Outcome → SessionState → Type 0
IsKept end made after = (made ≡ end.outcome) × (after ≡ record end.after { kept = end.after.catalog })

-- the store kept nothing of what was changed
pub record IsRefusedByStore (end : StatementEnd) (made : Outcome) (after : SessionState) : Type 0 where
  pub changed : end.after.catalog ≢ end.after.kept
  pub outcome : made ≡ outcome.Refused refusal.Store
  pub undone : after ≡ record end.after { catalog = end.after.kept }

-- at a commit point it is kept or refused; elsewhere it stays as it ended
abbrev pub SettlesAt : Bool → StatementEnd → Outcome → SessionState → Type 0
SettlesAt true end made after = IsKept end made after ⊎ IsRefusedByStore end made after
SettlesAt false end made after = (made ≡ end.outcome) × (after ≡ end.after)

-- how a statement that ended so is answered, and the state behind it
abbrev pub Settles : StatementEnd → Outcome → SessionState → Type 0
Settles end made after = SettlesAt (is_commit_point end) end made after

-- a piece that is no statement is refused
abbrev pub IsRefused : SessionState → Refusal → List Outcome → SessionState → Type 0
IsRefused before r made after = (made ≡ outcome.Refused r ∷ []) × (after ≡ before)

-- a statement may be answered so
pub record MayBeAnswered (before : SessionState) (s : Statement) (made : List Outcome) (after : SessionState) : Type 0 where
  pub end : StatementEnd
  pub runs : StatementMayRun before s end
  pub answer : Outcome
  pub settles : Settles end answer after
  pub made_is : made ≡ answer ∷ []

-- What a piece that reads so may be answered with, and the state behind it: a blank piece gives no outcome, and each other one
-- gives one. A statement alone changes the state.
abbrev pub MayAnswer : SessionState → Reading → List Outcome → SessionState → Type 0
MayAnswer before blank made after = (made ≡ []) × (after ≡ before)
MayAnswer before bad made after = IsRefused before refusal.Lex made after
MayAnswer before deep made after = IsRefused before refusal.Deep made after
MayAnswer before unread made after = IsRefused before refusal.Syntax made after
MayAnswer before (read s) made after = MayBeAnswered before s made after

-- One piece of a session that isn't closed: how it reads, what it is answered with, and the state behind it.
pub record Step (before : SessionState) (piece : List ℕ) (made : List Outcome) (after : SessionState) : Type 0 where
  pub goes_on : before.is_closed ≡ false
  pub reading : Reading
  pub reads : ReadsAs piece reading
  pub answers : MayAnswer before reading made after

-- From the start these pieces give these outcomes and lead to that state: a run over some pieces and one more is a
-- run over those, and then one step from where it ended.
pub data RunsSession (start : SessionState) : List (List ℕ) → List Outcome → SessionState → Type 0 where
  no_pieces : RunsSession start [] [] start
  one_more : {pieces : List (List ℕ)} {outcomes : List Outcome} {middle after : SessionState} {piece : List ℕ} {made : List Outcome}
      → RunsSession start pieces outcomes middle → Step middle piece made after → RunsSession start (pieces ++ piece ∷ []) (outcomes ++ made) after
