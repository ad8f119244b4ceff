-- What a query for a run leaves of its connection, and of the place where that stands.
use Rattle.std.proofs.Common.{◌≡◌, ◌⊎◌, ℕ, List, Option, Some, None, Result, Ok, Err, IfOk, IfErr, inl, inr, refl}
use Rattle.sqlite.specs.declared.types.Value.{Value}
use Rattle.sqlite.specs.Store.{Ghosts}
use Rattle.sqlite.specs.Clock.{timed}
use Rattle.sqlite.specs.declared.error.Error.{Error}
use Rattle.sqlite.specs.State.{State, HasCleanDisk, KeepsCommit, Survives, RunsCommand, IsNotRun, FailsToShow, FailsToQuery}
use Rattle.sqlite.specs.Held.{Held, state}
use Rattle.sqlite.proofs.StateLemmas.{survives_weaker}
use Rattle.gql_keep_sql.specs.declared.place.Place.{Place}
use Rattle.gql_keep_sql.specs.declared.place.Place.TheVariants.{Nowhere, Memory, File}
use Rattle.gql_keep_sql.specs.Fetched.{SelectsRun, IsRefusedRun}
use Rattle.gql_keep_sql.specs.OnlyRead.{CommitsRun, IsOnlyRead}
use Rattle.gql_keep_sql.specs.Places.{IsSamePlace}
use Rattle.gql_keep_sql.specs.Rests.{Rests}
use Rattle.gql_keep_sql.proofs.TransactionLemmas.{shows_keeps, rolled_keeps}
use Rattle.gql_keep_sql.proofs.WrittenLemmas.{survives_itself}

command_keeps : (sql : List ℕ) (params : List Value) (old new : State) (c : _) (e : Error) → RunsCommand old new sql c params (Err e) → KeepsCommit old new
command_keeps sql params old new c e (inl it) = shows_keeps old new it.1
command_keeps sql params old new c e (inr it) = rolled_keeps old new it.3

-- a query that was refused committed nothing
refused_keeps : (sql : List ℕ) (params : List Value) (old new : State) (e : Error) → FailsToQuery sql params old new e → KeepsCommit old new
unfolding FailsToQuery IsNotRun
refused_keeps sql params old new e (inl (inl it)) = shows_keeps old new it.1
refused_keeps sql params old new e (inl (inr it)) = rolled_keeps old new it.3
refused_keeps sql params old new e (inr it) =
    let full = timed params it.0.formats it.1.now in
    let keeps = elim it.0.returning as (λ what. FailsToShow old new sql it.0 full e what → KeepsCommit old new) [
      | None ↦ λ h. shows_keeps old new h.3
      | Some what ↦ λ h. command_keeps sql full old new it.0 e h
    ] in
    keeps it.2

-- whatever a query for a run answered, records were only read
pub run_only_read : {S T : Type 0} (g : Ghosts S) (from : List ℕ) (old new : Held S) (result : Result T Error) (rows_of : T → List (List Value)) → Rests old new
    → Survives (state g old) (state g new) (CommitsRun g from old) → IfOk result (λ rows. HasCleanDisk (state g new) → SelectsRun g from (rows_of rows) old new)
    → (HasCleanDisk (state g new) → IfErr result (IsRefusedRun g from old new)) → IsOnlyRead g old new
run_only_read g from old new (Ok rows) rows_of rests crash ok err = record {
  rests = rests;
  kept = λ clean. inr (from, rows_of rows, ok clean);
  crash = survives_weaker (state g old) (state g new) _ _ (λ _ db made. (from, made)) crash;
}
run_only_read g from old new (Err e) rows_of rests crash ok err = record {
  rests = rests;
  kept = λ clean. inl (refused_keeps _ _ (state g old) (state g new) e (err clean));
  crash = survives_weaker (state g old) (state g new) _ _ (λ _ db made. (from, made)) crash;
}

-- where nothing was asked, nothing was written
pub read_itself : {S : Type 0} (g : Ghosts S) (h : Held S) → IsOnlyRead g h h
read_itself g h = record { rests = λ none. none; kept = λ clean. inl (record { was_open = λ o. o; committed = λ o. refl }); crash = survives_itself (state g h) _ }

pub same_place : {S : Type 0} (g : Ghosts S) (place : Place S) → IsSamePlace g place place
same_place g Nowhere = tt
same_place g (Memory h) = refl
same_place g (File name h) = (refl, read_itself _ h)
