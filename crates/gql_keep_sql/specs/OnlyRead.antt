-- What a connection is left as where a run of its records was asked for, whatever the answer was.
use Rattle.std.specs.Prelude.{◌≡◌, ◌⊎◌, ℕ, List, [], ◌∷◌, codes}
use Rattle.sqlite.specs.declared.types.Value.{Value}
use Rattle.sqlite.specs.declared.types.Value.TheVariants.{Blob}
use Rattle.sqlite.specs.Store.{Ghosts}
use Rattle.sqlite.specs.Tree.{Trees}
use Rattle.sqlite.specs.State.{HasCleanDisk, KeepsCommit, Survives, CommitsShowing}
use Rattle.sqlite.specs.Held.{Held, state}
use Rattle.gql_keep_sql.specs.Fetched.{SelectsRun}
use Rattle.gql_keep_sql.specs.Rests.{Rests}

-- what the query for a run from this key on commits, if its text is one of a write
abbrev pub CommitsRun : {S : Type 0} → Ghosts S → List ℕ → Held S → Trees → Type 0
CommitsRun g from old = CommitsShowing (codes "SELECT key, value FROM record WHERE key >= ?1 ORDER BY key LIMIT 64") (Blob from ∷ []) (state g old)

-- such a query was answered
abbrev pub IsAnswered : {S : Type 0} → Ghosts S → Held S → Held S → Type 0
IsAnswered g old new = (from : List ℕ) × (rows : List (List Value)) × SelectsRun g from rows old new

-- records were only read
pub record IsOnlyRead {S : Type 0} (g : Ghosts S) (old new : Held S) : Type 0 where
  -- no transaction is open where there was none
  pub rests : Rests old new
  -- where the disk has given back what was written, what is committed stays, or a query for a run was answered
  pub kept : HasCleanDisk (state g new) → KeepsCommit (state g old) (state g new) ⊎ IsAnswered g old new
  -- a crash leaves what it could leave before, or what such a query commits
  pub crash : Survives (state g old) (state g new) (λ db. (from : List ℕ) × CommitsRun g from old db)
