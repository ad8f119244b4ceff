-- What a write does to the place where the records are: a list in memory, or a file.
use Rattle.std.specs.Prelude.{◌≡◌, ⊤, Bool, false, not, ◌||◌, List, ◌++◌, ℕ, IsTrue, IsPermutation}
use Rattle.sqlite.specs.Store.{Ghosts}
use Rattle.sqlite.specs.Effect.{Database}
use Rattle.sqlite.specs.State.{HasCleanDisk, Survives}
use Rattle.sqlite.specs.Held.{Held, state}
use Rattle.gql_ports.specs.declared.stored.Record.{Record}
use Rattle.gql_keep_sql.specs.declared.place.Place.{Place}
use Rattle.gql_keep_sql.specs.declared.place.Place.TheVariants.{Nowhere, Memory, File}
use Rattle.std.specs.List.{filter}
use Rattle.std.specs.List.Sorted.{IsSortedBy}
use Rattle.std.specs.Ordering.{nat_cmp, is_lt}
use Rattle.std.specs.Cmp.Lexicographic.{slice_cmp}
use Rattle.gql_keep_sql.specs.Keys.{has_key, keys_of}
use Rattle.gql_keep_sql.specs.Rests.{Rests}
use Rattle.gql_keep_sql.specs.Transaction.{Rewrote, FailsToRewrite}
use Rattle.gql_values3.specs.Texts.{texts_differ}
use Rattle.sqlite.specs.declared.error.Error.{Error}

-- A connection was asked to write these, and did or did not. What is said of what it holds is said where the disk has given back what was written.
pub record Transacts {S : Type 0} (g : Ghosts S) (puts : List Record) (drops : List (List ℕ)) (done : Bool) (old new : Held S) : Type 0 where
  -- all of it is committed
  pub all : HasCleanDisk (state g new) → IsTrue done → Rewrote g puts drops old (state g new).committed
  -- nothing of it is committed
  pub nothing : HasCleanDisk (state g new) → IsTrue (state g new).is_open → done ≡ false → (state g new).committed ≡ (state g old).committed
  -- no transaction is open where there was none
  pub rests : Rests old new
  -- a crash leaves what it could leave before, or all of it
  pub crash : Survives (state g old) (state g new) (λ trees. (db : Database) × Rewrote g puts drops old db × (trees ≡ db.trees))

-- the record stays where these are put and those dropped
abbrev pub stays : List Record → List (List ℕ) → Record → Bool
stays puts drops r = not (has_key (keys_of puts) r.key || has_key drops r.key)

-- the one's key is below the other's, by bytes
abbrev pub is_key_below : Record → Record → Bool
is_key_below a b = is_lt (slice_cmp nat_cmp a.key b.key)

-- Records in memory were to be changed by these, and were or were not.
pub record Alters (puts : List Record) (drops : List (List ℕ)) (done : Bool) (old new : List Record) : Type 0 where
  -- those that were put, and of those before the ones whose keys are neither put nor dropped,
  pub all : IsTrue done → IsPermutation (puts ++ filter (stays puts drops) old) new
  -- in ascending order of their keys
  pub ordered : IsTrue done → IsSortedBy is_key_below new
  -- those before
  pub nothing : done ≡ false → new ≡ old

-- the place stays, and its records are changed, or its connection writes; where nothing is open, nothing is written
abbrev pub Writes : {S : Type 0} → Ghosts S → List Record → List (List ℕ) → Bool → Place S → Place S → Type 0
Writes g puts drops done Nowhere Nowhere = done ≡ false
Writes g puts drops done (Memory old) (Memory new) = Alters puts drops done old.items new.items
Writes g puts drops done (File name old) (File new_name new) = (new_name ≡ name) × Transacts g puts drops done old new
Writes g puts drops done _ _ = ⊥

-- why nothing was written: nothing is open, a key stands twice, or SQLite refused it
abbrev pub FailsToWrite : {S : Type 0} → Ghosts S → List Record → List (List ℕ) → Place S → Place S → Error → Type 0
FailsToWrite g puts drops Nowhere new e = ⊤
FailsToWrite g puts drops (Memory old) new e = texts_differ (keys_of puts ++ drops) ≡ false
FailsToWrite g puts drops (File name old) (File new_name new) e = FailsToRewrite g puts drops old new e
FailsToWrite g puts drops (File name old) new e = ⊥
