-- What a store becomes by one transaction: its statements in turn, and then the commit.
use Rattle.std.specs.Prelude.{◌≡◌, ◌⊎◌, ℕ, true, List, [], ◌∷◌, ◌++◌, map, Result, Ok, Err, IsTrue, codes}
use Rattle.sqlite.specs.declared.types.Value.{Value}
use Rattle.sqlite.specs.declared.types.Value.TheVariants.{Blob}
use Rattle.sqlite.specs.Store.{Ghosts}
use Rattle.sqlite.specs.Effect.{Database}
use Rattle.sqlite.specs.State.{HasCleanDisk, Executes, ExecutesInside}
use Rattle.sqlite.specs.declared.error.Error.{Error}
use Rattle.sqlite.specs.Held.{Held, state}
use Rattle.sqlite.specs.Steps.{FailsToCommit}
use Rattle.gql_ports.specs.declared.stored.Record.{Record}

-- a statement and what is bound to its parameters
pub record Step : Type 0 where
  pub sql : List ℕ
  pub params : List Value

-- the statement that puts a record
abbrev pub put_step : Record → Step
put_step r = record {
  sql = codes "INSERT INTO record (key, value) VALUES (?1, ?2) ON CONFLICT (key) DO UPDATE SET value = excluded.value";
  params = Blob r.key ∷ Blob r.value ∷ [];
}

-- the statement that drops a key
abbrev pub drop_step : List ℕ → Step
drop_step key = record { sql = codes "DELETE FROM record WHERE key = ?1"; params = Blob key ∷ [] }

-- inside a transaction the statement runs, or is refused, as SQLite has it
abbrev pub RunsInside : {S : Type 0} → Ghosts S → Step → Held S → Held S → Result ℕ Error → Type 0
RunsInside g s old new result = HasCleanDisk (state g new) → IsTrue (state g old).in_transaction → ExecutesInside 0 s.sql s.params (state g old) (state g new) result

-- the statements ran in turn, from what a connection held to what it held then
abbrev pub Ran : {S : Type 0} → Ghosts S → List Step → Held S → Held S → Type 0
Ran g [] from to = to ≡ from
Ran {S} g (s ∷ more) from to = (mid : Held S) × (count : ℕ) × Executes s.sql s.params (state g from) (state g mid) (Ok count) × Ran g more mid to

-- one of the statements was refused with this error, after those before it ran in turn
pub record Refuses {S : Type 0} (g : Ghosts S) (steps : List Step) (from : Held S) (e : Error) : Type 0 where
  pub before : List Step
  pub step : Step
  pub after : List Step
  pub are : steps ≡ before ++ step ∷ after
  pub at : Held S
  pub end : Held S
  pub ran : Ran g before from at
  pub refused : ExecutesInside 0 step.sql step.params (state g at) (state g end) (Err e)

-- what is inside a transaction that just began
abbrev pub begun : {S : Type 0} → Held S → Held S
begun old = record old { in_transaction = true }

-- the statements that put these records, and then drop those keys
abbrev pub steps_of : List Record → List (List ℕ) → List Step
steps_of puts drops = map put_step puts ++ map drop_step drops

-- the database that these statements make in a transaction of their own: it holds all that they wrote
pub record Rewrote {S : Type 0} (g : Ghosts S) (puts : List Record) (drops : List (List ℕ)) (old : Held S) (db : Database) : Type 0 where
  pub last : Held S
  pub ran : Ran g (steps_of puts drops) (begun old) last
  pub is : db ≡ (state g last).now

-- why they make none, where the disk has given back what was written: there is a transaction already, or SQLite refused one of them or their commit
abbrev pub FailsToRewrite : {S : Type 0} → Ghosts S → List Record → List (List ℕ) → Held S → Held S → Error → Type 0
FailsToRewrite {S} g puts drops old new e =
    HasCleanDisk (state g new)
    → IsTrue old.in_transaction ⊎ (Refuses g (steps_of puts drops) (begun old) e ⊎ ((last : Held S) × Ran g (steps_of puts drops) (begun old) last × FailsToCommit (state g last) (state g new) e))
