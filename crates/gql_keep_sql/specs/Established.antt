-- How a database is found to be a store, or becomes one.
use Rattle.std.specs.Prelude.{◌≡◌, ◌⊎◌, ℕ, Bool, true, false, List, [], ◌∷◌, Ok, Err, codes}
use Rattle.sqlite.specs.declared.types.Value.{Value}
use Rattle.sqlite.specs.declared.types.Value.TheVariants.{Text}
use Rattle.sqlite.specs.declared.error.Error.{Error}
use Rattle.sqlite.specs.Order.{column}
use Rattle.sqlite.specs.Store.{Ghosts}
use Rattle.sqlite.specs.State.{HasCleanDisk, Shown, FailsToQuery, Executes}
use Rattle.sqlite.specs.Held.{Held, state}
use Rattle.gql_values3.specs.Texts.{same_text}

-- the text of a store's one table
abbrev pub table : List ℕ
table = codes "CREATE TABLE record (key BLOB PRIMARY KEY, value BLOB NOT NULL) STRICT"

-- the text of the query for the texts of all objects
abbrev pub objects : List ℕ
objects = codes "SELECT sql FROM sqlite_schema WHERE sql IS NOT NULL"

-- the value is this text
abbrev pub is_text : List ℕ → Value → Bool
is_text text (Text own) = same_text own text
is_text text value = false

-- the rows are of no object, or of that table alone
abbrev pub are_ours : List (List Value) → Bool
are_ours [] = true
are_ours (row ∷ []) = is_text table (column row 0)
are_ours (row ∷ other ∷ more) = false

module _ {S : Type 0} (g : Ghosts S) (old new : Held S) where
  -- the table was the one object, or there was none, and it was made
  abbrev pub Establishes : Type 0
  Establishes =
      ((row : List Value) × Shown objects [] (state g old) (state g new) (row ∷ []) × (is_text table (column row 0) ≡ true))
      ⊎ ((mid : Held S) × Shown objects [] (state g old) (state g mid) [] × (count : ℕ) × Executes table [] (state g mid) (state g new) (Ok count))

  -- why not, where the disk has given back what was written: SQLite refused one of the two, or there were other objects
  abbrev pub FailsToEstablish : Error → Type 0
  FailsToEstablish e =
      HasCleanDisk (state g new)
      → FailsToQuery objects [] (state g old) (state g new) e
      ⊎ (((mid : Held S) × Shown objects [] (state g old) (state g mid) [] × Executes table [] (state g mid) (state g new) (Err e))
      ⊎ ((rows : List (List Value)) × Shown objects [] (state g old) (state g new) rows × (are_ours rows ≡ false)))
