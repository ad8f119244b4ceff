-- What a fetch reads: the value that the store has under a key, in a row of SQLite's answer to a query for records.
use Rattle.std.specs.Prelude.{◌≡◌, ◌⊎◌, ℕ, Bool, true, false, ◌&&◌, List, [], ◌∷◌, map, slice_get, Option, Some, None, IfSome, ⊤, codes, Contains, IsPermutation, All}
use Rattle.std.specs.List.{AllZip, list_all}
use Rattle.sqlite.specs.Recovery.{Image}
use Rattle.sqlite.specs.declared.types.Value.{Value}
use Rattle.sqlite.specs.declared.types.Value.TheVariants.{Blob}
use Rattle.sqlite.specs.Order.{column}
use Rattle.sqlite.specs.Store.{Ghosts}
use Rattle.sqlite.specs.State.{HasCleanDisk, Opens, Shown, FailsToQuery}
use Rattle.sqlite.specs.declared.error.Error.{Error}
use Rattle.sqlite.specs.Held.{Held, IsNew, state}
use Rattle.sqlite.specs.Start.{FindsIn}
use Rattle.gql_values3.specs.Texts.{same_text}
use Rattle.gql_ports.specs.declared.stored.Record.{Record}
use Rattle.gql_keep_sql.specs.Established.{Establishes}
use Rattle.gql_keep_sql.specs.Rests.{IsAtRest}
use Rattle.gql_keep_sql.specs.declared.place.Place.{Place}
use Rattle.gql_keep_sql.specs.declared.place.Place.TheVariants.{Nowhere, Memory, File}

-- the query for all records was answered by these rows
abbrev pub SelectsAll : {S : Type 0} → Ghosts S → List (List Value) → Held S → Held S → Type 0
SelectsAll g rows old new = Shown (codes "SELECT key, value FROM record") [] (state g old) (state g new) rows

-- such an answer are these rows, in some order
abbrev pub SelectsEach : {S : Type 0} → Ghosts S → List (List Value) → Held S → Held S → Type 0
SelectsEach g rows old new = (answer : List (List Value)) × SelectsAll g answer old new × IsPermutation answer rows

-- the query for a run of records, from a key on, was answered by these rows
abbrev pub SelectsRun : {S : Type 0} → Ghosts S → List ℕ → List (List Value) → Held S → Held S → Type 0
SelectsRun g from rows old new = Shown (codes "SELECT key, value FROM record WHERE key >= ?1 ORDER BY key LIMIT 64") (Blob from ∷ []) (state g old) (state g new) rows

-- it was refused with this error
abbrev pub IsRefusedRun : {S : Type 0} → Ghosts S → List ℕ → Held S → Held S → Error → Type 0
IsRefusedRun g from old new = FailsToQuery (codes "SELECT key, value FROM record WHERE key >= ?1 ORDER BY key LIMIT 64") (Blob from ∷ []) (state g old) (state g new)

-- why no run was read, where the disk has given back what was written: the query was refused, or its answer does not pass the test
abbrev pub FailsToSelect : {S : Type 0} → Ghosts S → List ℕ → (List (List Value) → Bool) → Held S → Held S → Error → Type 0
FailsToSelect g from test old new e = HasCleanDisk (state g new) → IsRefusedRun g from old new e ⊎ ((rows : List (List Value)) × SelectsRun g from rows old new × (test rows ≡ false))

-- one of the two queries was answered, for all records or for a run from some key on, and this row stands in its answer
pub record Selects {S : Type 0} (g : Ghosts S) (row : List Value) (old new : Held S) : Type 0 where
  pub rows : List (List Value)
  pub answer : SelectsAll g rows old new ⊎ ((from : List ℕ) × SelectsRun g from rows old new)
  pub at : ℕ
  pub is : slice_get rows at ≡ Some row

-- the place stays, and its connection answers with this row, where the disk has given back what was written
abbrev pub IsSelected : {S : Type 0} → Ghosts S → List Value → Place S → Place S → Type 0
IsSelected g row (File name old) (File new_name new) = (new_name ≡ name) × (HasCleanDisk (state g new) → Selects g row old new)
IsSelected g row _ _ = ⊥

-- the value is bytes
abbrev pub is_blob : Value → Bool
is_blob (Blob bytes) = true
is_blob value = false

-- the row is one of a record
abbrev pub is_record : List Value → Bool
is_record row = is_blob (column row 0) && is_blob (column row 1)

-- the row has the record's key and its value
abbrev pub HasRecord : List Value → Record → Type 0
HasRecord row r = (column row 0 ≡ Blob r.key) × (column row 1 ≡ Blob r.value)

-- the value is these bytes
abbrev pub has_bytes : List ℕ → Value → Bool
has_bytes bytes (Blob own) = same_text own bytes
has_bytes bytes value = false

-- the rows are of records, of which the first has this key
abbrev pub begin_with : List ℕ → List (List Value) → Bool
begin_with key [] = false
begin_with key (row ∷ more) = has_bytes key (column row 0) && list_all is_record (row ∷ more)

-- the records are those of rows of which this holds, row by row, where the disk has given back what was written
abbrev pub AreRead : {S : Type 0} → Ghosts S → List Record → Held S → (List (List Value) → Type 0) → Type 0
AreRead g records new Answer = (rows : List (List Value)) × AllZip HasRecord rows records × (HasCleanDisk (state g new) → Answer rows)

-- the record is that of a row of which this holds
abbrev pub IsInRow : (List Value → Type 0) → Record → Type 0
IsInRow P r = (row : List Value) × HasRecord row r × P row

-- the place stays, and these records are its connection's answer to the query for a run from this key on
abbrev pub IsRun : {S : Type 0} → Ghosts S → List ℕ → List Record → Place S → Place S → Type 0
IsRun g from records (File name old) (File new_name new) = (new_name ≡ name) × AreRead g records new (λ rows. SelectsRun g from rows old new)
IsRun g from records _ _ = ⊥

-- why there is no such run, or none whose rows pass the test: there is no file, or its connection answered so
abbrev pub FailsToRead : {S : Type 0} → Ghosts S → List ℕ → (List (List Value) → Bool) → Place S → Place S → Error → Type 0
FailsToRead g from test (File name old) (File new_name new) e = FailsToSelect g from test old new e
FailsToRead g from test (File name old) new e = ⊥
FailsToRead g from test old new e = ⊤

-- the row of each of these records was selected, and since then nothing was asked of the place: it is as that query left it
abbrev pub AreReadAhead : {S : Type 0} → Ghosts S → List Record → Place S → Type 0
AreReadAhead {S} g records place = All (IsInRow (λ row. (before : Place S) × IsSelected g row before place)) records

-- a row was selected from what a place was before a call, or it was before that call, which then asked nothing of the place
pub record IsFound {S : Type 0} (g : Ghosts S) (row : List Value) (old new : Place S) : Type 0 where
  pub before : Place S
  pub selected : IsSelected g row before new
  pub since : (before ≡ old) ⊎ (new ≡ old)

-- such a row has the key, and its value
pub record FetchesRow {S : Type 0} (g : Ghosts S) (key value : List ℕ) (old new : Place S) : Type 0 where
  pub row : List Value
  pub found : IsFound g row old new
  pub key_is : column row 0 ≡ Blob key
  pub value_is : column row 1 ≡ Blob value

-- the record of a place, from 0, in memory
abbrev pub held_at : {S : Type 0} → Place S → ℕ → Option Record
held_at (Memory records) index = slice_get records.items index
held_at place index = None

-- why no record of this place and this key was found: in memory another key stands there, or none
abbrev pub FailsToFetch : {S : Type 0} → Ghosts S → ℕ → List ℕ → Place S → Place S → Error → Type 0
FailsToFetch g index key (Memory records) new e = IfSome (slice_get records.items index) (λ r. same_text r.key key ≡ false)
FailsToFetch g index key old new e = FailsToRead g key (begin_with key) old new e

-- the record is one of those in memory
abbrev pub IsHeld : {S : Type 0} → Record → Place S → Type 0
IsHeld r (Memory records) = Contains records.items r
IsHeld r _ = ⊥

-- the value of the key: in such a row, or in a record in memory, which stays as it is
abbrev pub Fetches : {S : Type 0} → Ghosts S → List ℕ → List ℕ → Place S → Place S → Type 0
Fetches g key value old new = FetchesRow g key value old new ⊎ (IsHeld (record { key = key; value = value }) old × (new ≡ old))

-- the place stays, and these rows, in some order, are its connection's answer to the query for all records, where the disk has given back what was written; or it is memory that was just opened, which holds none
abbrev pub AreSelected : {S : Type 0} → Ghosts S → List (List Value) → Place S → Place S → Type 0
AreSelected g rows Nowhere (Memory new) = (rows ≡ []) × (new.items ≡ [])
AreSelected g rows (File name old) (File new_name new) = (new_name ≡ name) × (HasCleanDisk (state g new) → SelectsEach g rows old new)
AreSelected g rows _ _ = ⊥

-- the key's column of a row
abbrev pub first_column : List Value → Value
first_column row = column row 0

-- the connection has the database that its files held as they were opened, and has changed nothing
abbrev pub HasFound : {S : Type 0} → Ghosts S → Image → Held S → Type 0
HasFound g image h = Opens (state g h) × FindsIn image (state g h)

-- a connection that was new, and had what its files held, was found to be one to a store, or made that
abbrev pub IsStore : {S : Type 0} → Ghosts S → Image → Place S → Type 0
IsStore g image (File name now) = (new : Held _) × IsNew new × (HasCleanDisk (state g now) → HasFound g image new × Establishes g new now)
IsStore g image place = ⊤

-- these are all records of the place, where no transaction is open: those of the rows that the query for all of them was answered by, and since then nothing was asked of the place
pub record AreAllRecords {S : Type 0} (g : Ghosts S) (image : Image) (records : List Record) (place : Place S) : Type 0 where
  pub rows : List (List Value)
  pub before : Place S
  pub store : IsStore g image before
  pub selected : AreSelected g rows before place
  pub rests : IsAtRest place
  pub are : AllZip HasRecord rows records

-- these are the keys of all records of the place, where no transaction is open: of the rows that the query for all of them was answered by, and since then nothing was asked of the place
pub record AreAllKeys {S : Type 0} (g : Ghosts S) (image : Image) (keys : List (List ℕ)) (place : Place S) : Type 0 where
  pub rows : List (List Value)
  pub before : Place S
  pub store : IsStore g image before
  pub selected : AreSelected g rows before place
  pub rests : IsAtRest place
  pub are : map Blob keys ≡ map first_column rows
