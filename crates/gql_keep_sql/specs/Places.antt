-- The place where the records of a store are.
use Rattle.std.specs.Prelude.{◌≡◌, ℕ, List, Option, Some, None, ⊤}
use Rattle.std.specs.String.{string_bytes}
use Rattle.sqlite.specs.Store.{Ghosts}
use Rattle.gql_keep_sql.specs.OnlyRead.{IsOnlyRead}
use Rattle.gql_keep_sql.specs.declared.place.Place.{Place}
use Rattle.gql_keep_sql.specs.declared.place.Place.TheVariants.{Nowhere, Memory, File}

-- the place is the file that was opened under this name, or memory where there is no name
abbrev pub IsUnder : {S : Type 0} → Option (List ℕ) → Place S → Type 0
IsUnder None (Memory conn) = ⊤
IsUnder (Some name) (File own conn) = string_bytes own ≡ name
IsUnder _ _ = ⊥

-- the place is a file
abbrev pub IsFile : {S : Type 0} → Place S → Type 0
IsFile (File name conn) = ⊤
IsFile place = ⊥

-- the place stays: the file, of which records were only read, or memory with its records
abbrev pub IsSamePlace : {S : Type 0} → Ghosts S → Place S → Place S → Type 0
IsSamePlace g Nowhere Nowhere = ⊤
IsSamePlace g (Memory old) (Memory new) = new ≡ old
IsSamePlace g (File name old) (File new_name new) = (new_name ≡ name) × IsOnlyRead g old new
IsSamePlace g _ _ = ⊥
