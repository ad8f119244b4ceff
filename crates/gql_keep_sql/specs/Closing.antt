-- What a close leaves of a place, and why it fails.
use Rattle.std.specs.Prelude.{◌≡◌, ⊤, IsTrue}
use Rattle.sqlite.specs.View.{IsClean}
use Rattle.sqlite.specs.FileStore.{view, log_frames}
use Rattle.sqlite.specs.Files as files
use Rattle.sqlite.specs.declared.FileStore.{FileStore}
use Rattle.sqlite.specs.declared.error.Error.{Error}
use Rattle.gql_keep_sql.specs.declared.place.Place.{Place}
use Rattle.gql_keep_sql.specs.declared.place.Place.TheVariants.{Nowhere, Memory, File}

-- a file's connection became a store with an empty log, so that the file stands alone; a crash leaves what it could leave before, and, where the disk has given back what was written, a database
abbrev pub IsClosed : {D : Type 0} {g : _} → Place (FileStore D g) → Type 0
IsClosed (File name conn) = (last : _) × files.IsClosed conn last × (IsClean (view last) → IsTrue (view last).is_open × (log_frames last ≡ 0))
IsClosed place = ⊤

-- or it became one whose log was not copied, for that reason: the disk failed, or had failed before, or memory wants
abbrev pub FailsToClose : {D : Type 0} {g : _} → Place (FileStore D g) → Error → Type 0
FailsToClose (File name conn) e = (last : _) × files.IsClosed conn last × (IsClean (view last) → files.FailsToClose conn last e)
FailsToClose place e = ⊥
