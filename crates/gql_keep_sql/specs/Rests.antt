-- That no transaction is left open.
use Rattle.std.specs.Prelude.{◌≡◌, false, ⊤}
use Rattle.sqlite.specs.Held.{Held}
use Rattle.gql_keep_sql.specs.declared.place.Place.{Place}
use Rattle.gql_keep_sql.specs.declared.place.Place.TheVariants.{File}

-- no transaction is open where there was none
abbrev pub Rests : {S : Type 0} → Held S → Held S → Type 0
Rests old new = old.in_transaction ≡ false → new.in_transaction ≡ false

-- no transaction is open at the place
abbrev pub IsAtRest : {S : Type 0} → Place S → Type 0
IsAtRest (File name conn) = conn.in_transaction ≡ false
IsAtRest place = ⊤
