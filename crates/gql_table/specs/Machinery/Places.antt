-- The groups of equal rows, numbered by their first rows.
use Rattle.std.specs.Prelude.{ℕ, suc, Bool, List, [], ◌∷◌, ◌++◌, Option, Some, None, if◌then◌else◌}
use Rattle.std.specs.List.{list_any}
use Rattle.gql_values3.specs.Datum.{Datum}
use Rattle.gql_eval.specs.RowLists.{RowList}
use Rattle.gql_table.specs.Distinct.{same_row}

-- the row is among them
abbrev pub among : RowList → List Datum → Bool
among ks r = list_any (λ k. same_row k r) ks

-- the place of the row among rows; where it isn't there, their number
abbrev pub place : RowList → List Datum → ℕ
place [] r = 0
place (k ∷ ks) r = if same_row k r then 0 else suc (place ks r)

-- the rows, with one more at the end where it is a new one
abbrev pub added : RowList → List Datum → RowList
added ks r = if among ks r then ks else ks ++ r ∷ []

-- the place of a row that is among them
abbrev pub found_place : RowList → List Datum → Option ℕ
found_place ks r = if among ks r then Some (place ks r) else None

-- the place of each row among the first of their kind, some of which are there
abbrev pub places : RowList → RowList → List ℕ
places ks [] = []
places ks (r ∷ rs) = place ks r ∷ places (added ks r) rs
