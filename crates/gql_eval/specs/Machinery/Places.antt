-- The places of a name among columns and among the names of a match.
use Rattle.std.specs.Prelude.{◌≡◌, ℕ, suc, cond, List, [], ◌∷◌, Option, Some, None, option_map}
use Rattle.std.specs.declared.string.String.{String}
use Rattle.std.specs.HashMap.{HashMap, get_by_text}
use Rattle.gql_values3.specs.Texts.{same_text}
use Rattle.gql_values3.specs.declared.table.ColumnKind.{ColumnKind}
use Rattle.gql_eval.specs.declared.places.Places.{Places}

-- the first column of a name, from 0
abbrev pub place_among : List (List ℕ × ColumnKind) → List ℕ → Option ℕ
place_among [] x = None
place_among (c ∷ cs) x = cond (same_text x c.0) (Some 0) (option_map suc (place_among cs x))

-- the first of the names of a match that is this one, from 0
abbrev pub name_among : List (List ℕ) → List ℕ → Option ℕ
name_among [] x = None
name_among (n ∷ ns) x = cond (same_text x n) (Some 0) (option_map suc (name_among ns x))

-- both places of a name
abbrev pub places_among : List (List ℕ × ColumnKind) → List (List ℕ) → List ℕ → Places
places_among cs ns x = record { column = place_among cs x; bound = name_among ns x }

-- the map has the place of each name, and nothing else
abbrev pub ArePlaces : {Y S : Type 0} → HashMap (String Y) ℕ S → List (List ℕ × ColumnKind) → Type 0
ArePlaces places cs = (x : List ℕ) → get_by_text places x ≡ place_among cs x
