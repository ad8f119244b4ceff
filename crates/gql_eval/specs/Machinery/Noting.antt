-- A map from names to places that learns the place of a name, unless it knows one.
use Rattle.std.specs.Prelude.{◌≡◌, ℕ, List, Option, Some, None, if◌then◌else◌}
use Rattle.std.specs.declared.string.String.{String}
use Rattle.std.specs.HashMap.{HashMap, get_by_text}
use Rattle.gql_values3.specs.Texts.{same_text}

-- the first of two that is there
abbrev pub earlier : Option ℕ → Option ℕ → Option ℕ
earlier None o = o
earlier (Some i) o = Some i

abbrev pub place_if_same : List ℕ → List ℕ → ℕ → Option ℕ
place_if_same x name place = if same_text x name then Some place else None

abbrev pub Notes : {Y S : Type 0} → HashMap (String Y) ℕ S → HashMap (String Y) ℕ S → List ℕ → ℕ → Type 0
Notes old new name place = (x : List ℕ) → get_by_text new x ≡ earlier (get_by_text old x) (place_if_same x name place)
