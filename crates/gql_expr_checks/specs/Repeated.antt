-- Names that stand a second time in a list, as the properties of a map may not (E16 COLUMN).
use Rattle.std.specs.Prelude.{ℕ, Bool, List, [], ◌∷◌, if◌then◌else◌}
use Rattle.std.specs.List.{list_any}
use Rattle.gql_values3.specs.Texts.{same_text}

-- the name is one of them
abbrev pub is_among : List (List ℕ) → List ℕ → Bool
is_among names x = list_any (same_text x) names

-- the names that stand a second time, behind names seen before
abbrev pub repeated : List (List ℕ) → List (List ℕ) → List (List ℕ)
repeated seen [] = []
repeated seen (x ∷ xs) = if is_among seen x then x ∷ repeated (x ∷ seen) xs else repeated (x ∷ seen) xs
