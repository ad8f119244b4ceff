-- Names in the order in which they came, each once.
use Rattle.std.specs.Prelude.{ℕ, List, [], ◌∷◌, ◌++◌, if◌then◌else◌}
use Rattle.gql_expr_checks.specs.Repeated.{is_among}

-- a name at the end, unless it is there
abbrev pub with_name : List (List ℕ) → List ℕ → List (List ℕ)
with_name names x = if is_among names x then names else names ++ x ∷ []
