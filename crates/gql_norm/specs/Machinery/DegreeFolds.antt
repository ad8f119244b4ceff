-- Degrees over a list of parts, gathered from the left.
use Rattle.std.specs.Prelude.{ℕ, List, [], ◌∷◌, Option}
use Rattle.gql_norm.specs.declared.degree.Degree.{Degree}
use Rattle.gql_norm.specs.NormalPattern.{Part}
use Rattle.gql_norm.specs.Degree.{degree_of, joint, beside}

-- a degree, and then those of parts in a row
abbrev pub joint_folded : Option Degree → List Part → List ℕ → Option Degree
joint_folded d [] x = d
joint_folded d (p ∷ ps) x = joint_folded (joint d (degree_of p x)) ps x

-- a degree, and those of parts beside it
abbrev pub beside_folded : Option Degree → List Part → List ℕ → Option Degree
beside_folded d [] x = d
beside_folded d (p ∷ ps) x = beside_folded (beside d (degree_of p x)) ps x
