-- Degrees gathered from the left are those of the definition.
use Rattle.std.proofs.Common.{◌≡◌, ℕ, ◌≤◌, List, [], ◌∷◌, map, length, drop, Option, Some, None, refl, ap, sym, ◌∙◌}
use Rattle.std.proofs.lemmas.List.{drop_all}
use Rattle.gql_norm.specs.declared.degree.Degree.{Degree}
use Rattle.gql_norm.specs.NormalPattern.{Part, in_a_row, side_by_side, sides_of, NormalPath}
use Rattle.gql_norm.specs.NormalData.{path_data}
use Rattle.gql_norm.specs.declared.path.NormalPath.{NormalPath as CodePath}
use Rattle.gql_norm.specs.Degree.{joint, beside, beside_all, degree_of, degrees_of}
use Rattle.gql_norm.specs.NewColumns.{degree_in_paths}
use Rattle.gql_norm.specs.Machinery.DegreeFolds.{joint_folded, beside_folded}
use Rattle.gql_norm.proofs.DegreeTables.{same_table}

joint_assoc : (a b c : Option Degree) → joint a (joint b c) ≡ joint (joint a b) c
joint_assoc = same_table (λ a b c. joint a (joint b c)) (λ a b c. joint (joint a b) c) refl

beside_assoc : (a b c : Option Degree) → beside a (beside b c) ≡ beside (beside a b) c
beside_assoc = same_table (λ a b c. beside a (beside b c)) (λ a b c. beside (beside a b) c) refl

pub joint_none : (a : Option Degree) → joint a None ≡ a
joint_none None = refl
joint_none (Some a) = refl

-- a row
pub joint_folded_row : (p : Part) (ps : List Part) (x : List ℕ) (d : Option Degree) → joint_folded (joint d (degree_of p x)) ps x ≡ joint d (degree_of (in_a_row p ps) x)
joint_folded_row p [] x d = refl
joint_folded_row p (r ∷ rs) x d =
    joint_folded_row r rs x (joint d (degree_of p x)) ∙ sym (joint_assoc d (degree_of p x) (degree_of (in_a_row r rs) x))

-- sides
pub beside_folded_sides : (p : Part) (ps : List Part) (x : List ℕ) (d : Option Degree) → beside_folded (beside d (degree_of p x)) ps x ≡ beside d (degree_of (side_by_side p ps) x)
beside_folded_sides p [] x d = refl
beside_folded_sides p (r ∷ rs) x d =
    beside_folded_sides r rs x (beside d (degree_of p x)) ∙ sym (beside_assoc d (degree_of p x) (degree_of (side_by_side r rs) x))

-- sides whose number is told
abbrev pub told : List Part → List ℕ → List (Option Degree)
told ps x = degrees_of (sides_of ps) x

beside_folded_told_from : (p : Part) (ps : List Part) (x : List ℕ) (d : Option Degree) → beside_folded (beside d (degree_of p x)) ps x ≡ beside d (beside_all (degree_of p x ∷ told ps x))
beside_folded_told_from p [] x d = refl
beside_folded_told_from p (r ∷ rs) x d =
    beside_folded_told_from r rs x (beside d (degree_of p x)) ∙ sym (beside_assoc d (degree_of p x) (beside_all (degree_of r x ∷ told rs x)))

pub beside_folded_told : (p : Part) (ps : List Part) (x : List ℕ) → beside_folded (degree_of p x) ps x ≡ beside_all (told (p ∷ ps) x)
beside_folded_told p [] x = refl
beside_folded_told p (r ∷ rs) x = beside_folded_told_from r rs x (degree_of p x)

-- path patterns, from the left
abbrev pub paths_folded : Option Degree → List NormalPath → List ℕ → Option Degree
paths_folded d [] x = d
paths_folded d (p ∷ ps) x = paths_folded (joint d (degree_of p.body x)) ps x

paths_folded_from : (ps : List NormalPath) (x : List ℕ) (d : Option Degree) → paths_folded d ps x ≡ joint d (degree_in_paths ps x)
paths_folded_from [] x d = sym (joint_none d)
paths_folded_from (p ∷ ps) x d =
    paths_folded_from ps x (joint d (degree_of p.body x)) ∙ sym (joint_assoc d (degree_of p.body x) (degree_in_paths ps x))

pub paths_folded_all : (ps : List NormalPath) (x : List ℕ) → paths_folded None ps x ≡ degree_in_paths ps x
paths_folded_all ps x = paths_folded_from ps x None

pub all_degrees : (paths : List CodePath) (x : List ℕ) (d : Option Degree) (i : ℕ) → length paths ≤ i → paths_folded d (map path_data (drop i paths)) x ≡ d
all_degrees paths x d i h = ap (λ ps. paths_folded d (map path_data ps) x) (drop_all i paths h)
