-- Heights of the parts of a part, for walks that recurse over them.
use Rattle.std.proofs.Common.{◌≡◌, ℕ, zero, suc, ◌+◌, ◌*◌, ◌<◌, ◌≤◌, max, List, [], ◌∷◌, map, length, get_or, ap, arith}
use Rattle.gql_norm.specs.NormalPattern.{Part}
use Rattle.gql_norm.specs.NormalData.{part_data}
use Rattle.gql_norm.specs.declared.part.Part.{Part as CodePart}
use Rattle.gql_norm.specs.declared.part.Part.TheVariants as part
use Rattle.gql_norm.specs.Machinery.PartHeight.{part_height_of, highest_part}
use Rattle.gql_norm.specs.Machinery.PartFalls.{first_le-row, others_le-row, first_le-beside, others_le-beside}

-- two parts and the others are lower than the row, and than the union
pub row_falls : (x a b : CodePart) (cs : List CodePart) (p r : Part) (rs : List Part) → x ≡ part.Concat p r rs → part_data a ≡ p → part_data b ≡ r → map part_data cs ≡ rs
    → 3 * max (max (part_height_of (part_data a)) (part_height_of (part_data b))) (highest_part (map part_data cs)) + 2 < 3 * part_height_of (part_data x)
row_falls x a b cs p r rs e h k l =
    omega (arith, first_le-row r rs, others_le-row r rs, ap (λ z. part_height_of (part_data z)) e, ap part_height_of h, ap part_height_of k, ap highest_part l)

pub union_falls : (x a b : CodePart) (cs : List CodePart) (p r : Part) (rs : List Part) → x ≡ part.Union p r rs → part_data a ≡ p → part_data b ≡ r → map part_data cs ≡ rs
    → 3 * max (max (part_height_of (part_data a)) (part_height_of (part_data b))) (highest_part (map part_data cs)) + 2 < 3 * part_height_of (part_data x)
union_falls x a b cs p r rs e h k l =
    omega (arith, first_le-beside r rs, others_le-beside r rs, ap (λ z. part_height_of (part_data z)) e, ap part_height_of h, ap part_height_of k, ap highest_part l)

-- no part of a list is higher than the highest
pub height_le-highest_part : (parts : List CodePart) (i : ℕ) (p : CodePart) → i < length parts → p ≡ get_or parts i p → part_height_of (part_data p) ≤ highest_part (map part_data parts)
height_le-highest_part [] i p h q = absurd (omega arith)
height_le-highest_part (x ∷ xs) zero p h q = omega (arith, ap (λ z. part_height_of (part_data z)) q)
height_le-highest_part (x ∷ xs) (suc i) p h q = omega (arith, height_le-highest_part xs i p (omega arith) q)
