-- A part is higher than the parts that its variant holds.
use Rattle.std.specs.Prelude.{◌≤◌, List, [], ◌∷◌, map}
use Rattle.std.proofs.Common.{arith}
use denote.Param.Weighed.{most}
use Rattle.gql_norm.specs.NormalPattern.{Part, in_a_row, side_by_side}
use Rattle.gql_norm.specs.Machinery.PartHeight.{part_height_of, highest_part}
use Rattle.gql_norm.specs.NormalData.{part_data}
use Rattle.gql_norm.specs.declared.part.Part.{Part as CodePart}
use Rattle.gql_norm.specs.declared.part.Part.TheVariants as part
use Rattle.gql_norm.specs.declared.part.PartList.TheDeep.{deep-Part}

-- parts in a row, and beside each other, are as high as the first and as the others
pub first_le-row : (p : Part) (ps : List Part) → part_height_of p ≤ part_height_of (in_a_row p ps)
first_le-row p [] = omega arith
first_le-row p (r ∷ rs) = omega arith

pub others_le-row : (p : Part) (ps : List Part) → highest_part ps ≤ part_height_of (in_a_row p ps)
others_le-row p [] = omega arith
others_le-row p (r ∷ rs) = omega (arith, first_le-row r rs, others_le-row r rs)

pub first_le-beside : (p : Part) (ps : List Part) → part_height_of p ≤ part_height_of (side_by_side p ps)
first_le-beside p [] = omega arith
first_le-beside p (r ∷ rs) = omega arith

pub others_le-beside : (p : Part) (ps : List Part) → highest_part ps ≤ part_height_of (side_by_side p ps)
others_le-beside p [] = omega arith
others_le-beside p (r ∷ rs) = omega (arith, first_le-beside r rs, others_le-beside r rs)

-- no part that is behind a box or in a list is higher
pub deep_le-part_height_of : (x : CodePart) → deep-Part x ≤ part_height_of (part_data x)
deep_le-part_height_of (part.Node w) = omega arith
deep_le-part_height_of (part.Edge d w) = omega arith
deep_le-part_height_of (part.Concat p r rs) = omega (arith, first_le-row r rs, others_le-row r rs)
deep_le-part_height_of (part.Union p r rs) = omega (arith, first_le-beside r rs, others_le-beside r rs)
deep_le-part_height_of (part.Alt ps) = omega arith
deep_le-part_height_of (part.Quant b l n) = omega arith
deep_le-part_height_of (part.Opt b) = omega arith
deep_le-part_height_of (part.ModeScope m b c) = omega arith

-- the same of all items of a list
pub most_le-highest_part : (xs : List CodePart) → most deep-Part xs ≤ highest_part (map part_data xs)
most_le-highest_part [] = omega arith
most_le-highest_part (x ∷ xs) = omega (arith, deep_le-part_height_of x, most_le-highest_part xs)
