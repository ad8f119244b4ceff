use Rattle.std.proofs.Common.{◌+◌, ◌*◌, map}
use Rattle.gql_norm.specs.NormalData.{part_data}
use Rattle.gql_norm.specs.NormalPattern.{in_a_row, side_by_side, sides_of}
use Rattle.gql_norm.proofs.Measures.{row_of, beside_of, weight_of, sides_weight_of}
use Rattle.gql_degrees.proofs.walk.+walked.Given as goal

abbrev pub decreases-walked : goal.decreases-walked
decreases-walked l = 4 * weight_of (part_data l.part.now) + 2

abbrev pub decreases-in_row : goal.decreases-in_row
decreases-in_row l = 4 * weight_of (row_of l.first.now l.second.now l.others.now) + 1

abbrev pub decreases-row : goal.decreases-row
decreases-row l = 4 * weight_of (in_a_row (part_data l.first.now) (map part_data l.others.now)) + 3

abbrev pub decreases-beside : goal.decreases-beside
decreases-beside l = 4 * weight_of (beside_of l.first.now l.second.now l.others.now) + 1

abbrev pub decreases-either : goal.decreases-either
decreases-either l = 4 * weight_of (side_by_side (part_data l.first.now) (map part_data l.others.now)) + 3

abbrev pub decreases-told : goal.decreases-told
decreases-told l = 4 * sides_weight_of (sides_of (map part_data l.sides.now)) + 5

abbrev pub decreases-of_sides : goal.decreases-of_sides
decreases-of_sides l = 4 * sides_weight_of (sides_of (map part_data l.sides.now)) + 4

abbrev pub decreases-told_from : goal.decreases-told_from
decreases-told_from l = 4 * (weight_of (part_data l.first.now) + sides_weight_of (sides_of (map part_data l.others.now))) + 4

abbrev pub decreases-repeated : goal.decreases-repeated
decreases-repeated l = 4 * weight_of (part_data l.part.now) + 3

abbrev pub decreases-optional : goal.decreases-optional
decreases-optional l = 4 * weight_of (part_data l.part.now) + 3

abbrev pub decreases-inside : goal.decreases-inside
decreases-inside l = 4 * weight_of (part_data l.part.now) + 4

abbrev pub decreases-inside_from : goal.decreases-inside_from
decreases-inside_from l = 4 * weight_of (part_data l.part.now) + 3
