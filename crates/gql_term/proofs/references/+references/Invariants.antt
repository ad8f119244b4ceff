use Rattle.std.proofs.Common.{◌≡◌, ◌+◌, ◌*◌, map, max, take, drop}
use Rattle.gql_norm.specs.NormalData.{part_data}
use Rattle.gql_norm.specs.Machinery.PartHeight.{part_height_of, highest_part}
use Rattle.gql_term.specs.Machinery.BarredNames.{barred_by}
use Rattle.gql_term.specs.Machinery.OpenReferences.{barred_behind_all, first_barred_row, first_barred_beside}
use Rattle.gql_term.proofs.references.+references.Given as goal

abbrev pub decreases-first_in : goal.decreases-first_in
decreases-first_in l = 4 * part_height_of (part_data l.part.now)

abbrev pub decreases-in_scope : goal.decreases-in_scope
decreases-in_scope l = 4 * part_height_of (part_data l.part.now) + 1

abbrev pub decreases-in_row : goal.decreases-in_row
decreases-in_row l = 4 * max (max (part_height_of (part_data l.first.now)) (part_height_of (part_data l.second.now))) (highest_part (map part_data l.others.now)) + 3

abbrev pub decreases-behind : goal.decreases-behind
decreases-behind l = 4 * max (part_height_of (part_data l.first.now)) (highest_part (map part_data l.others.now)) + 2

abbrev pub decreases-row : goal.decreases-row
decreases-row l = 4 * highest_part (map part_data l.parts.now) + 1

abbrev pub decreases-beside : goal.decreases-beside
decreases-beside l = 4 * max (max (part_height_of (part_data l.first.now)) (part_height_of (part_data l.second.now))) (highest_part (map part_data l.others.now)) + 3

abbrev pub decreases-told : goal.decreases-told
decreases-told l = 4 * highest_part (map part_data l.parts.now) + 2

abbrev pub decreases-sides : goal.decreases-sides
decreases-sides l = 4 * highest_part (map part_data l.parts.now) + 1

abbrev pub invariant-row-loop-i : goal.invariant-row-loop-i
invariant-row-loop-i l =
    first_barred_row (map part_data (drop l.i l.parts)) l.is_safe (barred_behind_all (barred_by l.before) l.is_safe (map part_data (take l.i l.parts)))
    ≡ first_barred_row (map part_data l.parts) l.is_safe (barred_by l.before)

abbrev pub invariant-sides-loop-i : goal.invariant-sides-loop-i
invariant-sides-loop-i l =
    first_barred_beside (map part_data (drop l.i l.parts)) l.is_safe (barred_by l.before) ≡ first_barred_beside (map part_data l.parts) l.is_safe (barred_by l.before)
