use Rattle.std.proofs.Common.{◌≡◌, ◌+◌, ◌*◌, ◌&&◌, ◌||◌, map, max, drop}
use Rattle.std.specs.List.{list_any, list_all}
use Rattle.gql_norm.specs.NormalData.{part_data}
use Rattle.gql_norm.specs.Termination.{has_empty_loop}
use Rattle.gql_norm.specs.Machinery.PartHeight.{part_height_of, highest_part}
use Rattle.gql_term.specs.Machinery.NoLength.{has_no_length}
use Rattle.gql_term.proofs.lengths.+lengths.Given as goal

abbrev pub decreases-lengths_in : goal.decreases-lengths_in
decreases-lengths_in l = 3 * part_height_of (part_data l.part.now)

abbrev pub decreases-in_row : goal.decreases-in_row
decreases-in_row l = 3 * max (max (part_height_of (part_data l.first.now)) (part_height_of (part_data l.second.now))) (highest_part (map part_data l.others.now)) + 2

abbrev pub decreases-beside : goal.decreases-beside
decreases-beside l = 3 * max (max (part_height_of (part_data l.first.now)) (part_height_of (part_data l.second.now))) (highest_part (map part_data l.others.now)) + 2

abbrev pub decreases-told : goal.decreases-told
decreases-told l = 3 * highest_part (map part_data l.sides.now) + 2

abbrev pub decreases-list_lengths : goal.decreases-list_lengths
decreases-list_lengths l = 3 * highest_part (map part_data l.parts.now) + 1

abbrev pub invariant-list_lengths-loop-i : goal.invariant-list_lengths-loop-i
invariant-list_lengths-loop-i l =
    ((l.all_may_be_none && list_all has_no_length (map part_data (drop l.i l.parts))) ≡ list_all has_no_length (map part_data l.parts))
    × ((l.some_may_be_none || list_any has_no_length (map part_data (drop l.i l.parts))) ≡ list_any has_no_length (map part_data l.parts))
    × ((l.some_has_empty_loop || list_any has_empty_loop (map part_data (drop l.i l.parts))) ≡ list_any has_empty_loop (map part_data l.parts))
