use Rattle.std.proofs.Common.{◌≡◌, ◌+◌, ◌*◌, false, map, max, drop}
use Rattle.gql_norm.specs.NormalData.{part_data}
use Rattle.gql_norm.specs.Machinery.PartHeight.{part_height_of, highest_part}
use Rattle.gql_pattern_checks.specs.Machinery.Scopes.{with_parts}
use Rattle.gql_pattern_checks.specs.Machinery.ScopeWalk.{refused_in_row, refused_beside}
use Rattle.gql_pattern_checks.proofs.scope_walk.+scope_walk.Given as goal

abbrev pub decreases-check_part : goal.decreases-check_part
decreases-check_part l = 6 * part_height_of (part_data l.part.now)

abbrev pub decreases-check_parens : goal.decreases-check_parens
decreases-check_parens l = 6 * part_height_of (part_data l.part.now) + 2

abbrev pub decreases-check_row : goal.decreases-check_row
decreases-check_row l = 6 * max (max (part_height_of (part_data l.first.now)) (part_height_of (part_data l.second.now))) (highest_part (map part_data l.others.now)) + 4

abbrev pub decreases-check_step : goal.decreases-check_step
decreases-check_step l = 6 * part_height_of (part_data l.part.now) + 1

abbrev pub decreases-check_steps : goal.decreases-check_steps
decreases-check_steps l = 6 * highest_part (map part_data l.parts.now) + 2

abbrev pub decreases-check_union : goal.decreases-check_union
decreases-check_union l = 6 * max (max (part_height_of (part_data l.first.now)) (part_height_of (part_data l.second.now))) (highest_part (map part_data l.others.now)) + 4

abbrev pub decreases-check_sides : goal.decreases-check_sides
decreases-check_sides l = 6 * highest_part (map part_data l.parts.now) + 1

abbrev pub invariant-check_steps-loop-part : goal.invariant-check_steps-loop-part
invariant-check_steps-loop-part l = record {
  faults : refused_in_row l.walk.question l.walk.columns.now l.names (map part_data (drop l.part-index l.parts))
      ≡ refused_in_row l.walk.question l.walk.columns.now l.initial.names (map part_data l.parts);
  added : with_parts false l.names (map part_data (drop l.part-index l.parts)) ≡ with_parts false l.initial.names (map part_data l.parts);
}

abbrev pub invariant-check_sides-loop-part : goal.invariant-check_sides-loop-part
invariant-check_sides-loop-part l = record {
  faults : refused_beside l.walk.question l.walk.columns.now l.initial.names (map part_data (drop l.part-index l.parts))
      ≡ refused_beside l.walk.question l.walk.columns.now l.initial.names (map part_data l.parts);
  kept : l.names ≡ l.initial.names;
}
