use Rattle.std.proofs.Common.{◌≡◌, ◌+◌, ◌*◌, map, max, drop}
use Rattle.gql_norm.specs.NormalData.{part_data}
use Rattle.gql_norm.specs.Machinery.PartHeight.{part_height_of, highest_part}
use Rattle.gql_pattern_checks.specs.Machinery.PartWalk.{asked_of_all}
use Rattle.gql_pattern_checks.proofs.walk.+walk.Given as goal

abbrev pub decreases-ask_part : goal.decreases-ask_part
decreases-ask_part g l = 3 * part_height_of (part_data l.part.now)

abbrev pub decreases-ask_scope : goal.decreases-ask_scope
decreases-ask_scope g l = 3 * part_height_of (part_data l.part.now) + 1

abbrev pub decreases-ask_several : goal.decreases-ask_several
decreases-ask_several g l = 3 * max (max (part_height_of (part_data l.first.now)) (part_height_of (part_data l.second.now))) (highest_part (map part_data l.others.now)) + 2

abbrev pub decreases-ask_parts : goal.decreases-ask_parts
decreases-ask_parts g l = 3 * highest_part (map part_data l.parts.now) + 1

abbrev pub invariant-ask_parts-loop-part : goal.invariant-ask_parts-loop-part
invariant-ask_parts-loop-part g l =
    asked_of_all (g.Q.Question.of_element l.question) (g.Q.Question.of_condition l.question) (map part_data (drop l.part-index l.parts))
    ≡ asked_of_all (g.Q.Question.of_element l.question) (g.Q.Question.of_condition l.question) (map part_data l.parts)
