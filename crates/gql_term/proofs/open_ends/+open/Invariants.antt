use Rattle.std.proofs.Common.{◌≡◌, ◌+◌, ◌*◌, map, max, drop}
use Rattle.std.specs.List.{list_any}
use Rattle.gql_norm.specs.NormalData.{part_data}
use Rattle.gql_norm.specs.Machinery.PartHeight.{part_height_of, highest_part}
use Rattle.gql_term.specs.Machinery.OpenEnds.{has_open}
use Rattle.gql_term.proofs.open_ends.+open.Given as goal

abbrev pub decreases-has_open : goal.decreases-has_open
decreases-has_open l = 3 * part_height_of (part_data l.part.now)

abbrev pub decreases-several_have_open : goal.decreases-several_have_open
decreases-several_have_open l = 3 * max (max (part_height_of (part_data l.first.now)) (part_height_of (part_data l.second.now))) (highest_part (map part_data l.others.now)) + 2

abbrev pub decreases-some_has_open : goal.decreases-some_has_open
decreases-some_has_open l = 3 * highest_part (map part_data l.parts.now) + 1

abbrev pub invariant-some_has_open-loop-i : goal.invariant-some_has_open-loop-i
invariant-some_has_open-loop-i l = list_any (λ p. has_open p l.is_safe) (map part_data (drop l.i l.parts)) ≡ list_any (λ p. has_open p l.is_safe) (map part_data l.parts)
