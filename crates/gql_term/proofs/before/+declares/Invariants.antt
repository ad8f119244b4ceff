use Rattle.std.proofs.Common.{◌≡◌, ◌+◌, ◌*◌, map, max, drop}
use Rattle.gql_norm.specs.NormalData.{part_data}
use Rattle.gql_norm.specs.Machinery.PartHeight.{part_height_of, highest_part}
use Rattle.gql_term.proofs.DeclaringLemmas.{some_declares}
use Rattle.gql_term.proofs.before.+declares.Given as goal

abbrev pub decreases-declares_open : goal.decreases-declares_open
decreases-declares_open l = 3 * part_height_of (part_data l.part.now)

abbrev pub decreases-several_declare_open : goal.decreases-several_declare_open
decreases-several_declare_open l = 3 * max (max (part_height_of (part_data l.first.now)) (part_height_of (part_data l.second.now))) (highest_part (map part_data l.others.now)) + 2

abbrev pub decreases-some_declares_open : goal.decreases-some_declares_open
decreases-some_declares_open l = 3 * highest_part (map part_data l.parts.now) + 1

abbrev pub invariant-some_declares_open-loop-i : goal.invariant-some_declares_open-loop-i
invariant-some_declares_open-loop-i l = some_declares (map part_data (drop l.i l.parts)) l.is_safe l.is_under l.name ≡ some_declares (map part_data l.parts) l.is_safe l.is_under l.name
