use Rattle.std.proofs.Common.{◌≡◌, ◌++◌, map, drop}
use Rattle.gql_table.specs.Machinery.Running.{all_at_start}
use Rattle.gql_table.specs.Machinery.StandingMeaning.{standing_of}
use Rattle.gql_table.proofs.new_group.begin_all.Given as goal

abbrev pub invariant-loop-i : goal.invariant-loop-i
invariant-loop-i l = map standing_of l.states.items ++ all_at_start (drop l.i l.items) ≡ all_at_start l.items
