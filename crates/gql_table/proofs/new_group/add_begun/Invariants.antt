use Rattle.std.proofs.Common.{◌≡◌, ◌++◌, map, take}
use Rattle.gql_table.specs.Machinery.AggregateMeaning.{aggregate_meant}
use Rattle.gql_table.specs.Machinery.Running.{at_start}
use Rattle.gql_table.specs.Machinery.StandingMeaning.{standing_of}
use Rattle.gql_table.proofs.new_group.add_begun.Given as goal

abbrev pub invariant-loop-i : goal.invariant-loop-i
invariant-loop-i l = map standing_of l.states.items ≡ map standing_of l.fn.states.items ++ map at_start (map aggregate_meant (take l.i l.aggregates))
