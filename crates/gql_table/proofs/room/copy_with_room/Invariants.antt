use Rattle.std.proofs.Common.{◌≡◌, map, take}
use Rattle.gql_values3.specs.Meaning.{datum_of}
use Rattle.gql_table.proofs.room.copy_with_room.Given as goal

abbrev pub invariant-loop-i : goal.invariant-loop-i
invariant-loop-i l = l.copy ≡ map datum_of (take l.i l.values)
