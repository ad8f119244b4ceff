use Rattle.std.proofs.Common.{◌≡◌, take}
use Rattle.std.specs.Prelude.{find}
use Rattle.gql_eval.specs.Machinery.InstructionMeaning.{program_of}
use Rattle.gql_eval.specs.Machinery.AtPlaces.{is_group_at}
use Rattle.gql_eval.specs.Machinery.Steps.{names_held}
use Rattle.gql_eval.proofs.held_groups.first_group.Given as goal

abbrev pub invariant-loop-i : goal.invariant-loop-i
invariant-loop-i l =
    find (is_group_at l.scope) (names_held (program_of (take l.i l.steps))) ≡ find (is_group_at l.scope) (names_held (program_of l.steps))
