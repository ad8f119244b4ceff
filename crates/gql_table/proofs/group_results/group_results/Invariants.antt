use Rattle.std.proofs.Common.{◌≡◌, ◌++◌, map, drop, Ok}
use Rattle.gql_ast.specs.Faults.{each}
use Rattle.gql_eval.specs.Machinery.Next.{next}
use Rattle.gql_table.specs.Machinery.Running.{finished}
use Rattle.gql_table.specs.Machinery.StandingMeaning.{standing_of}
use Rattle.gql_table.proofs.group_results.group_results.Given as goal

abbrev pub invariant-loop-i : goal.invariant-loop-i
invariant-loop-i l = next (each finished (map standing_of (drop l.i l.states))) (λ ds. Ok (l.done ++ ds)) ≡ each finished (map standing_of l.states)
