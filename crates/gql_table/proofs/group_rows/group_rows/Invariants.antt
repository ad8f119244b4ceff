use Rattle.std.proofs.Common.{◌≡◌, ◌++◌, map, drop, Ok}
use Rattle.gql_ast.specs.Faults.{each}
use Rattle.gql_eval.specs.Machinery.Next.{next}
use Rattle.gql_table.specs.Machinery.Running.{row_of_stood}
use Rattle.gql_table.specs.Machinery.GroupMeaning.{group_meant}
use Rattle.gql_table.proofs.group_rows.group_rows.Given as goal

abbrev pub invariant-loop-i : goal.invariant-loop-i
invariant-loop-i g l =
    next (each (row_of_stood (g.V.View.graph l.grouping.view.now) l.grouping.items.now) (map group_meant (drop l.i l.groups))) (λ rows. Ok (l.done ++ rows))
    ≡ each (row_of_stood (g.V.View.graph l.grouping.view.now) l.grouping.items.now) (map group_meant l.groups)
