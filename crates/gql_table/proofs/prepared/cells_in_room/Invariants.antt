use Rattle.std.proofs.Common.{◌≡◌, ◌++◌, map, drop, Ok}
use Rattle.gql_values3.specs.Meaning.{datum_of}
use Rattle.gql_ast.specs.Faults.{each}
use Rattle.gql_eval.specs.Machinery.Next.{next}
use Rattle.gql_eval.specs.Preparation.{Preparation}
use Rattle.gql_table.specs.Machinery.Preparations.{prepared_value}
use Rattle.gql_table.proofs.prepared.cells_in_room.Given as goal

abbrev pub invariant-loop-i : goal.invariant-loop-i
invariant-loop-i g l =
    next (each (λ (p : Preparation). prepared_value (g.V.View.graph l.view) p (map datum_of l.row)) (drop l.i l.prepared)) (λ ds. Ok (l.values ++ ds))
    ≡ each (λ (p : Preparation). prepared_value (g.V.View.graph l.view) p (map datum_of l.row)) l.prepared
