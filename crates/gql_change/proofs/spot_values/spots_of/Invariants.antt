use Rattle.std.proofs.Common.{◌≡◌, ◌++◌, drop, Ok}
use Rattle.gql_ast.specs.Faults.{each}
use Rattle.gql_eval.specs.Machinery.Next.{next}
use Rattle.gql_change.specs.Machinery.PreparedSpots.{spot_in}
use Rattle.gql_change.specs.declared.prepared_spot.PreparedSpot.{PreparedSpot}
use Rattle.gql_change.proofs.spot_values.spots_of.Given as goal

abbrev pub invariant-loop-i : goal.invariant-loop-i
invariant-loop-i g l =
    next (each (λ (p : PreparedSpot). spot_in p (g.V.View.graph l.view) l.row) (drop l.i l.asked)) (λ ss. Ok (l.spots ++ ss))
    ≡ each (λ (p : PreparedSpot). spot_in p (g.V.View.graph l.view) l.row) l.asked
