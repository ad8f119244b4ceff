use Rattle.std.proofs.Common.{◌≡◌, ◌++◌, map, drop, Ok}
use Rattle.gql_ast.specs.Faults.{each}
use Rattle.gql_eval.specs.Machinery.Next.{next}
use Rattle.gql_change.specs.Machinery.InRow.{NamedPreparation, property_in}
use Rattle.gql_change.specs.Machinery.Roles.{pair_of}
use Rattle.gql_change.proofs.given_properties.given_properties.Given as goal

abbrev pub invariant-loop-i : goal.invariant-loop-i
invariant-loop-i g l =
    next (each (λ (p : NamedPreparation). property_in p (g.V.View.graph l.view) l.row) (drop l.i l.properties)) (λ ps. Ok (map pair_of l.given ++ ps))
    ≡ each (λ (p : NamedPreparation). property_in p (g.V.View.graph l.view) l.row) l.properties
