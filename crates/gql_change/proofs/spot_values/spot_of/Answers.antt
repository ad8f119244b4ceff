use Rattle.std.proofs.Common.{◌≡◌, ◌∙◌, List, sym, ap, subst, rules, Result, Ok}
use Rattle.gql_ast.specs.Faults.{each}
use Rattle.gql_ast.specs.declared.fault.DataFault.{DataFault}
use Rattle.gql_eval.specs.Gives.{Fails}
use Rattle.gql_eval.specs.Machinery.Next.{next}
use Rattle.gql_eval.proofs.EachSteps.{fails_first}
use Rattle.gql_change.specs.Storing.{PropertyList}
use Rattle.gql_change.specs.Machinery.InRow.{NamedPreparation, property_in}
use Rattle.gql_change.specs.Machinery.PreparedSpots.{spot_in}
use Rattle.gql_change.specs.declared.prepared_spot.PreparedSpot.{PreparedSpot}
use Rattle.gql_change.specs.declared.row_spots.Spot.{Spot}
use Rattle.gql_change.specs.declared.row_spots.Spot.TheVariants as spot
use Rattle.gql_change.proofs.spot_values.spot_of.Goals as goal

pub returns-in_ok-properties-in-New : goal.returns-in_ok-properties-in-New
returns-in_ok-properties-in-New g c =
    let graph = g.V.View.graph c.args.view.now in
    let row = c.args.row.now in
    let given : each (λ (p : NamedPreparation). property_in p graph row) c.in-New.properties.items ≡ Ok c.in_ok-properties-in-New.properties =
    ap (λ (ps : List NamedPreparation). each (λ (p : NamedPreparation). property_in p graph row) ps) (sym c.as_slice.ensures.value) ∙ c.in_ok-properties-in-New.ensures in
    ap (λ (p : PreparedSpot). spot_in p graph row) c.in-New.is
    ∙ ap (λ (r : Result PropertyList DataFault). next r (λ values. Ok (spot.New c.in-New.named values))) given

pub returns-in_err-properties-in-New : goal.returns-in_err-properties-in-New
returns-in_err-properties-in-New g c =
    let graph = g.V.View.graph c.args.view.now in
    let row = c.args.row.now in
    let e = c.in_err-properties-in-New.field-0.0 in
    let here : Fails e (each (λ (p : NamedPreparation). property_in p graph row) c.as_slice.result.now) = c.in_err-properties-in-New.ensures in
    let given : Fails e (each (λ (p : NamedPreparation). property_in p graph row) c.in-New.properties.items) =
    subst (λ (ps : List NamedPreparation). Fails e (each (λ (p : NamedPreparation). property_in p graph row) ps)) c.as_slice.ensures.value here in
    let then : PropertyList → Result Spot DataFault = λ values. Ok (spot.New c.in-New.named values) in
    let whole : Fails e (spot_in c.args.asked.now graph row) =
    subst (λ (p : PreparedSpot). Fails e (spot_in p graph row)) (sym c.in-New.is) (fails_first e (each (λ (p : NamedPreparation). property_in p graph row) c.in-New.properties.items) then given) in
    search rules
