use Rattle.std.proofs.Common.{◌≡◌, ◌∙◌, true, Ok, ap, arith}
use Rattle.std.proofs.lemmas.Grind.{common_steps}
use Rattle.gql_values3.specs.Meaning.{datum_of}
use Rattle.gql_values3.specs.PropertyGraph.{is_storable}
use Rattle.gql_change.proofs.AssigningSteps.{set_kept}
use Rattle.gql_change.proofs.assigning.set_property.Goals as goal

pub returns-in_ok-name-in-Some : goal.returns-in_ok-name-in-Some
returns-in_ok-name-in-Some g c =
    let property = c.args.property.now in
    let fit : is_storable (datum_of c.in_ok-value.value) 64 ≡ true = grind (arith, common_steps, c.if-not-is_storable.ensures) in
    let same : c.in_ok-name-in-Some.name ≡ property.name = c.in_ok-name-in-Some.ensures ∙ ap (λ x. x.name) c.property.view_is in
    rw same (set_kept (g.V.View.graph c.args.view.now) property.value.params (Ok c.args.target) _ c.in-Some.target property.name c.in_ok-value.value (ap Ok c.in-Some.is) c.in_ok-value.ensures fit)
