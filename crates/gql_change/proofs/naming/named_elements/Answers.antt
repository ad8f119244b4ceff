use Rattle.std.proofs.Common.{◌≡◌, ◌∙◌, List, map, ap}
use Rattle.std.specs.List.{flat_map}
use Rattle.std.proofs.lemmas.Result.{IfOk-weaker}
use Rattle.gql_values3.specs.declared.element.Elem.{Elem}
use Rattle.gql_change.specs.Deletion.{named_elements}
use Rattle.gql_change.specs.Machinery.DeletionSteps.{row_elements, column_place}
use Rattle.gql_change.proofs.DeletionLemmas.{named_at_places}
use Rattle.gql_change.proofs.naming.named_elements.Goals as goal

pub returns : goal.returns
returns c =
    let all : List Elem = flat_map (row_elements c.deref.result.now) c.as_slice-2.result.now in
    let named : List Elem = named_elements c.args.columns.now c.args.names.now c.args.rows.now in
    let is : all ≡ named =
    (λ i. flat_map (row_elements ((c.deref.ensures.value ∙ c.in_ok-places.ensures ∙ ap (λ cs. map (column_place cs) c.args.names.now) c.as_slice.ensures) i)) (c.as_slice-2.ensures i))
    ∙ named_at_places c.args.columns.now c.args.names.now c.args.rows.now in
    IfOk-weaker c.elements_at_places.result (λ v. v.items ≡ all) (λ v. v.items ≡ named) (λ v h. h ∙ is) c.elements_at_places.ensures
