use Rattle.std.proofs.Common.{◌∙◌, sym, ap}
use Rattle.gql_values3.specs.declared.value.Value.TheVariants as v
use Rattle.gql_change.specs.Assignments.{on}
use Rattle.gql_change.specs.Machinery.DeletionSteps.{column_place}
use Rattle.gql_change.specs.Machinery.PreparedItems.{removed_in}
use Rattle.gql_change.specs.declared.assignment.Act.TheVariants as act
use Rattle.gql_change.proofs.InRowLemmas.{plain_item}
use Rattle.gql_change.proofs.prepared_item.prepare_removal.Goals as goal

pub returns-in-Property : goal.returns-in-Property
returns-in-Property c =
    plain_item c.args.columns.now c.in-Property.variable c.column_place.result (λ t. on t (act.Property c.in-Property.name v.Null))
    (c.column_place.ensures ∙ (λ i. column_place (c.as_slice.ensures i) (c.as_str.ensures i)))
    ∙ ap (removed_in c.args.columns.now) (sym c.in-Property.is)

pub returns-in-Label : goal.returns-in-Label
returns-in-Label c =
    plain_item c.args.columns.now c.in-Label.variable c.column_place-in-Label.result (λ t. on t (act.NoLabel c.in-Label.label))
    (c.column_place-in-Label.ensures ∙ (λ i. column_place (c.as_slice-in-Label.ensures i) (c.as_str-in-Label.ensures i)))
    ∙ ap (removed_in c.args.columns.now) (sym c.in-Label.is)
