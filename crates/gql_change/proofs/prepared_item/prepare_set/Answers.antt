use Rattle.std.proofs.Common.{◌∙◌, sym, ap}
use Rattle.gql_ast.specs.ClauseColumns.{ColumnList}
use Rattle.gql_change.specs.Assignments.{on}
use Rattle.gql_change.specs.Machinery.DeletionSteps.{column_place}
use Rattle.gql_change.specs.Machinery.InRow.{named_preparation}
use Rattle.gql_change.specs.Machinery.PreparedItems.{set_in}
use Rattle.gql_change.specs.declared.assignment.Act.TheVariants as act
use Rattle.gql_change.proofs.InRowLemmas.{plain_item, property_item}
use Rattle.gql_change.proofs.prepared_item.prepare_set.Goals as goal

pub returns-in_ok-property-in-Property : goal.returns-in_ok-property-in-Property
returns-in_ok-property-in-Property c =
    let columns : ColumnList = c.args.columns.now in
    let params = c.args.params.now in
    property_item columns params c.in-Property.variable c.in-Property.name c.in-Property.expr c.column_place.result c.in_ok-property-in-Property.property
    (c.column_place.ensures ∙ (λ i. column_place (c.as_slice-in-Property.ensures i) (c.as_str.ensures i)))
    (c.in_ok-property-in-Property.ensures ∙ ap (λ (cs : ColumnList). named_preparation cs params c.in-Property.name c.in-Property.expr) c.as_slice.ensures)
    ∙ ap (set_in columns params) (sym c.in-Property.is)

pub returns-in-Label : goal.returns-in-Label
returns-in-Label c =
    plain_item c.args.columns.now c.in-Label.variable c.column_place-in-Label.result (λ t. on t (act.Label c.in-Label.label))
    (c.column_place-in-Label.ensures ∙ (λ i. column_place (c.as_slice-in-Label.ensures i) (c.as_str-in-Label.ensures i)))
    ∙ ap (set_in c.args.columns.now c.args.params.now) (sym c.in-Label.is)
