use Rattle.std.proofs.Common.{◌≡◌, ◌∙◌, List, map, ap, subst, Result}
use Rattle.gql_values3.specs.Datum.{Datum}
use Rattle.gql_ast.specs.Tree.{Tree}
use Rattle.gql_ast.specs.Meaning.{tree_of}
use Rattle.gql_ast.specs.Faults.{each}
use Rattle.gql_ast.specs.declared.fault.DataFault.{DataFault}
use Rattle.gql_ast.specs.declared.projection.ReturnItem.{ReturnItem}
use Rattle.gql_eval.specs.Gives.{Gives}
use Rattle.gql_eval.specs.Preparation.{Preparation}
use Rattle.gql_eval.specs.RowLists.{RowList}
use Rattle.gql_table.specs.Projection.{output_row}
use Rattle.gql_table.specs.Machinery.Preparations.{prepared_under, prepared_value, values_of}
use Rattle.gql_table.proofs.PreparationLemmas.{outputs_are}
use Rattle.gql_table.proofs.outputs.output_table.Goals as goal

pub returns : goal.returns
unfolding values_of
returns g c =
    let graph = g.V.View.graph c.args.view.now in
    let params = c.args.params.now in
    let columns = c.args.columns.now in
    let es : List Tree = map (λ (i : ReturnItem). tree_of i.value) c.args.items.now in
    let ps : c.as_slice-2.result.now ≡ map (prepared_under columns params) es = c.as_slice-2.ensures.value ∙ c.in_ok-prepared.ensures ∙ ap (λ cs. map (prepared_under cs params) es) c.as_slice.ensures in
    let whole : each (λ (row : List Datum). each (λ (p : Preparation). prepared_value graph p row) c.as_slice-2.result.now) c.args.rows ≡ each (output_row graph params columns es) c.args.rows =
    ap (λ (l : List Preparation). each (λ (row : List Datum). each (λ (p : Preparation). prepared_value graph p row) l) c.args.rows) ps
    ∙ (λ j. each (λ row. outputs_are graph params columns es row j) c.args.rows) in
    subst (λ (r : Result RowList DataFault). Gives (λ (rs : RowList). rs) c.output_rows.result r) whole c.output_rows.ensures
