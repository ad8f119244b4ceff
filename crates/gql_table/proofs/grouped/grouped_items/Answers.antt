use Rattle.std.proofs.Common.{◌∙◌, List, ap, subst, Result}
use Rattle.gql_ast.specs.declared.fault.DataFault.{DataFault}
use Rattle.gql_eval.specs.Gives.{Gives}
use Rattle.gql_eval.specs.RowLists.{RowList}
use Rattle.gql_table.specs.Machinery.GroupPlan.{PreparedPlan, rows_with_plan}
use Rattle.gql_table.proofs.grouped.grouped_items.Goals as goal

pub returns : goal.returns
returns g c =
    let graph = g.V.View.graph c.args.view.now in
    subst (λ (r : Result RowList DataFault). Gives (λ (rs : RowList). rs) c.prepared_rows.result r)
    (ap (λ (p : List PreparedPlan). rows_with_plan graph p c.args.rows) (c.as_slice.ensures.value ∙ c.in_ok-prepared.ensures)) c.prepared_rows.ensures
