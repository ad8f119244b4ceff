use Rattle.std.proofs.Common.{◌≡◌, sym, subst, Result}
use Rattle.gql_ast.specs.Projections.{output_columns}
use Rattle.gql_ast.specs.declared.fault.DataFault.{DataFault}
use Rattle.gql_eval.specs.Gives.{Gives}
use Rattle.gql_eval.specs.RowLists.{RowList}
use Rattle.gql_table.specs.Distinct.{left_of}
use Rattle.gql_table.specs.Paging.{paged}
use Rattle.gql_table.specs.Projection.{all_alone, returned_rows}
use Rattle.gql_table.proofs.ReturnLemmas.{grouped_returned}
use Rattle.gql_table.proofs.projection.return_grouped.Goals as goal

pub returns : goal.returns
returns g c =
    let graph = g.V.View.graph c.args.view.now in
    let params = c.args.params.now in
    let columns = c.args.columns.now in
    let clause = c.args.clause.now in
    let outs : RowList = c.in_ok-outs.outs in
    let whole : returned_rows graph params columns clause c.args.rows ≡ paged graph params (output_columns columns clause.items) clause.order clause.skip clause.limit (all_alone (left_of clause.quantifier outs)) =
    grouped_returned graph params columns clause c.args.rows outs c.requires c.in_ok-outs.ensures in
    let page : Gives (λ (rs : RowList). rs) c.page_table.result (paged graph params (output_columns columns clause.items) clause.order clause.skip clause.limit (all_alone (left_of clause.quantifier outs))) =
    rw (c.in_ok-seen.ensures, c.in_ok-left.ensures, c.paging_of.ensures.order, c.paging_of.ensures.skip, c.paging_of.ensures.limit) at c.page_table.ensures in
    subst (λ (r : Result RowList DataFault). Gives (λ (rs : RowList). rs) c.page_table.result r) (sym whole) page
