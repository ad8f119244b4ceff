use Rattle.std.proofs.Common.{◌≡◌, ◌∙◌, List, map, ap, subst, Result}
use Rattle.std.specs.Borrow.{Bor}
use Rattle.gql_ast.specs.Tree.{Tree}
use Rattle.gql_ast.specs.Meaning.{tree_of}
use Rattle.gql_ast.specs.declared.expr.Expr.{Expr}
use Rattle.gql_ast.specs.declared.fault.DataFault.{DataFault}
use Rattle.gql_eval.specs.Gives.{Gives}
use Rattle.gql_eval.specs.RowLists.{RowList}
use Rattle.gql_table.specs.Grouping.{grouped_rows}
use Rattle.gql_table.specs.Machinery.GroupPlan.{PreparedPlan, prepared_plan, rows_with_plan}
use Rattle.gql_table.specs.Machinery.GroupMeaning.{item_meant}
use Rattle.gql_table.proofs.NoteLemmas.{plans, plans_are}
use Rattle.gql_table.proofs.GroupedLemmas.{grouped_is}
use Rattle.gql_table.proofs.grouped.grouped_by.Goals as goal

pub returns : goal.returns
returns g c =
    let graph = g.V.View.graph c.args.view.now in
    let params = c.args.params.now in
    let columns = c.args.columns.now in
    let es : List Tree = map (λ (e : Bor Expr). tree_of e.now) c.args.exprs.now in
    let plan : map (prepared_plan c.as_slice.result.now params) (map item_meant c.as_slice-2.result.now) ≡ plans params columns es =
    (λ i. map (prepared_plan (c.as_slice.ensures i) params) ((ap (map item_meant) c.as_slice-2.ensures.value ∙ c.in_ok-items.ensures) i)) ∙ plans_are params columns es in
    let whole : rows_with_plan graph (map (prepared_plan c.as_slice.result.now params) (map item_meant c.as_slice-2.result.now)) c.args.rows ≡ grouped_rows graph params columns es c.args.rows =
    ap (λ (p : List PreparedPlan). rows_with_plan graph p c.args.rows) plan ∙ grouped_is graph params columns es c.args.rows in
    subst (λ (r : Result RowList DataFault). Gives (λ (rs : RowList). rs) c.grouped_items.result r) whole c.grouped_items.ensures
