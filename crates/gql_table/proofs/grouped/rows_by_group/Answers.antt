use Rattle.std.proofs.Common.{List, map, subst, sym, rules, Result}
use Rattle.std.specs.List.{AllByRecursion}
use Rattle.gql_ast.specs.Faults.{each}
use Rattle.gql_ast.specs.declared.fault.DataFault.{DataFault}
use Rattle.gql_eval.specs.Gives.{Gives, Fails}
use Rattle.gql_eval.specs.RowLists.{RowList}
use Rattle.gql_table.specs.Machinery.GroupPlan.{PreparedPlan, rows_with_plan}
use Rattle.gql_table.specs.Machinery.Running.{Stood, Wide, first_stood, stood_behind, row_of_stood}
use Rattle.gql_table.specs.Machinery.GroupMeaning.{group_meant}
use Rattle.gql_eval.proofs.EachSteps.{fails_first, gives_second}
use Rattle.gql_table.proofs.StoodLemmas.{stood_rows, all_wide}
use Rattle.gql_table.proofs.grouped.rows_by_group.Goals as goal

pub group_rows-requires-clause-wide : goal.group_rows-requires-clause-wide
group_rows-requires-clause-wide g c κs within =
    let graph = g.V.View.graph c.args.grouping.now.view.now in
    let plan : List PreparedPlan = c.args.grouping.now.items.now in
    subst (λ l. AllByRecursion (Wide plan) (map group_meant l)) (sym c.as_slice.ensures.value) (all_wide graph plan c.args.rows (map group_meant c.in_ok-groups.groups.items) c.in_ok-groups.ensures)

pub returns-in_err-groups : goal.returns-in_err-groups
returns-in_err-groups g c =
    let graph = g.V.View.graph c.args.grouping.now.view.now in
    let plan : List PreparedPlan = c.args.grouping.now.items.now in
    let e = c.in_err-groups.field-0.0 in
    let whole : Fails e (rows_with_plan graph plan c.args.rows) =
    subst (λ (r : Result RowList DataFault). Fails e r) (stood_rows graph plan c.args.rows)
    (fails_first e (stood_behind graph (first_stood plan) plan c.args.rows) (each (row_of_stood graph plan)) c.in_err-groups.ensures) in
    search rules

pub returns : goal.returns
returns g c =
    let graph = g.V.View.graph c.args.grouping.now.view.now in
    let plan : List PreparedPlan = c.args.grouping.now.items.now in
    let groups : List Stood = map group_meant c.in_ok-groups.groups.items in
    let made : Gives (λ (r : RowList). r) c.group_rows.result (each (row_of_stood graph plan) groups) =
    subst (λ l. Gives (λ (r : RowList). r) c.group_rows.result (each (row_of_stood graph plan) (map group_meant l))) c.as_slice.ensures.value c.group_rows.ensures in
    subst (λ (r : Result RowList DataFault). Gives (λ (rs : RowList). rs) c.group_rows.result r) (stood_rows graph plan c.args.rows)
    (gives_second (λ (r : RowList). r) c.group_rows.result (stood_behind graph (first_stood plan) plan c.args.rows) groups (each (row_of_stood graph plan)) c.in_ok-groups.ensures made)
