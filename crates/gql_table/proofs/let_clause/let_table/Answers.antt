use Rattle.std.proofs.Common.{◌≡◌, ◌∙◌, List, take, sym, ap, subst, Result}
use Rattle.gql_ast.specs.Faults.{each}
use Rattle.gql_ast.specs.ClauseColumns.{ColumnList, let_columns}
use Rattle.gql_ast.specs.declared.fault.DataFault.{DataFault}
use Rattle.gql_eval.specs.Gives.{Gives}
use Rattle.gql_eval.specs.Preparation.{Preparation}
use Rattle.gql_eval.specs.RowLists.{RowList}
use Rattle.gql_table.specs.Let.{let_rows}
use Rattle.gql_table.specs.Machinery.Preparations.{prepared_lets, row_with}
use Rattle.gql_table.proofs.LetLemmas.{let_length, let_before}
use Rattle.gql_table.proofs.PreparationLemmas.{let_rows_are}
use Rattle.gql_table.proofs.let_clause.let_table.Goals as goal

pub prepare_lets-requires-clause-columns : goal.prepare_lets-requires-clause-columns
prepare_lets-requires-clause-columns g c =
    rw (c.as_slice.ensures, c.in_ok-all.ensures, c.len.ensures) (ap (λ cs. let_columns cs c.args.items.now) (let_before c.args.columns.now c.args.items.now))

pub prepare_lets-requires-clause-width : goal.prepare_lets-requires-clause-width
prepare_lets-requires-clause-width g c = rw (c.as_slice.ensures, c.in_ok-all.ensures, c.len.ensures) (sym (let_length c.args.columns.now c.args.items.now))

pub returns : goal.returns
returns g c =
    let graph = g.V.View.graph c.args.view.now in
    let params = c.args.params.now in
    let columns : ColumnList = c.args.columns.now in
    let items = c.args.items.now in
    let seen : take c.len.result c.as_slice.result.now ≡ columns = rw (c.as_slice.ensures, c.in_ok-all.ensures, c.len.ensures) (let_before columns items) in
    let ps : c.as_slice-2.result.now ≡ prepared_lets columns params items = c.as_slice-2.ensures.value ∙ c.in_ok-prepared.ensures ∙ ap (λ (cs : ColumnList). prepared_lets cs params items) seen in
    let whole : each (row_with graph c.as_slice-2.result.now) c.args.rows ≡ let_rows graph params columns items c.args.rows =
    ap (λ (l : List Preparation). each (row_with graph l) c.args.rows) ps ∙ let_rows_are graph params columns items c.args.rows in
    subst (λ (r : Result RowList DataFault). Gives (λ (rs : RowList). rs) c.rows_with.result r) whole c.rows_with.ensures
