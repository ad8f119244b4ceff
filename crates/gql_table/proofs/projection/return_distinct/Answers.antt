use Rattle.std.proofs.Common.{◌≡◌, List, map, sym, subst, rules, Result, Ok}
use Rattle.std.specs.Option.{option_copied}
use Rattle.gql_ast.specs.declared.fault.DataFault.{DataFault}
use Rattle.gql_eval.specs.Gives.{Gives, Fails}
use Rattle.gql_eval.specs.Machinery.Next.{next}
use Rattle.gql_eval.specs.RowLists.{RowList}
use Rattle.gql_table.specs.Distinct.{distinct_rows}
use Rattle.gql_table.specs.Paging.{Sortable, paged}
use Rattle.gql_table.specs.Projection.{row_outputs, distinct_outputs, all_alone}
use Rattle.gql_ast.specs.Projections.{output_columns}
use Rattle.gql_table.proofs.ReturnLemmas.{after_firsts, fails_firsts}
use Rattle.gql_table.proofs.projection.return_distinct.Goals as goal

pub returns : goal.returns
returns g c =
    let graph = g.V.View.graph c.args.view.now in
    let params = c.args.params.now in
    let columns = c.args.columns.now in
    let items = c.args.items.now in
    let k : List Sortable → Result RowList DataFault =
    paged graph params (output_columns columns items) (option_copied c.args.paging.now.order) (option_copied c.args.paging.now.skip) (option_copied c.args.paging.now.limit) in
    let firsts : List Sortable → RowList = map (λ (o : Sortable). o.0) in
    let alone : RowList → List Sortable = λ os. all_alone (distinct_rows os) in
    let whole : next (next (row_outputs graph params columns items c.args.rows) (λ outs. Ok (distinct_outputs outs))) k ≡ k (alone c.in_ok-outs.outs) =
    after_firsts (row_outputs graph params columns items c.args.rows) firsts alone k c.in_ok-outs.outs c.in_ok-outs.ensures in
    let page : Gives (λ (rs : RowList). rs) c.page_table.result (k (alone c.in_ok-outs.outs)) = rw (c.in_ok-seen.ensures, c.in_ok-left.ensures) at c.page_table.ensures in
    subst (λ (r : Result RowList DataFault). Gives (λ (rs : RowList). rs) c.page_table.result r) (sym whole) page

pub returns-in_err-outs : goal.returns-in_err-outs
returns-in_err-outs g c =
    let graph = g.V.View.graph c.args.view.now in
    let params = c.args.params.now in
    let columns = c.args.columns.now in
    let items = c.args.items.now in
    let e = c.in_err-outs.field-0.0 in
    let k : List Sortable → Result RowList DataFault =
    paged graph params (output_columns columns items) (option_copied c.args.paging.now.order) (option_copied c.args.paging.now.skip) (option_copied c.args.paging.now.limit) in
    let whole : Fails e (next (next (row_outputs graph params columns items c.args.rows) (λ outs. Ok (distinct_outputs outs))) k) =
    fails_firsts e (row_outputs graph params columns items c.args.rows) (map (λ (o : Sortable). o.0)) (λ os. all_alone (distinct_rows os)) k c.in_err-outs.ensures in
    search rules
