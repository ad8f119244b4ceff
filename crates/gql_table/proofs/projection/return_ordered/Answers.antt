use Rattle.std.proofs.Common.{◌≡◌, ◌∙◌, ◌++◌, List, map, length, sym, ap, subst, rules, Result, Ok, Some}
use Rattle.std.specs.Option.{option_copied}
use Rattle.gql_ast.specs.Tree.{Tree}
use Rattle.gql_ast.specs.Meaning.{tree_of}
use Rattle.gql_ast.specs.Outputs.{item_column}
use Rattle.gql_ast.specs.Faults.{each}
use Rattle.gql_ast.specs.declared.fault.DataFault.{DataFault}
use Rattle.gql_ast.specs.declared.projection.ReturnItem.{ReturnItem}
use Rattle.gql_ast.specs.declared.projection.ReturnItems.TheVariants.{Listed}
use Rattle.gql_eval.specs.Gives.{Gives, Fails}
use Rattle.gql_eval.specs.Machinery.Next.{next}
use Rattle.gql_eval.specs.RowLists.{RowList}
use Rattle.gql_ast.specs.ClauseColumns.{ColumnList}
use Rattle.gql_table.specs.Paging.{Sortable, paged}
use Rattle.gql_table.specs.Machinery.Width.{seen}
use Rattle.gql_table.specs.Projection.{row_outputs, with_incoming}
use Rattle.gql_eval.proofs.EachSteps.{fails_first}
use Rattle.gql_table.proofs.ReturnLemmas.{wide_row, wide_is, map_long}
use Rattle.gql_table.proofs.projection.return_ordered.Goals as goal

pub returns : goal.returns
returns g c =
    let graph = g.V.View.graph c.args.view.now in
    let params = c.args.params.now in
    let columns = c.args.columns.now in
    let tree : ReturnItem → Tree = λ i. tree_of i.value in
    let es : List Tree = map tree c.args.items.now in
    let all : ColumnList = map (item_column columns) c.args.items.now ++ columns in
    let k : List Sortable → Result RowList DataFault = paged graph params all (option_copied c.args.paging.now.order) (option_copied c.args.paging.now.skip) (option_copied c.args.paging.now.limit) in
    let given : each (wide_row graph params columns es) c.args.rows ≡ Ok c.in_ok-wide.wide = rw c.as_slice-2.ensures at c.in_ok-wide.ensures in
    let visible : c.in_ok-seen.seen ≡ all = rw c.as_slice.ensures at c.in_ok-seen.ensures in
    let width : c.len.result ≡ length es = c.len.ensures ∙ sym (map_long tree c.args.items.now) in
    let whole : next (row_outputs graph params columns (Listed c.args.items.now) c.args.rows) k ≡ k (map (seen (Some (length es))) c.in_ok-wide.wide) =
    wide_is graph params columns es c.args.rows k ∙ ap (λ (r : Result RowList DataFault). next r (λ ws. k (map (seen (Some (length es))) ws))) given in
    let page : Gives (λ (rs : RowList). rs) c.page_table.result (k (map (seen (Some (length es))) c.in_ok-wide.wide)) = rw (visible, width) at c.page_table.ensures in
    subst (λ (r : Result RowList DataFault). Gives (λ (rs : RowList). rs) c.page_table.result r) (sym whole) page

pub returns-in_err-wide : goal.returns-in_err-wide
returns-in_err-wide g c =
    let graph = g.V.View.graph c.args.view.now in
    let params = c.args.params.now in
    let columns = c.args.columns.now in
    let es : List Tree = map (λ (i : ReturnItem). tree_of i.value) c.args.items.now in
    let e = c.in_err-wide.field-0.0 in
    let k : List Sortable → Result RowList DataFault =
    paged graph params (with_incoming columns (Listed c.args.items.now)) (option_copied c.args.paging.now.order) (option_copied c.args.paging.now.skip) (option_copied c.args.paging.now.limit) in
    let given : Fails e (each (wide_row graph params columns es) c.args.rows) = rw c.as_slice-2.ensures at c.in_err-wide.ensures in
    let whole : Fails e (next (row_outputs graph params columns (Listed c.args.items.now) c.args.rows) k) =
    subst (λ (r : Result RowList DataFault). Fails e r) (sym (wide_is graph params columns es c.args.rows k)) (fails_first e _ (λ ws. k (map (seen (Some (length es))) ws)) given) in
    search rules
