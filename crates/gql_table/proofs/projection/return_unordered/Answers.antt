use Rattle.std.proofs.Common.{◌≡◌, ◌∙◌, List, map, sym, ap, subst, rules, Result, Ok, None}
use Rattle.std.specs.Option.{option_copied}
use Rattle.gql_ast.specs.Tree.{Tree}
use Rattle.gql_ast.specs.Meaning.{tree_of}
use Rattle.gql_ast.specs.Faults.{each}
use Rattle.gql_ast.specs.declared.fault.DataFault.{DataFault}
use Rattle.gql_ast.specs.declared.projection.ReturnItem.{ReturnItem}
use Rattle.gql_ast.specs.declared.projection.ReturnItems.TheVariants.{Listed}
use Rattle.gql_eval.specs.Gives.{Gives, Fails}
use Rattle.gql_eval.specs.Machinery.Next.{next}
use Rattle.gql_eval.specs.RowLists.{RowList}
use Rattle.gql_table.specs.Paging.{cut, paged}
use Rattle.gql_table.specs.Machinery.Width.{seen}
use Rattle.gql_table.specs.Projection.{row_outputs, output_row, with_incoming}
use Rattle.gql_eval.proofs.EachSteps.{fails_first}
use Rattle.gql_table.proofs.ReturnLemmas.{firsts, firsts_alone}
use Rattle.gql_table.proofs.projection.return_unordered.Goals as goal

pub returns : goal.returns
returns g c =
    let graph = g.V.View.graph c.args.view.now in
    let params = c.args.params.now in
    let columns = c.args.columns.now in
    let es : List Tree = map (λ (i : ReturnItem). tree_of i.value) c.args.items.now in
    let k : RowList → Result RowList DataFault = cut params (option_copied c.args.paging.now.skip) (option_copied c.args.paging.now.limit) in
    let given : each (output_row graph params columns es) c.args.rows ≡ Ok c.in_ok-outs.outs = rw c.as_slice.ensures at c.in_ok-outs.ensures in
    let whole : next (row_outputs graph params columns (Listed c.args.items.now) c.args.rows)
    (paged graph params (with_incoming columns (Listed c.args.items.now)) None (option_copied c.args.paging.now.skip) (option_copied c.args.paging.now.limit)) ≡ k c.in_ok-outs.outs =
    firsts graph params columns es c.args.rows k ∙ ap (λ (r : Result RowList DataFault). next r k) given in
    let page : Gives (λ (rs : RowList). rs) c.page_table.result (paged graph params columns None (option_copied c.args.paging.now.skip) (option_copied c.args.paging.now.limit) (map (seen None) c.in_ok-outs.outs)) =
    rw c.requires at c.page_table.ensures in
    let here : Gives (λ (rs : RowList). rs) c.page_table.result (k c.in_ok-outs.outs) =
    subst (λ (os : RowList). Gives (λ (rs : RowList). rs) c.page_table.result (k os)) (firsts_alone c.in_ok-outs.outs) page in
    subst (λ (r : Result RowList DataFault). Gives (λ (rs : RowList). rs) c.page_table.result r) (sym whole) here

pub returns-in_err-outs : goal.returns-in_err-outs
returns-in_err-outs g c =
    let graph = g.V.View.graph c.args.view.now in
    let params = c.args.params.now in
    let columns = c.args.columns.now in
    let es : List Tree = map (λ (i : ReturnItem). tree_of i.value) c.args.items.now in
    let e = c.in_err-outs.field-0.0 in
    let k : RowList → Result RowList DataFault = cut params (option_copied c.args.paging.now.skip) (option_copied c.args.paging.now.limit) in
    let given : Fails e (each (output_row graph params columns es) c.args.rows) = rw c.as_slice.ensures at c.in_err-outs.ensures in
    let whole : Fails e (next (row_outputs graph params columns (Listed c.args.items.now) c.args.rows)
    (paged graph params (with_incoming columns (Listed c.args.items.now)) None (option_copied c.args.paging.now.skip) (option_copied c.args.paging.now.limit))) =
    subst (λ (r : Result RowList DataFault). Fails e r) (sym (firsts graph params columns es c.args.rows k)) (fails_first e _ k given) in
    search rules
