use Rattle.std.proofs.Common.{◌≡◌, ◌∙◌, List, map, sym, ap, subst, Result, Ok}
use Rattle.gql_ast.specs.Tree.{Tree}
use Rattle.gql_ast.specs.Meaning.{tree_of}
use Rattle.gql_ast.specs.Faults.{each}
use Rattle.gql_ast.specs.declared.fault.DataFault.{DataFault}
use Rattle.gql_ast.specs.declared.projection.ReturnItem.{ReturnItem}
use Rattle.gql_ast.specs.declared.projection.ReturnItems.{ReturnItems}
use Rattle.gql_eval.specs.Gives.{Gives}
use Rattle.gql_eval.specs.Machinery.Next.{next}
use Rattle.gql_eval.specs.RowLists.{RowList}
use Rattle.gql_table.specs.Paging.{Sortable}
use Rattle.gql_table.specs.Projection.{row_outputs, output_row}
use Rattle.gql_eval.proofs.EachSteps.{next_ok}
use Rattle.gql_table.proofs.ReturnLemmas.{firsts, firsts_alone}
use Rattle.gql_table.proofs.projection.item_rows.Goals as goal

pub returns-in-All : goal.returns-in-All
returns-in-All g c = rw c.in-All.is (ap Ok (firsts_alone c.args.rows))

pub returns-in-Listed : goal.returns-in-Listed
returns-in-Listed g c =
    let graph = g.V.View.graph c.args.view.now in
    let es : List Tree = map (λ (i : ReturnItem). tree_of i.value) c.in-Listed.items in
    let outs : ReturnItems → Result RowList DataFault = λ items. next (row_outputs graph c.args.params.now c.args.columns.now items c.args.rows) (λ outs. Ok (map (λ (o : Sortable). o.0) outs)) in
    let whole : outs c.args.items.now ≡ each (output_row graph c.args.params.now c.args.columns.now es) c.args.rows =
    ap outs c.in-Listed.is ∙ firsts graph c.args.params.now c.args.columns.now es c.args.rows (λ os. Ok os) ∙ next_ok _ in
    subst (λ (r : Result RowList DataFault). Gives (λ (rs : RowList). rs) c.output_table.result r) (sym whole) (rw c.as_slice.ensures at c.output_table.ensures)
