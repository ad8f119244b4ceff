use Rattle.std.proofs.Common.{◌≡◌, ◌∙◌, List, map, ap, subst, Result}
use Rattle.gql_values3.specs.Datum.{Datum}
use Rattle.gql_ast.specs.Tree.{Tree}
use Rattle.gql_ast.specs.Meaning.{tree_of}
use Rattle.gql_ast.specs.Faults.{each}
use Rattle.gql_ast.specs.declared.fault.DataFault.{DataFault}
use Rattle.gql_ast.specs.declared.page.SortItem.{SortItem}
use Rattle.gql_eval.specs.Gives.{Gives}
use Rattle.gql_eval.specs.Preparation.{Preparation}
use Rattle.gql_table.specs.Paging.{keyed}
use Rattle.gql_table.specs.Machinery.Preparations.{prepared_under, keyed_by}
use Rattle.gql_table.specs.Machinery.Width.{seen}
use Rattle.gql_table.proofs.PreparationLemmas.{keyed_are}
use Rattle.gql_table.proofs.ordering.keyed_table.Goals as goal

pub returns : goal.returns
returns g c =
    let graph = g.V.View.graph c.args.view.now in
    let params = c.args.params.now in
    let columns = c.args.columns.now in
    let es : List Tree = map (λ (i : SortItem). tree_of i.key) c.args.items.now in
    let ps : c.as_slice-2.result.now ≡ map (prepared_under columns params) es = c.as_slice-2.ensures.value ∙ c.in_ok-keys.ensures ∙ ap (λ cs. map (prepared_under cs params) es) c.as_slice.ensures in
    let whole : each (keyed_by graph c.as_slice-2.result.now) (map (seen c.args.width) c.args.rows) ≡ each (keyed graph params columns c.args.items.now) (map (seen c.args.width) c.args.rows) =
    ap (λ (l : List Preparation). each (keyed_by graph l) (map (seen c.args.width) c.args.rows)) ps ∙ keyed_are graph params columns c.args.items.now (map (seen c.args.width) c.args.rows) in
    subst (λ (r : Result (List (List Datum × List Datum)) DataFault). Gives (λ v. v.items) c.keyed_rows.result r) whole c.keyed_rows.ensures
