use Rattle.std.proofs.Common.{◌≡◌, ◌∙◌, List, map, ap, subst, Result}
use Rattle.gql_ast.specs.declared.fault.DataFault.{DataFault}
use Rattle.gql_eval.specs.Gives.{Gives}
use Rattle.gql_eval.specs.RowLists.{each_some}
use Rattle.gql_change.specs.Assignments.{set_assignments}
use Rattle.gql_change.specs.Machinery.PreparedItems.{all_in, item_in}
use Rattle.gql_change.specs.declared.assignment.Assignment.{Assignment}
use Rattle.gql_change.proofs.InRowLemmas.{set_rows}
use Rattle.gql_change.proofs.assigning.set_assignments.Goals as goal

pub returns : goal.returns
returns g c =
    let b = c.args.basis.now in
    let graph = g.V.View.graph b.view.now in
    let items = c.as_slice.result.now in
    let whole : each_some (all_in items graph) c.args.rows.now ≡ set_assignments graph b.params.now b.columns.now c.args.items.now c.args.rows.now =
    set_rows b.columns.now b.params.now c.args.items.now items (ap (map item_in) c.as_slice.ensures.value ∙ c.in_ok-prepared.ensures) graph c.args.rows.now in
    subst (λ (r : Result (List Assignment) DataFault). Gives (λ (a : List Assignment). a) c.assignments_of.result r) whole c.assignments_of.ensures
