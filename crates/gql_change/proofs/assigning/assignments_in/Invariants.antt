use Rattle.std.proofs.Common.{◌≡◌, drop}
use Rattle.gql_eval.specs.RowLists.{each_some}
use Rattle.gql_change.specs.Machinery.PreparedItems.{item_in}
use Rattle.gql_change.specs.declared.prepared_item.PreparedItem.{PreparedItem}
use Rattle.gql_eval.proofs.EachSteps.{some_from}
use Rattle.gql_change.proofs.assigning.assignments_in.Given as goal

abbrev pub invariant-loop-i : goal.invariant-loop-i
invariant-loop-i g l =
    some_from (λ (p : PreparedItem). item_in p (g.V.View.graph l.view) l.row) (drop l.i l.items) l.done
    ≡ each_some (λ (p : PreparedItem). item_in p (g.V.View.graph l.view) l.row) l.items
