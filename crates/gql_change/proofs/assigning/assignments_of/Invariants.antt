use Rattle.std.proofs.Common.{◌≡◌, drop}
use Rattle.gql_eval.specs.RowLists.{each_some}
use Rattle.gql_change.specs.Machinery.PreparedItems.{all_in}
use Rattle.gql_eval.proofs.EachSteps.{some_from}
use Rattle.gql_change.proofs.assigning.assignments_of.Given as goal

abbrev pub invariant-loop-i : goal.invariant-loop-i
invariant-loop-i g l = some_from (all_in l.items (g.V.View.graph l.view)) (drop l.i l.rows) l.done ≡ each_some (all_in l.items (g.V.View.graph l.view)) l.fn.rows
