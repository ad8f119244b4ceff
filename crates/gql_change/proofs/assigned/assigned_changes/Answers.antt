use Rattle.std.proofs.Common.{◌≡◌, ◌∙◌, List, slice_get, ap, Some, None}
use Rattle.gql_graph.specs.declared.change.Change.{Change}
use Rattle.gql_change.specs.AssignedGraph.{assigned}
use Rattle.gql_change.specs.Machinery.Building.{built, built_from}
use Rattle.gql_change.specs.Plans.{LeadTo}
use Rattle.gql_change.specs.declared.assignment.Assignment.{Assignment}
use Rattle.gql_change.proofs.BuildingLemmas.{sorted_leads, none_leads, ok_is}
use Rattle.gql_change.proofs.assigned.assigned_changes.Goals as goal

pub returns : goal.returns
returns g c =
    let graph = g.V.View.graph c.args.view.now in
    let xs = c.args.assignments.items in
    let ys = c.in_ok-sorted.sorted.items in
    let first = c.in-Some.first.now in
    let here : Some first ≡ slice_get ys 0 = c.in-Some.ensures.value ∙ ap (λ (l : List Assignment). slice_get l 0) c.deref.ensures.value in
    ok_is c.changes_in_order.result (built graph (built_from first.target) ys) (λ (cs : List Change). LeadTo graph cs (assigned xs graph)) c.changes_in_order.ensures
    (sorted_leads graph c.node_count-count.ensures.graph xs ys first c.in_ok-sorted.ensures here c.requires)

pub returns-in-None : goal.returns-in-None
returns-in-None g c =
    let graph = g.V.View.graph c.args.view.now in
    let xs = c.args.assignments.items in
    let ys = c.in_ok-sorted.sorted.items in
    let none : None ≡ slice_get ys 0 = c.in-None.ensures.value ∙ ap (λ (l : List Assignment). slice_get l 0) c.deref.ensures.value in
    rw c.new.ensures (none_leads graph c.node_count-count.ensures.graph xs ys c.in_ok-sorted.ensures none)
