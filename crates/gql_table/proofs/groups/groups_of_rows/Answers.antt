use Rattle.std.proofs.Common.{◌≡◌, ◌∷◌, ◌∙◌, [], List, map, length, sym, ap, refl, arith, rules}
use Rattle.std.specs.Vec.Iter.{into_iter_items}
use Rattle.gql_values3.specs.Datum.{Datum}
use Rattle.gql_eval.specs.RowLists.{RowList}
use Rattle.gql_table.specs.Machinery.GroupPlan.{PreparedPlan}
use Rattle.gql_table.specs.Machinery.Running.{Stood, opened_stood, stood_behind}
use Rattle.gql_table.specs.Machinery.GroupMeaning.{group_meant}
use Rattle.gql_eval.proofs.EachSteps.{no_items}
use Rattle.gql_table.proofs.StoodLemmas.{stood_step}
use Rattle.gql_table.proofs.groups.groups_of_rows.Goals as goal

pub open_first-requires : goal.open_first-requires
open_first-requires g c = λ q. rw (c.new-seen.ensures.empty, c.new-groups.ensures.items) refl

pub loop-row-init : goal.loop-row-init
loop-row-init g c =
    let graph = g.V.View.graph c.args.grouping.now.view.now in
    let plan : List PreparedPlan = c.args.grouping.now.items.now in
    let start : into_iter_items c.into_iter-row-iterator.result ≡ c.args.rows = c.into_iter-row-iterator.ensures.into_iter_gives.0 ∙ c.into_vec-row-items.ensures in
    let first : map group_meant c.open_first.new.groups.items ≡ opened_stood plan [] = c.in_ok-open_first.ensures.groups ∙ ap (λ l. opened_stood plan (map group_meant l)) c.new-groups.ensures.items in
    record {
      whole = λ i. stood_behind graph (first i) plan (start i);
      keys = c.in_ok-open_first.ensures.seen;
      counted = search rules;
    }

pub loop-row-preserved : goal.loop-row-preserved
loop-row-preserved g c =
    let at = c.loop-row in
    let graph = g.V.View.graph c.args.grouping.now.view.now in
    let plan : List PreparedPlan = c.args.grouping.now.items.now in
    let row : List Datum = c.in-Some.row in
    let rest : RowList = into_iter_items c.next.new.self in
    let gs : List Stood = map group_meant at.groups.items in
    let steps : into_iter_items at.row-iterator ≡ row ∷ rest = c.in-Some.ensures.steps.0 in
    let short = ap length steps in
    record {
      whole = rw (c.in_ok-join_group.ensures.groups, c.as_slice-in-loop-row.ensures)
          (sym (stood_step graph plan gs (into_iter_items at.row-iterator) rest row c.in_ok-key.key c.in_ok-key.arguments steps (rw c.as_slice.ensures at c.in_ok-key.ensures)) ∙ at.invariant.whole);
      keys = c.in_ok-join_group.ensures.seen;
      counted = omega (arith, c.in-Some.ensures.steps.1, at.invariant.counted, short);
    }

pub returns : goal.returns
returns g c =
    let at = c.loop-row in
    let graph = g.V.View.graph c.args.grouping.now.view.now in
    let plan : List PreparedPlan = c.args.grouping.now.items.now in
    let none : into_iter_items at.row-iterator ≡ [] = no_items _ (sym at.invariant.counted ∙ c.in-None.ensures.steps.0) in
    sym at.invariant.whole ∙ ap (stood_behind graph (map group_meant at.groups.items) plan) none
