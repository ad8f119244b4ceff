use Rattle.std.proofs.Common.{◌≡◌, ◌∷◌, ◌++◌, ◌∙◌, ◌<◌, ◌+◌, List, map, length, drop, sym, ap, arith, append_assoc}
use Rattle.gql_table.specs.Machinery.GroupPlan.{PreparedPlan}
use Rattle.gql_table.specs.Machinery.Running.{Standing, at_start, all_at_start}
use Rattle.gql_table.specs.Machinery.StandingMeaning.{standing_of}
use Rattle.gql_eval.proofs.EachSteps.{drop_here}
use Rattle.gql_table.proofs.new_group.begin_all.Goals as goal

pub loop-i-preserved : goal.loop-i-preserved
loop-i-preserved c =
    let at = c.loop-i in
    let items : List PreparedPlan = c.args.items.now in
    let item : PreparedPlan = c.index-items-i.result in
    let rest : List PreparedPlan = drop (at.i + 1) items in
    let done : List Standing = map standing_of at.states.items in
    let below : at.i < length items = omega arith in
    let left : drop at.i items ≡ item ∷ rest = drop_here items at.i item below c.index-items-i.is in
    let grown : map standing_of c.add_begun.new.states.items ≡ done ++ map at_start item.aggregates = c.in_ok-add_begun.ensures ∙ ap (λ l. done ++ map at_start l) c.aggregates.ensures in
    (λ i. grown i ++ all_at_start rest) ∙ append_assoc done (map at_start item.aggregates) (all_at_start rest) ∙ ap (λ l. done ++ all_at_start l) (sym left) ∙ at.invariant
