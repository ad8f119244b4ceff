use Rattle.std.proofs.Common.{◌≡◌, ◌∷◌, ◌∙◌, ◌<◌, ◌+◌, List, map, length, drop, sym, ap, arith, rules, Result}
use Rattle.std.proofs.lemmas.List.{drop-map}
use Rattle.gql_values3.specs.Datum.{Datum}
use Rattle.gql_ast.specs.Faults.{each}
use Rattle.gql_ast.specs.declared.fault.DataFault.{DataFault}
use Rattle.gql_eval.specs.Gives.{Fails}
use Rattle.gql_table.specs.Machinery.Running.{Stood, row_of_stood, Wide}
use Rattle.gql_table.specs.Machinery.GroupMeaning.{group_meant}
use Rattle.gql_eval.proofs.EachSteps.{each_step, each_fails, drop_here}
use Rattle.gql_table.proofs.StoodLemmas.{all_at}
use Rattle.gql_table.proofs.group_rows.group_rows.Goals as goal

pub group_row-requires-clause-wide : goal.group_row-requires-clause-wide
group_row-requires-clause-wide g c κs within =
    let at = c.loop-i in
    let group = c.index-groups-i.result in
    let below : at.i < length c.args.groups.now = omega arith in
    let left : drop at.i (map group_meant c.args.groups.now) ≡ group_meant group ∷ map group_meant (drop (at.i + 1) c.args.groups.now) =
    drop-map group_meant at.i c.args.groups.now ∙ ap (map group_meant) (drop_here c.args.groups.now at.i group below c.index-groups-i.is) in
    all_at (Wide c.args.grouping.now.items.now) (map group_meant c.args.groups.now) (group_meant group) _ at.i c.requires.wide left

pub returns-in_err-group_row : goal.returns-in_err-group_row
returns-in_err-group_row g c =
    let at = c.loop-i in
    let f : Stood → Result (List Datum) DataFault = row_of_stood (g.V.View.graph c.args.grouping.now.view.now) c.args.grouping.now.items.now in
    let group = c.index-groups-i.result in
    let e = c.in_err-group_row.field-0.0 in
    let below : at.i < length c.args.groups.now = omega arith in
    let left : map group_meant (drop at.i c.args.groups.now) ≡ group_meant group ∷ map group_meant (drop (at.i + 1) c.args.groups.now) = ap (map group_meant) (drop_here c.args.groups.now at.i group below c.index-groups-i.is) in
    let whole : Fails e (each f (map group_meant c.args.groups.now)) = rw (← at.invariant) (each_fails f _ (group_meant group) _ e _ left c.in_err-group_row.ensures) in
    search rules

pub loop-i-preserved : goal.loop-i-preserved
loop-i-preserved g c =
    let at = c.loop-i in
    let f : Stood → Result (List Datum) DataFault = row_of_stood (g.V.View.graph c.args.grouping.now.view.now) c.args.grouping.now.items.now in
    let group = c.index-groups-i.result in
    let below : at.i < length c.args.groups.now = omega arith in
    let left : map group_meant (drop at.i c.args.groups.now) ≡ group_meant group ∷ map group_meant (drop (at.i + 1) c.args.groups.now) = ap (map group_meant) (drop_here c.args.groups.now at.i group below c.index-groups-i.is) in
    rw c.in_ok-push.ensures.ok (sym (each_step f _ (group_meant group) _ at.done c.in_ok-group_row.field-0 left c.in_ok-group_row.ensures) ∙ at.invariant)
