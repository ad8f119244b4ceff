use Rattle.std.proofs.Common.{◌≡◌, ◌∷◌, ◌∙◌, ◌<◌, ◌+◌, map, length, drop, sym, ap, arith, rules}
use Rattle.gql_values3.specs.Meaning.{datum_of}
use Rattle.gql_ast.specs.Faults.{each}
use Rattle.gql_eval.specs.Gives.{Fails}
use Rattle.gql_table.specs.Machinery.Running.{finished}
use Rattle.gql_table.specs.Machinery.StandingMeaning.{standing_of}
use Rattle.gql_eval.proofs.EachSteps.{each_step, each_fails, drop_here}
use Rattle.gql_table.proofs.group_results.group_results.Goals as goal

pub returns-in_err-finish : goal.returns-in_err-finish
returns-in_err-finish c =
    let at = c.loop-i in
    let state = c.index-states-i.result in
    let e = c.in_err-finish.field-0.0 in
    let below : at.i < length c.args.states.now = omega arith in
    let left : map standing_of (drop at.i c.args.states.now) ≡ standing_of state ∷ map standing_of (drop (at.i + 1) c.args.states.now) = ap (map standing_of) (drop_here c.args.states.now at.i state below c.index-states-i.is) in
    let whole : Fails e (each finished (map standing_of c.args.states.now)) = rw (← at.invariant) (each_fails finished _ (standing_of state) _ e _ left c.in_err-finish.ensures) in
    search rules

pub loop-i-preserved : goal.loop-i-preserved
loop-i-preserved c =
    let at = c.loop-i in
    let state = c.index-states-i.result in
    let below : at.i < length c.args.states.now = omega arith in
    let left : map standing_of (drop at.i c.args.states.now) ≡ standing_of state ∷ map standing_of (drop (at.i + 1) c.args.states.now) = ap (map standing_of) (drop_here c.args.states.now at.i state below c.index-states-i.is) in
    rw c.in_ok-push.ensures.ok (sym (each_step finished _ (standing_of state) _ at.done (datum_of c.in_ok-finish.field-0) left c.in_ok-finish.ensures) ∙ at.invariant)
