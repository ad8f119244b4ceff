use Rattle.std.proofs.Common.{◌<◌, ◌+◌, ◌∙◌, length, ap, sym, arith}
use Rattle.std.specs.Option.{option_or}
use Rattle.gql_ast.specs.NumberLiterals.{numbers_in_step}
use Rattle.gql_text.proofs.FindLemmas.{found, in_item}
use Rattle.gql_text.proofs.wide.changes.in_insert_steps.Goals as goal

pub returns-in-Some : goal.returns-in-Some
returns-in-Some c =
    let below : c.loop-step.step-index < length c.args.steps.now = omega arith in
    let step = in_item numbers_in_step c.args.steps.now c.loop-step.step-index c.step-item.result below c.step-item.is in
    ap (λ o. option_or o (found numbers_in_step c.args.steps.now (c.loop-step.step-index + 1))) c.in-Some.ensures ∙ sym step ∙ c.loop-step.invariant

pub loop-step-preserved : goal.loop-step-preserved
loop-step-preserved c =
    let below : c.loop-step.step-index < length c.args.steps.now = omega arith in
    let step = in_item numbers_in_step c.args.steps.now c.loop-step.step-index c.step-item.result below c.step-item.is in
    ap (λ o. option_or o (found numbers_in_step c.args.steps.now (c.loop-step.step-index + 1))) c.in_default.ensures ∙ sym step ∙ c.loop-step.invariant
