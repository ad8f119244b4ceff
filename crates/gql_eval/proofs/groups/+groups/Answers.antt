use Rattle.std.proofs.Common.{arith, ◌<◌, ◌+◌, ◌∙◌, length, ap, sym}
use Rattle.gql_ast.specs.Scope.{is_group_name}
use Rattle.gql_eval.specs.Machinery.ScopeMeaning.{scope_of}
use Rattle.gql_eval.proofs.ScopeLemmas.{first}
use Rattle.gql_eval.proofs.PartLemmas.{height_le-highest, height_lt-highest_link, found_in_parts, found_in_sides, found_in_parts_step, found_in_sides_step}
use Rattle.gql_eval.proofs.groups.+groups.Goals as goal

pub group_of_parts-group_name-requires : goal.group_of_parts-group_name-requires
group_of_parts-group_name-requires t c =
    let below : c.loop-i.i < length c.args.parts.now = omega arith in
    (omega (arith, height_le-highest c.args.parts.now c.loop-i.i c.index-parts-i.result below c.index-parts-i.is), tt)

pub group_of_steps-group_name-requires : goal.group_of_steps-group_name-requires
group_of_steps-group_name-requires t c =
    let below : c.loop-i.i < length c.args.steps.now = omega arith in
    (omega (arith, height_lt-highest_link c.args.steps.now c.loop-i.i c.index-steps-i.result below c.index-steps-i.is), tt)

pub group_of_parts-returns-in-Some : goal.group_of_parts-returns-in-Some
group_of_parts-returns-in-Some t c =
    let below : c.loop-i.i < length c.args.parts.now = omega arith in
    let test = is_group_name (scope_of c.args.scope.now) in
    let step = found_in_parts_step test c.args.parts.now c.loop-i.i c.index-parts-i.result below c.index-parts-i.is in
    ap (λ o. first o (found_in_parts test c.args.parts.now (c.loop-i.i + 1))) c.in-Some.ensures ∙ sym step ∙ c.loop-i.invariant

pub group_of_parts-loop-i-preserved : goal.group_of_parts-loop-i-preserved
group_of_parts-loop-i-preserved t c =
    let below : c.loop-i.i < length c.args.parts.now = omega arith in
    let test = is_group_name (scope_of c.args.scope.now) in
    let step = found_in_parts_step test c.args.parts.now c.loop-i.i c.index-parts-i.result below c.index-parts-i.is in
    ap (λ o. first o (found_in_parts test c.args.parts.now (c.loop-i.i + 1))) c.in_default.ensures ∙ sym step ∙ c.loop-i.invariant

pub group_of_steps-returns-in-Some : goal.group_of_steps-returns-in-Some
group_of_steps-returns-in-Some t c =
    let below : c.loop-i.i < length c.args.steps.now = omega arith in
    let test = is_group_name (scope_of c.args.scope.now) in
    let step = found_in_sides_step test c.args.steps.now c.loop-i.i c.index-steps-i.result below c.index-steps-i.is in
    ap (λ o. first o (found_in_sides test c.args.steps.now (c.loop-i.i + 1))) c.in-Some.ensures ∙ sym step ∙ c.loop-i.invariant

pub group_of_steps-loop-i-preserved : goal.group_of_steps-loop-i-preserved
group_of_steps-loop-i-preserved t c =
    let below : c.loop-i.i < length c.args.steps.now = omega arith in
    let test = is_group_name (scope_of c.args.scope.now) in
    let step = found_in_sides_step test c.args.steps.now c.loop-i.i c.index-steps-i.result below c.index-steps-i.is in
    ap (λ o. first o (found_in_sides test c.args.steps.now (c.loop-i.i + 1))) c.in_default.ensures ∙ sym step ∙ c.loop-i.invariant
