use Rattle.std.proofs.Common.{arith, ◌<◌, ◌+◌, ◌∙◌, length, ap, sym}
use Rattle.std.specs.Option.{option_or}
use Rattle.gql_expr_checks.specs.ExprParameters.{unset, parameters_in, parameters_in_each, parameters_in_sides}
use Rattle.gql_expr_checks.proofs.FirstLemmas.{unset_in_two}
use Rattle.gql_ast.specs.Meaning.{tree_of, link_of}
use Rattle.gql_ast.proofs.HeightLemmas.{height_of_le-highest, link_height_of_le-highest_link}
use Rattle.gql_expr_checks.specs.First.{first}
use Rattle.gql_ast.proofs.PartLemmas.{parts_from, sides_from, parts_step, sides_step}
use Rattle.gql_expr_checks.proofs.parameters.+parameters.Goals as goal

pub unset_in_parts-unset_parameter-requires : goal.unset_in_parts-unset_parameter-requires
unset_in_parts-unset_parameter-requires t c =
    let below : c.loop-i.i < length c.args.parts.now = omega arith in
    (omega (arith, height_of_le-highest tree_of c.args.parts.now c.loop-i.i c.index-parts-i.result below c.index-parts-i.is), tt)

pub unset_in_steps-unset_parameter-requires : goal.unset_in_steps-unset_parameter-requires
unset_in_steps-unset_parameter-requires t c =
    let below : c.loop-i.i < length c.args.steps.now = omega arith in
    (omega (arith, link_height_of_le-highest_link link_of c.args.steps.now c.loop-i.i c.index-steps-i.result below c.index-steps-i.is), tt)

pub unset_in_parts-returns-in-Some : goal.unset_in_parts-returns-in-Some
unset_in_parts-returns-in-Some t c =
    let below : c.loop-i.i < length c.args.parts.now = omega arith in
    ap (λ o. option_or o (first (unset c.args.params.now (parameters_in_each (parts_from c.args.parts.now (c.loop-i.i + 1)))))) c.in-Some.ensures
    ∙ sym (ap (λ ts. first (unset c.args.params.now (parameters_in_each ts))) (parts_step c.args.parts.now c.loop-i.i c.index-parts-i.result below c.index-parts-i.is) ∙ unset_in_two c.args.params.now (parameters_in (tree_of c.index-parts-i.result)) (parameters_in_each (parts_from c.args.parts.now (c.loop-i.i + 1))))
    ∙ c.loop-i.invariant

pub unset_in_parts-loop-i-preserved : goal.unset_in_parts-loop-i-preserved
unset_in_parts-loop-i-preserved t c =
    let below : c.loop-i.i < length c.args.parts.now = omega arith in
    ap (λ o. option_or o (first (unset c.args.params.now (parameters_in_each (parts_from c.args.parts.now (c.loop-i.i + 1)))))) c.in_default.ensures
    ∙ sym (ap (λ ts. first (unset c.args.params.now (parameters_in_each ts))) (parts_step c.args.parts.now c.loop-i.i c.index-parts-i.result below c.index-parts-i.is) ∙ unset_in_two c.args.params.now (parameters_in (tree_of c.index-parts-i.result)) (parameters_in_each (parts_from c.args.parts.now (c.loop-i.i + 1))))
    ∙ c.loop-i.invariant

pub unset_in_steps-returns-in-Some : goal.unset_in_steps-returns-in-Some
unset_in_steps-returns-in-Some t c =
    let below : c.loop-i.i < length c.args.steps.now = omega arith in
    ap (λ o. option_or o (first (unset c.args.params.now (parameters_in_sides (sides_from c.args.steps.now (c.loop-i.i + 1)))))) c.in-Some.ensures
    ∙ sym (ap (λ ts. first (unset c.args.params.now (parameters_in_sides ts))) (sides_step c.args.steps.now c.loop-i.i c.index-steps-i.result below c.index-steps-i.is) ∙ unset_in_two c.args.params.now (parameters_in (tree_of c.index-steps-i.result.operand)) (parameters_in_sides (sides_from c.args.steps.now (c.loop-i.i + 1))))
    ∙ c.loop-i.invariant

pub unset_in_steps-loop-i-preserved : goal.unset_in_steps-loop-i-preserved
unset_in_steps-loop-i-preserved t c =
    let below : c.loop-i.i < length c.args.steps.now = omega arith in
    ap (λ o. option_or o (first (unset c.args.params.now (parameters_in_sides (sides_from c.args.steps.now (c.loop-i.i + 1)))))) c.in_default.ensures
    ∙ sym (ap (λ ts. first (unset c.args.params.now (parameters_in_sides ts))) (sides_step c.args.steps.now c.loop-i.i c.index-steps-i.result below c.index-steps-i.is) ∙ unset_in_two c.args.params.now (parameters_in (tree_of c.index-steps-i.result.operand)) (parameters_in_sides (sides_from c.args.steps.now (c.loop-i.i + 1))))
    ∙ c.loop-i.invariant
