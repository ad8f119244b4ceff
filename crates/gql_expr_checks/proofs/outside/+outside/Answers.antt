use Rattle.std.proofs.Common.{arith, ◌<◌, ◌+◌, ◌∙◌, length, ap, sym}
use Rattle.std.specs.Option.{option_or}
use Rattle.gql_expr_checks.specs.NamesOutside.{names_outside, names_outside_each, names_outside_sides}
use Rattle.gql_expr_checks.proofs.FirstLemmas.{first_in_two}
use Rattle.gql_ast.specs.Meaning.{tree_of, link_of}
use Rattle.gql_ast.proofs.HeightLemmas.{height_of_le-highest, link_height_of_le-highest_link}
use Rattle.gql_expr_checks.specs.First.{first}
use Rattle.gql_ast.proofs.PartLemmas.{parts_from, sides_from, parts_step, sides_step}
use Rattle.gql_expr_checks.proofs.outside.+outside.Goals as goal

pub outside_parts-name_outside-requires : goal.outside_parts-name_outside-requires
outside_parts-name_outside-requires t c =
    let below : c.loop-i.i < length c.args.parts.now = omega arith in
    (omega (arith, height_of_le-highest tree_of c.args.parts.now c.loop-i.i c.index-parts-i.result below c.index-parts-i.is), tt)

pub outside_steps-name_outside-requires : goal.outside_steps-name_outside-requires
outside_steps-name_outside-requires t c =
    let below : c.loop-i.i < length c.args.steps.now = omega arith in
    (omega (arith, link_height_of_le-highest_link link_of c.args.steps.now c.loop-i.i c.index-steps-i.result below c.index-steps-i.is), tt)

pub outside_parts-returns-in-Some : goal.outside_parts-returns-in-Some
outside_parts-returns-in-Some t c =
    let below : c.loop-i.i < length c.args.parts.now = omega arith in
    ap (λ o. option_or o (first (names_outside_each c.args.scope.now (parts_from c.args.parts.now (c.loop-i.i + 1))))) c.in-Some.ensures
    ∙ sym (ap (λ ts. first (names_outside_each c.args.scope.now ts)) (parts_step c.args.parts.now c.loop-i.i c.index-parts-i.result below c.index-parts-i.is) ∙ first_in_two (names_outside c.args.scope.now (tree_of c.index-parts-i.result)) (names_outside_each c.args.scope.now (parts_from c.args.parts.now (c.loop-i.i + 1))))
    ∙ c.loop-i.invariant

pub outside_parts-loop-i-preserved : goal.outside_parts-loop-i-preserved
outside_parts-loop-i-preserved t c =
    let below : c.loop-i.i < length c.args.parts.now = omega arith in
    ap (λ o. option_or o (first (names_outside_each c.args.scope.now (parts_from c.args.parts.now (c.loop-i.i + 1))))) c.in_default.ensures
    ∙ sym (ap (λ ts. first (names_outside_each c.args.scope.now ts)) (parts_step c.args.parts.now c.loop-i.i c.index-parts-i.result below c.index-parts-i.is) ∙ first_in_two (names_outside c.args.scope.now (tree_of c.index-parts-i.result)) (names_outside_each c.args.scope.now (parts_from c.args.parts.now (c.loop-i.i + 1))))
    ∙ c.loop-i.invariant

pub outside_steps-returns-in-Some : goal.outside_steps-returns-in-Some
outside_steps-returns-in-Some t c =
    let below : c.loop-i.i < length c.args.steps.now = omega arith in
    ap (λ o. option_or o (first (names_outside_sides c.args.scope.now (sides_from c.args.steps.now (c.loop-i.i + 1))))) c.in-Some.ensures
    ∙ sym (ap (λ ts. first (names_outside_sides c.args.scope.now ts)) (sides_step c.args.steps.now c.loop-i.i c.index-steps-i.result below c.index-steps-i.is) ∙ first_in_two (names_outside c.args.scope.now (tree_of c.index-steps-i.result.operand)) (names_outside_sides c.args.scope.now (sides_from c.args.steps.now (c.loop-i.i + 1))))
    ∙ c.loop-i.invariant

pub outside_steps-loop-i-preserved : goal.outside_steps-loop-i-preserved
outside_steps-loop-i-preserved t c =
    let below : c.loop-i.i < length c.args.steps.now = omega arith in
    ap (λ o. option_or o (first (names_outside_sides c.args.scope.now (sides_from c.args.steps.now (c.loop-i.i + 1))))) c.in_default.ensures
    ∙ sym (ap (λ ts. first (names_outside_sides c.args.scope.now ts)) (sides_step c.args.steps.now c.loop-i.i c.index-steps-i.result below c.index-steps-i.is) ∙ first_in_two (names_outside c.args.scope.now (tree_of c.index-steps-i.result.operand)) (names_outside_sides c.args.scope.now (sides_from c.args.steps.now (c.loop-i.i + 1))))
    ∙ c.loop-i.invariant
