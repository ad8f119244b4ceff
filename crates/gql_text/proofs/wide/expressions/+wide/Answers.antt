use Rattle.std.proofs.Common.{◌<◌, ◌+◌, ◌∙◌, length, ap, sym, arith}
use Rattle.std.specs.Option.{option_or}
use Rattle.gql_ast.specs.Meaning.{tree_of, link_of}
use Rattle.gql_ast.proofs.HeightLemmas.{height_of_le-highest, link_height_of_le-highest_link}
use Rattle.gql_text.proofs.FindLemmas.{found_in_trees, found_in_links, in_expr, in_step}
use Rattle.gql_text.proofs.wide.expressions.+wide.Goals as goal

pub in_exprs-in_expr-requires : goal.in_exprs-in_expr-requires
in_exprs-in_expr-requires t c =
    let below : c.loop-i.i < length c.args.exprs.now = omega arith in
    (omega (arith, height_of_le-highest tree_of c.args.exprs.now c.loop-i.i c.index-exprs-i.result below c.index-exprs-i.is), tt)

pub in_exprs-returns-in-Some : goal.in_exprs-returns-in-Some
in_exprs-returns-in-Some t c =
    let below : c.loop-i.i < length c.args.exprs.now = omega arith in
    let step = in_expr c.args.exprs.now c.loop-i.i c.index-exprs-i.result below c.index-exprs-i.is in
    ap (λ o. option_or o (found_in_trees c.args.exprs.now (c.loop-i.i + 1))) c.in-Some.ensures ∙ sym step ∙ c.loop-i.invariant

pub in_exprs-loop-i-preserved : goal.in_exprs-loop-i-preserved
in_exprs-loop-i-preserved t c =
    let below : c.loop-i.i < length c.args.exprs.now = omega arith in
    let step = in_expr c.args.exprs.now c.loop-i.i c.index-exprs-i.result below c.index-exprs-i.is in
    ap (λ o. option_or o (found_in_trees c.args.exprs.now (c.loop-i.i + 1))) c.in_default.ensures ∙ sym step ∙ c.loop-i.invariant

pub in_steps-in_expr-requires : goal.in_steps-in_expr-requires
in_steps-in_expr-requires t c =
    let below : c.loop-i.i < length c.args.steps.now = omega arith in
    (omega (arith, link_height_of_le-highest_link link_of c.args.steps.now c.loop-i.i c.index-steps-i.result below c.index-steps-i.is), tt)

pub in_steps-returns-in-Some : goal.in_steps-returns-in-Some
in_steps-returns-in-Some t c =
    let below : c.loop-i.i < length c.args.steps.now = omega arith in
    let step = in_step c.args.steps.now c.loop-i.i c.index-steps-i.result below c.index-steps-i.is in
    ap (λ o. option_or o (found_in_links c.args.steps.now (c.loop-i.i + 1))) c.in-Some.ensures ∙ sym step ∙ c.loop-i.invariant

pub in_steps-loop-i-preserved : goal.in_steps-loop-i-preserved
in_steps-loop-i-preserved t c =
    let below : c.loop-i.i < length c.args.steps.now = omega arith in
    let step = in_step c.args.steps.now c.loop-i.i c.index-steps-i.result below c.index-steps-i.is in
    ap (λ o. option_or o (found_in_links c.args.steps.now (c.loop-i.i + 1))) c.in_default.ensures ∙ sym step ∙ c.loop-i.invariant
