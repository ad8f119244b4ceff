use Rattle.std.proofs.Common.{arith, ◌<◌, ◌+◌, ◌∙◌, length, ap, sym}
use Rattle.std.specs.Prelude.{find}
use Rattle.std.specs.Option.{option_or}
use Rattle.gql_ast.specs.Meaning.{tree_of, link_of}
use Rattle.gql_ast.specs.Scope.{names_in, names_in_trees, names_in_links}
use Rattle.gql_ast.proofs.HeightLemmas.{height_of_le-highest, link_height_of_le-highest_link}
use Rattle.gql_expr_checks.specs.Machinery.Sought.{is_sought}
use Rattle.gql_ast.proofs.PartLemmas.{parts_from, sides_from, parts_step, sides_step}
use Rattle.gql_expr_checks.proofs.PartLemmas.{found_in_two}
use Rattle.gql_expr_checks.proofs.names.+names.Goals as goal

pub first_of_parts-first_name-requires : goal.first_of_parts-first_name-requires
first_of_parts-first_name-requires t c =
    let below : c.loop-i.i < length c.args.parts.now = omega arith in
    (omega (arith, height_of_le-highest tree_of c.args.parts.now c.loop-i.i c.index-parts-i.result below c.index-parts-i.is), tt)

pub first_of_steps-first_name-requires : goal.first_of_steps-first_name-requires
first_of_steps-first_name-requires t c =
    let below : c.loop-i.i < length c.args.steps.now = omega arith in
    (omega (arith, link_height_of_le-highest_link link_of c.args.steps.now c.loop-i.i c.index-steps-i.result below c.index-steps-i.is), tt)

pub first_of_parts-returns-in-Some : goal.first_of_parts-returns-in-Some
first_of_parts-returns-in-Some t c =
    let below : c.loop-i.i < length c.args.parts.now = omega arith in
    let test = is_sought c.args.scope.now c.args.sought.now in
    let rest = names_in_trees (parts_from c.args.parts.now (c.loop-i.i + 1)) in
    ap (λ o. option_or o (find test rest)) c.in-Some.ensures
    ∙ sym (ap (λ ts. find test (names_in_trees ts)) (parts_step c.args.parts.now c.loop-i.i c.index-parts-i.result below c.index-parts-i.is) ∙ found_in_two test (names_in (tree_of c.index-parts-i.result)) rest)
    ∙ c.loop-i.invariant

pub first_of_parts-loop-i-preserved : goal.first_of_parts-loop-i-preserved
first_of_parts-loop-i-preserved t c =
    let below : c.loop-i.i < length c.args.parts.now = omega arith in
    let test = is_sought c.args.scope.now c.args.sought.now in
    let rest = names_in_trees (parts_from c.args.parts.now (c.loop-i.i + 1)) in
    ap (λ o. option_or o (find test rest)) c.in_default.ensures
    ∙ sym (ap (λ ts. find test (names_in_trees ts)) (parts_step c.args.parts.now c.loop-i.i c.index-parts-i.result below c.index-parts-i.is) ∙ found_in_two test (names_in (tree_of c.index-parts-i.result)) rest)
    ∙ c.loop-i.invariant

pub first_of_steps-returns-in-Some : goal.first_of_steps-returns-in-Some
first_of_steps-returns-in-Some t c =
    let below : c.loop-i.i < length c.args.steps.now = omega arith in
    let test = is_sought c.args.scope.now c.args.sought.now in
    let rest = names_in_links (sides_from c.args.steps.now (c.loop-i.i + 1)) in
    ap (λ o. option_or o (find test rest)) c.in-Some.ensures
    ∙ sym (ap (λ ts. find test (names_in_links ts)) (sides_step c.args.steps.now c.loop-i.i c.index-steps-i.result below c.index-steps-i.is) ∙ found_in_two test (names_in (tree_of c.index-steps-i.result.operand)) rest)
    ∙ c.loop-i.invariant

pub first_of_steps-loop-i-preserved : goal.first_of_steps-loop-i-preserved
first_of_steps-loop-i-preserved t c =
    let below : c.loop-i.i < length c.args.steps.now = omega arith in
    let test = is_sought c.args.scope.now c.args.sought.now in
    let rest = names_in_links (sides_from c.args.steps.now (c.loop-i.i + 1)) in
    ap (λ o. option_or o (find test rest)) c.in_default.ensures
    ∙ sym (ap (λ ts. find test (names_in_links ts)) (sides_step c.args.steps.now c.loop-i.i c.index-steps-i.result below c.index-steps-i.is) ∙ found_in_two test (names_in (tree_of c.index-steps-i.result.operand)) rest)
    ∙ c.loop-i.invariant
