use Rattle.std.proofs.Common.{arith, ◌<◌, ◌+◌, ◌∙◌, not, length, ap, sym}
use Rattle.gql_ast.specs.Meaning.{tree_of, link_of}
use Rattle.gql_ast.specs.Projections.{has_none}
use Rattle.gql_ast.specs.RowAggregates.{row_aggregates, row_aggregates_of, row_aggregates_in}
use Rattle.gql_ast.proofs.HeightLemmas.{height_of_le-highest, link_height_of_le-highest_link}
use Rattle.gql_expr_checks.proofs.FirstLemmas.{some_in_two, or_first, or_second}
use Rattle.gql_ast.proofs.PartLemmas.{parts_from, sides_from, parts_step, sides_step}
use Rattle.gql_expr_checks.proofs.aggregates.+aggregates.Goals as goal

pub any_has_aggregate-has_aggregate-requires : goal.any_has_aggregate-has_aggregate-requires
any_has_aggregate-has_aggregate-requires t c =
    let below : c.loop-i.i < length c.args.parts.now = omega arith in
    (omega (arith, height_of_le-highest tree_of c.args.parts.now c.loop-i.i c.index-parts-i.result below c.index-parts-i.is), tt)

pub side_has_aggregate-has_aggregate-requires : goal.side_has_aggregate-has_aggregate-requires
side_has_aggregate-has_aggregate-requires t c =
    let below : c.loop-i.i < length c.args.steps.now = omega arith in
    (omega (arith, link_height_of_le-highest_link link_of c.args.steps.now c.loop-i.i c.index-steps-i.result below c.index-steps-i.is), tt)

pub any_has_aggregate-returns-then-has_aggregate : goal.any_has_aggregate-returns-then-has_aggregate
unfolding row_aggregates
any_has_aggregate-returns-then-has_aggregate t c =
    let below : c.loop-i.i < length c.args.parts.now = omega arith in
    let step = ap (λ ts. not (has_none (row_aggregates_of c.args.scope.now ts))) (parts_step c.args.parts.now c.loop-i.i c.index-parts-i.result below c.index-parts-i.is)
    ∙ some_in_two (row_aggregates c.args.scope.now (tree_of c.index-parts-i.result)) (row_aggregates_of c.args.scope.now (parts_from c.args.parts.now (c.loop-i.i + 1))) in
    sym c.if-has_aggregate.true ∙ c.has_aggregate.ensures ∙ or_first _ _ _ (sym c.has_aggregate.ensures ∙ c.if-has_aggregate.true) (sym c.loop-i.invariant ∙ step)

pub any_has_aggregate-loop-i-preserved : goal.any_has_aggregate-loop-i-preserved
unfolding row_aggregates
any_has_aggregate-loop-i-preserved t c =
    let below : c.loop-i.i < length c.args.parts.now = omega arith in
    let step = ap (λ ts. not (has_none (row_aggregates_of c.args.scope.now ts))) (parts_step c.args.parts.now c.loop-i.i c.index-parts-i.result below c.index-parts-i.is)
    ∙ some_in_two (row_aggregates c.args.scope.now (tree_of c.index-parts-i.result)) (row_aggregates_of c.args.scope.now (parts_from c.args.parts.now (c.loop-i.i + 1))) in
    or_second _ _ _ (sym c.has_aggregate.ensures ∙ c.if-has_aggregate.false) (sym c.loop-i.invariant ∙ step)

pub side_has_aggregate-returns-then-has_aggregate : goal.side_has_aggregate-returns-then-has_aggregate
unfolding row_aggregates
side_has_aggregate-returns-then-has_aggregate t c =
    let below : c.loop-i.i < length c.args.steps.now = omega arith in
    let step = ap (λ ts. not (has_none (row_aggregates_in c.args.scope.now ts))) (sides_step c.args.steps.now c.loop-i.i c.index-steps-i.result below c.index-steps-i.is)
    ∙ some_in_two (row_aggregates c.args.scope.now (tree_of c.index-steps-i.result.operand)) (row_aggregates_in c.args.scope.now (sides_from c.args.steps.now (c.loop-i.i + 1))) in
    sym c.if-has_aggregate.true ∙ c.has_aggregate.ensures ∙ or_first _ _ _ (sym c.has_aggregate.ensures ∙ c.if-has_aggregate.true) (sym c.loop-i.invariant ∙ step)

pub side_has_aggregate-loop-i-preserved : goal.side_has_aggregate-loop-i-preserved
unfolding row_aggregates
side_has_aggregate-loop-i-preserved t c =
    let below : c.loop-i.i < length c.args.steps.now = omega arith in
    let step = ap (λ ts. not (has_none (row_aggregates_in c.args.scope.now ts))) (sides_step c.args.steps.now c.loop-i.i c.index-steps-i.result below c.index-steps-i.is)
    ∙ some_in_two (row_aggregates c.args.scope.now (tree_of c.index-steps-i.result.operand)) (row_aggregates_in c.args.scope.now (sides_from c.args.steps.now (c.loop-i.i + 1))) in
    or_second _ _ _ (sym c.has_aggregate.ensures ∙ c.if-has_aggregate.false) (sym c.loop-i.invariant ∙ step)
