use Rattle.std.proofs.Common.{arith, ◌<◌, ◌∙◌, length, sym}
use Rattle.gql_ast.specs.Meaning.{tree_of, link_of}
use Rattle.gql_ast.proofs.HeightLemmas.{height_of_le-highest, link_height_of_le-highest_link}
use Rattle.gql_expr_checks.proofs.FirstLemmas.{or_first, or_second}
use Rattle.gql_expr_checks.proofs.MisuseLemmas.{argument_over_rows, argument_over_group}
use Rattle.gql_expr_checks.proofs.misuses.+misuses.Goals as goal

pub any_is_misused-is_misused-requires : goal.any_is_misused-is_misused-requires
any_is_misused-is_misused-requires t c =
    let below : c.loop-i.i < length c.args.parts.now = omega arith in
    (omega (arith, height_of_le-highest tree_of c.args.parts.now c.loop-i.i c.index-parts-i.result below c.index-parts-i.is), tt)

pub side_is_misused-is_misused-requires : goal.side_is_misused-is_misused-requires
side_is_misused-is_misused-requires t c =
    let below : c.loop-i.i < length c.args.steps.now = omega arith in
    (omega (arith, link_height_of_le-highest_link link_of c.args.steps.now c.loop-i.i c.index-steps-i.result below c.index-steps-i.is), tt)

pub argument_is_misused-returns-then-bars_rows : goal.argument_is_misused-returns-then-bars_rows
argument_is_misused-returns-then-bars_rows t c =
    or_first _ _ _ c.if-bars_rows.true (argument_over_rows c.args.scope.now c.args.bars_rows (tree_of c.args.argument.now) (sym c.in-None.ensures))

pub argument_is_misused-returns-else-bars_rows : goal.argument_is_misused-returns-else-bars_rows
argument_is_misused-returns-else-bars_rows t c =
    c.is_misused.ensures
    ∙ or_second _ _ _ c.if-bars_rows.false (argument_over_rows c.args.scope.now c.args.bars_rows (tree_of c.args.argument.now) (sym c.in-None.ensures))

pub argument_is_misused-returns-then-names_other_group : goal.argument_is_misused-returns-then-names_other_group
argument_is_misused-returns-then-names_other_group t c =
    c.names_other_group.ensures
    ∙ or_first _ _ _ (sym c.names_other_group.ensures ∙ c.if-names_other_group.true)
    (argument_over_group c.args.scope.now c.args.bars_rows (tree_of c.args.argument.now) c.in-Some.group.now (sym c.in-Some.ensures))

pub argument_is_misused-returns-else-names_other_group : goal.argument_is_misused-returns-else-names_other_group
argument_is_misused-returns-else-names_other_group t c =
    c.is_misused-else-names_other_group.ensures
    ∙ or_second _ _ _ (sym c.names_other_group.ensures ∙ c.if-names_other_group.false)
    (argument_over_group c.args.scope.now c.args.bars_rows (tree_of c.args.argument.now) c.in-Some.group.now (sym c.in-Some.ensures))
