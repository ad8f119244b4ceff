use Rattle.std.proofs.Common.{arith, ◌<◌, length}
use Rattle.gql_eval.proofs.PartLemmas.{height_le-highest, height_lt-highest_link}
use Rattle.gql_table.proofs.row_aggregates.+row_aggregates.Goals as goal

pub add_of_parts-add_of_expr-requires : goal.add_of_parts-add_of_expr-requires
add_of_parts-add_of_expr-requires t c =
    let below : c.loop-i.i < length c.args.parts.now = omega arith in
    (omega (arith, height_le-highest c.args.parts.now c.loop-i.i c.index-parts-i.result below c.index-parts-i.is), c.requires)

pub add_of_steps-add_of_expr-requires : goal.add_of_steps-add_of_expr-requires
add_of_steps-add_of_expr-requires t c =
    let below : c.loop-i.i < length c.args.steps.now = omega arith in
    (omega (arith, height_lt-highest_link c.args.steps.now c.loop-i.i c.index-steps-i.result below c.index-steps-i.is), c.requires)
