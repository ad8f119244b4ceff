use Rattle.std.proofs.Common.{arith, ◌<◌, length}
use Rattle.gql_eval.proofs.PartLemmas.{height_le-highest, height_lt-highest_link}
use Rattle.gql_table.proofs.AggregationLemmas.{some_in_parts_on, some_in_sides_on}
use Rattle.gql_table.proofs.aggregation.+aggregation.Goals as goal

pub part_has_one-has_row_aggregate-requires : goal.part_has_one-has_row_aggregate-requires
part_has_one-has_row_aggregate-requires t c =
    let below : c.loop-i.i < length c.args.parts.now = omega arith in
    (omega (arith, height_le-highest c.args.parts.now c.loop-i.i c.index-parts-i.result below c.index-parts-i.is), c.requires)

pub side_has_one-has_row_aggregate-requires : goal.side_has_one-has_row_aggregate-requires
side_has_one-has_row_aggregate-requires t c =
    let below : c.loop-i.i < length c.args.steps.now = omega arith in
    (omega (arith, height_lt-highest_link c.args.steps.now c.loop-i.i c.index-steps-i.result below c.index-steps-i.is), c.requires)

pub part_has_one-returns-then-has_row_aggregate : goal.part_has_one-returns-then-has_row_aggregate
part_has_one-returns-then-has_row_aggregate t c = some_in_parts_on c.args.columns.now c.args.parts.now c.loop-i.i c.index-parts-i.result _ _ (omega arith) c.index-parts-i.is c.if-has_row_aggregate.ensures c.loop-i.invariant

pub part_has_one-loop-i-preserved : goal.part_has_one-loop-i-preserved
part_has_one-loop-i-preserved t c = some_in_parts_on c.args.columns.now c.args.parts.now c.loop-i.i c.index-parts-i.result _ _ (omega arith) c.index-parts-i.is c.if-has_row_aggregate.ensures c.loop-i.invariant

pub side_has_one-returns-then-has_row_aggregate : goal.side_has_one-returns-then-has_row_aggregate
side_has_one-returns-then-has_row_aggregate t c = some_in_sides_on c.args.columns.now c.args.steps.now c.loop-i.i c.index-steps-i.result _ _ (omega arith) c.index-steps-i.is c.if-has_row_aggregate.ensures c.loop-i.invariant

pub side_has_one-loop-i-preserved : goal.side_has_one-loop-i-preserved
side_has_one-loop-i-preserved t c = some_in_sides_on c.args.columns.now c.args.steps.now c.loop-i.i c.index-steps-i.result _ _ (omega arith) c.index-steps-i.is c.if-has_row_aggregate.ensures c.loop-i.invariant
