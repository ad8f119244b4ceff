use Rattle.std.proofs.Common.{rules, ◌<◌, length, arith}
use Rattle.gql_norm.proofs.HeightLemmas.{row_falls, union_falls, height_le-highest_part}
use Rattle.gql_pattern_checks.proofs.walk.+walk.Goals as goal

pub ask_part-ask_several-requires : goal.ask_part-ask_several-requires
ask_part-ask_several-requires g t c κs within = (omega (arith, row_falls _ _ _ _ _ _ _ c.in-Concat.is c.part.ensures c.part-in-Concat.ensures c.as_slice.ensures), search rules)

pub ask_part-ask_several-requires-in-Union : goal.ask_part-ask_several-requires-in-Union
ask_part-ask_several-requires-in-Union g t c κs within =
    (omega (arith, union_falls _ _ _ _ _ _ _ c.in-Union.is c.part-in-Union.ensures c.part-in-Union-2.ensures c.as_slice-in-Union.ensures), search rules)

pub ask_parts-ask_part-requires : goal.ask_parts-ask_part-requires
ask_parts-ask_part-requires g t c κs within =
    let parts = c.args.parts.now in
    let below : c.loop-part.part-index < length parts = omega arith in
    (omega (arith, height_le-highest_part parts c.loop-part.part-index c.part-item.result below c.part-item.is), search rules)
