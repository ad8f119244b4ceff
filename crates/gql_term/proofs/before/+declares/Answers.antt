use Rattle.std.proofs.Common.{◌<◌, length, arith}
use Rattle.gql_norm.proofs.HeightLemmas.{row_falls, union_falls, height_le-highest_part}
use Rattle.gql_term.proofs.before.+declares.Goals as goal

pub declares_open-several_declare_open-requires : goal.declares_open-several_declare_open-requires
declares_open-several_declare_open-requires t c = (omega (arith, row_falls _ _ _ _ _ _ _ c.in-Concat.is c.part.ensures c.part-in-Concat.ensures c.as_slice.ensures), tt {0})

pub declares_open-several_declare_open-requires-in-Union : goal.declares_open-several_declare_open-requires-in-Union
declares_open-several_declare_open-requires-in-Union t c = (omega (arith, union_falls _ _ _ _ _ _ _ c.in-Union.is c.part-in-Union.ensures c.part-in-Union-2.ensures c.as_slice-in-Union.ensures), tt {0})

pub some_declares_open-declares_open-requires : goal.some_declares_open-declares_open-requires
some_declares_open-declares_open-requires t c =
    let parts = c.args.parts.now in
    let below : c.loop-i.i < length parts = omega arith in
    (omega (arith, height_le-highest_part parts c.loop-i.i c.index-parts-i.result below c.index-parts-i.is), tt {0})
