use Rattle.std.proofs.Common.{arith, rules, ◌<◌, length}
use Rattle.gql_eval.proofs.LabelLemmas.{label_height_le-highest}
use Rattle.gql_eval.proofs.labels.+labels.Goals as goal

pub satisfies_all-satisfies-requires : goal.satisfies_all-satisfies-requires
satisfies_all-satisfies-requires g t c κs within =
    let below : c.loop-i.i < length c.args.parts.now = omega arith in
    (omega (arith, label_height_le-highest c.args.parts.now c.loop-i.i c.index-parts-i.result below c.index-parts-i.is), search rules)

pub satisfies_some-satisfies-requires : goal.satisfies_some-satisfies-requires
satisfies_some-satisfies-requires g t c κs within =
    let below : c.loop-i.i < length c.args.parts.now = omega arith in
    (omega (arith, label_height_le-highest c.args.parts.now c.loop-i.i c.index-parts-i.result below c.index-parts-i.is), search rules)
