use Rattle.std.proofs.Common.{◌<◌, ◌+◌, ◌∙◌, length, ap, sym, arith}
use Rattle.std.specs.Option.{option_or}
use Rattle.gql_degrees.proofs.BoundLemmas.{told_from_path, path_step}
use Rattle.gql_degrees.proofs.bounds.in_paths.Goals as goal

pub returns-in-Some : goal.returns-in-Some
returns-in-Some c =
    let below : c.loop-i.i < length c.args.paths.now = omega arith in
    let step = path_step c.args.paths.now c.loop-i.i c.index-paths-i.result below c.index-paths-i.is in
    ap (λ o. option_or o (told_from_path c.args.paths.now (c.loop-i.i + 1))) c.in-Some.ensures ∙ sym step ∙ c.loop-i.invariant

pub loop-i-preserved : goal.loop-i-preserved
loop-i-preserved c =
    let below : c.loop-i.i < length c.args.paths.now = omega arith in
    let step = path_step c.args.paths.now c.loop-i.i c.index-paths-i.result below c.index-paths-i.is in
    ap (λ o. option_or o (told_from_path c.args.paths.now (c.loop-i.i + 1))) c.in_default.ensures ∙ sym step ∙ c.loop-i.invariant
