use Rattle.std.proofs.Common.{◌<◌, ◌+◌, ◌∙◌, length, ap, sym, arith}
use Rattle.std.specs.Option.{option_or}
use Rattle.gql_ast.specs.NumberLiterals.{numbers_in_insert}
use Rattle.gql_text.proofs.FindLemmas.{found, in_item}
use Rattle.gql_text.proofs.wide.changes.in_inserts.Goals as goal

pub returns-in-Some : goal.returns-in-Some
returns-in-Some c =
    let below : c.loop-path.path-index < length c.args.paths.now = omega arith in
    let step = in_item numbers_in_insert c.args.paths.now c.loop-path.path-index c.path-item.result below c.path-item.is in
    ap (λ o. option_or o (found numbers_in_insert c.args.paths.now (c.loop-path.path-index + 1))) c.in-Some.ensures ∙ sym step ∙ c.loop-path.invariant

pub loop-path-preserved : goal.loop-path-preserved
loop-path-preserved c =
    let below : c.loop-path.path-index < length c.args.paths.now = omega arith in
    let step = in_item numbers_in_insert c.args.paths.now c.loop-path.path-index c.path-item.result below c.path-item.is in
    ap (λ o. option_or o (found numbers_in_insert c.args.paths.now (c.loop-path.path-index + 1))) c.in_default.ensures ∙ sym step ∙ c.loop-path.invariant
