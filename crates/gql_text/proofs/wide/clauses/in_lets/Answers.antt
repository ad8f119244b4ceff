use Rattle.std.proofs.Common.{◌<◌, ◌+◌, ◌∙◌, length, ap, sym, arith}
use Rattle.std.specs.Option.{option_or}
use Rattle.gql_ast.specs.NumberLiterals.{numbers_in_let}
use Rattle.gql_text.proofs.FindLemmas.{found, in_item}
use Rattle.gql_text.proofs.wide.clauses.in_lets.Goals as goal

pub returns-in-Some : goal.returns-in-Some
returns-in-Some c =
    let below : c.loop-item.item-index < length c.args.items.now = omega arith in
    let step = in_item numbers_in_let c.args.items.now c.loop-item.item-index c.item-item.result below c.item-item.is in
    ap (λ o. option_or o (found numbers_in_let c.args.items.now (c.loop-item.item-index + 1))) c.in-Some.ensures ∙ sym step ∙ c.loop-item.invariant

pub loop-item-preserved : goal.loop-item-preserved
loop-item-preserved c =
    let below : c.loop-item.item-index < length c.args.items.now = omega arith in
    let step = in_item numbers_in_let c.args.items.now c.loop-item.item-index c.item-item.result below c.item-item.is in
    ap (λ o. option_or o (found numbers_in_let c.args.items.now (c.loop-item.item-index + 1))) c.in_default.ensures ∙ sym step ∙ c.loop-item.invariant
