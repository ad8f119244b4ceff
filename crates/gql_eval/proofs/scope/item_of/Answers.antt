use Rattle.std.proofs.Common.{◌∙◌, ◌+◌, ◌<◌, sym, ap, cond, Some, length, arith}
use Rattle.gql_eval.specs.Machinery.ScopeMeaning.{item_entry}
use Rattle.gql_eval.proofs.ScopeLemmas.{items_from, item_step}
use Rattle.gql_eval.proofs.scope.item_of.Goals as goal

pub returns-then-eq : goal.returns-then-eq
returns-then-eq c =
    let below : c.loop-i.i < length c.args.items.now = omega arith in
    let step = item_step c.args.items.now c.args.name.now c.loop-i.i c.index-items-i.result below c.index-items-i.is in
    ap (λ b. cond b (Some (item_entry c.index-items-i.result)) (items_from c.args.items.now c.args.name.now (c.loop-i.i + 1))) c.if-eq.ensures ∙ sym step ∙ c.loop-i.invariant

pub loop-i-preserved : goal.loop-i-preserved
loop-i-preserved c =
    let below : c.loop-i.i < length c.args.items.now = omega arith in
    let step = item_step c.args.items.now c.args.name.now c.loop-i.i c.index-items-i.result below c.index-items-i.is in
    ap (λ b. cond b (Some (item_entry c.index-items-i.result)) (items_from c.args.items.now c.args.name.now (c.loop-i.i + 1))) c.if-eq.ensures ∙ sym step ∙ c.loop-i.invariant
