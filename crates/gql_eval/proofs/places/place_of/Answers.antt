use Rattle.std.proofs.Common.{◌≡◌, ◌∙◌, ◌+◌, ◌<◌, sym, ap, cond, Some, length, drop, arith}
use Rattle.gql_eval.proofs.HeadingLemmas.{placed, placed_step, none_placed, from_first}
use Rattle.gql_eval.proofs.places.place_of.Goals as goal

pub returns-then-eq : goal.returns-then-eq
returns-then-eq c =
    let below : c.loop-i.i < length c.args.columns.now = omega arith in
    let test = rw c.as_str.ensures at c.if-eq.ensures in
    ap (λ b. cond b (Some c.loop-i.i) (placed (c.loop-i.i + 1) (drop (c.loop-i.i + 1) c.args.columns.now) c.args.name.now)) test
    ∙ sym (placed_step c.args.columns.now c.loop-i.i c.index-columns-i.result c.args.name.now below c.index-columns-i.is) ∙ c.loop-i.invariant
    ∙ from_first c.args.columns.now c.args.name.now

pub loop-i-preserved : goal.loop-i-preserved
loop-i-preserved c =
    let below : c.loop-i.i < length c.args.columns.now = omega arith in
    let test = rw c.as_str.ensures at c.if-eq.ensures in
    ap (λ b. cond b (Some c.loop-i.i) (placed (c.loop-i.i + 1) (drop (c.loop-i.i + 1) c.args.columns.now) c.args.name.now)) test
    ∙ sym (placed_step c.args.columns.now c.loop-i.i c.index-columns-i.result c.args.name.now below c.index-columns-i.is) ∙ c.loop-i.invariant

pub returns : goal.returns
returns c =
    let over : length c.args.columns.now ≡ c.loop-i.i = omega arith in
    sym (none_placed c.args.columns.now c.loop-i.i c.args.name.now over) ∙ c.loop-i.invariant ∙ from_first c.args.columns.now c.args.name.now
