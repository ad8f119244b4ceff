use Rattle.std.proofs.Common.{◌≡◌, ◌∙◌, ◌<◌, ◌+◌, ◌-◌, length, string_bytes, arith}
use Rattle.std.proofs.lemmas.Map.Text.{hash_map_updates_text}
use Rattle.gql_eval.proofs.HeadingLemmas.{placed_before, from_first}
use Rattle.gql_eval.proofs.heading.places_of.Goals as goal

pub loop-i-preserved : goal.loop-i-preserved
loop-i-preserved c = λ x.
    let below : c.loop-i.i - 1 < length c.args.columns.now = omega arith in
    let next : c.loop-i.i ≡ c.loop-i.i - 1 + 1 = omega arith in
    let named : string_bytes c.in_ok-from_str.field-0 ≡ c.index-columns-i.result.0 = c.in_ok-from_str.ensures.ok ∙ c.as_str.ensures in
    placed_before c.args.columns.now c.loop-i.i (c.loop-i.i - 1) c.index-columns-i.result _ x _ _ below next c.index-columns-i.is named (c.loop-i.invariant x)
    (hash_map_updates_text (string_bytes c.in_ok-from_str.field-0) c.loop-i.places c.insert.new.self _ c.in_ok-insert.ensures.updates x)

pub returns : goal.returns
returns c = λ x.
    let zero : c.loop-i.i ≡ 0 = omega arith in
    let all = rw zero at (c.loop-i.invariant x) in
    all ∙ from_first c.args.columns.now x
