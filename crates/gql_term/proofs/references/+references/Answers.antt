use Rattle.std.proofs.Common.{◌≡◌, ◌<◌, ◌+◌, ◌∙◌, ap, sym, length, map, take, drop, Some, None, arith}
use Rattle.std.specs.Option.{option_or}
use Rattle.gql_norm.specs.NormalData.{part_data}
use Rattle.gql_norm.proofs.HeightLemmas.{row_falls, union_falls, height_le-highest_part}
use Rattle.gql_term.specs.Machinery.BarredNames.{barred_by}
use Rattle.gql_term.specs.Machinery.OpenReferences.{barred_behind, barred_behind_all, first_barred, first_barred_row}
use Rattle.gql_term.proofs.BeforeLemmas.{barred_by_part, barred_by_parts}
use Rattle.gql_term.proofs.DeclaringLemmas.{behind_none}
use Rattle.gql_term.proofs.FirstBarredLemmas.{behind_barred, row_step}
use Rattle.gql_term.proofs.references.+references.Goals as goal

pub first_in-in_row-requires : goal.first_in-in_row-requires
first_in-in_row-requires t c = (omega (arith, row_falls _ _ _ _ _ _ _ c.in-Concat.is c.part.ensures c.part-in-Concat.ensures c.as_slice.ensures), tt {0})

pub first_in-beside-requires : goal.first_in-beside-requires
first_in-beside-requires t c = (omega (arith, union_falls _ _ _ _ _ _ _ c.in-Union.is c.part-in-Union.ensures c.part-in-Union-2.ensures c.as_slice-in-Union.ensures), tt {0})

pub row-first_in-requires : goal.row-first_in-requires
row-first_in-requires t c =
    let parts = c.args.parts.now in
    let below : c.loop-i.i < length parts = omega arith in
    (omega (arith, height_le-highest_part parts c.loop-i.i c.index-parts-i.result below c.index-parts-i.is), tt {0})

pub sides-first_in-requires : goal.sides-first_in-requires
sides-first_in-requires t c =
    let parts = c.args.parts.now in
    let below : c.loop-i.i < length parts = omega arith in
    (omega (arith, height_le-highest_part parts c.loop-i.i c.index-parts-i.result below c.index-parts-i.is), tt {0})

pub row-loop-i-init : goal.row-loop-i-init
row-loop-i-init t c = ap (first_barred_row (map part_data c.args.parts.now) c.args.is_safe) (behind_none (barred_by c.args.before.now) c.args.is_safe)

pub row-returns-in-Some : goal.row-returns-in-Some
row-returns-in-Some t c =
    let parts = c.args.parts.now in
    let barred = barred_by c.args.before.now in
    let below : c.loop-i.i < length parts = omega arith in
    let here = barred_behind_all barred c.args.is_safe (map part_data (take c.loop-i.i parts)) in
    let rest = first_barred_row (map part_data (drop (c.loop-i.i + 1) parts)) c.args.is_safe (barred_behind_all barred c.args.is_safe (map part_data (take (c.loop-i.i + 1) parts))) in
    let found : Some c.in-Some.name.now ≡ first_barred (part_data c.index-parts-i.result) c.args.is_safe here = c.in-Some.ensures ∙ ap (first_barred (part_data c.index-parts-i.result) c.args.is_safe) (barred_by_parts _ _ _) in
    ap (λ o. option_or o rest) found
    ∙ sym (row_step barred c.args.is_safe parts c.loop-i.i c.index-parts-i.result below c.index-parts-i.is)
    ∙ c.loop-i.invariant

pub row-loop-i-preserved : goal.row-loop-i-preserved
row-loop-i-preserved t c =
    let parts = c.args.parts.now in
    let barred = barred_by c.args.before.now in
    let below : c.loop-i.i < length parts = omega arith in
    let here = barred_behind_all barred c.args.is_safe (map part_data (take c.loop-i.i parts)) in
    let rest = first_barred_row (map part_data (drop (c.loop-i.i + 1) parts)) c.args.is_safe (barred_behind_all barred c.args.is_safe (map part_data (take (c.loop-i.i + 1) parts))) in
    let found : None ≡ first_barred (part_data c.index-parts-i.result) c.args.is_safe here = c.in_default.ensures ∙ ap (first_barred (part_data c.index-parts-i.result) c.args.is_safe) (barred_by_parts _ _ _) in
    ap (λ o. option_or o rest) found
    ∙ sym (row_step barred c.args.is_safe parts c.loop-i.i c.index-parts-i.result below c.index-parts-i.is)
    ∙ c.loop-i.invariant

pub behind-returns-in-None : goal.behind-returns-in-None
behind-returns-in-None t c =
    let first = part_data c.args.first.now in
    let others = map part_data c.args.others.now in
    let barred = barred_by c.args.before.now in
    let rest = first_barred_row others c.args.is_safe (barred_behind barred c.args.is_safe first) in
    c.row.ensures
    ∙ ap (first_barred_row others c.args.is_safe) (barred_by_part _ _ _)
    ∙ ap (λ o. option_or o rest) c.in-None.ensures
    ∙ sym (behind_barred first others c.args.is_safe barred)
