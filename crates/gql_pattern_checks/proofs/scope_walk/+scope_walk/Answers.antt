use Rattle.std.proofs.Common.{◌<◌, ◌+◌, ◌∙◌, ◌∷◌, false, length, map, drop, ap, sym, arith}
use Rattle.gql_norm.specs.NormalData.{part_data}
use Rattle.gql_norm.proofs.HeightLemmas.{height_le-highest_part}
use Rattle.gql_expr_checks.proofs.RefusalLemmas.{gives_fault, stops, goes_on}
use Rattle.gql_pattern_checks.specs.Machinery.Scopes.{with_part, with_parts}
use Rattle.gql_pattern_checks.specs.Machinery.ScopeWalk.{refused_in, refused_in_row}
use Rattle.gql_pattern_checks.specs.Machinery.Marks.{cut_to}
use Rattle.gql_pattern_checks.proofs.MarkLemmas.{parts_cut}
use Rattle.gql_pattern_checks.proofs.StepLemmas.{row_cut, added_cut, row_falls_further, union_falls_further}
use Rattle.gql_pattern_checks.proofs.scope_walk.+scope_walk.Goals as goal

pub check_part-check_row-requires : goal.check_part-check_row-requires
check_part-check_row-requires t c = (omega (arith, row_falls_further _ _ _ _ _ _ _ c.in-Concat.is c.part.ensures c.part-in-Concat.ensures c.as_slice.ensures), tt {0})

pub check_part-check_union-requires : goal.check_part-check_union-requires
check_part-check_union-requires t c = (omega (arith, union_falls_further _ _ _ _ _ _ _ c.in-Union.is c.part-in-Union.ensures c.part-in-Union-2.ensures c.as_slice-in-Union.ensures), tt {0})

pub check_steps-check_step-requires : goal.check_steps-check_step-requires
check_steps-check_step-requires t c =
    let parts = c.args.parts.now in
    let below : c.loop-part.part-index < length parts = omega arith in
    (omega (arith, height_le-highest_part parts c.loop-part.part-index c.part-item.result below c.part-item.is), tt {0})

pub check_sides-check_part-requires : goal.check_sides-check_part-requires
check_sides-check_part-requires t c =
    let parts = c.args.parts.now in
    let below : c.loop-part.part-index < length parts = omega arith in
    (omega (arith, height_le-highest_part parts c.loop-part.part-index c.part-item.result below c.part-item.is), tt {0})

pub check_steps-loop-part-preserved : goal.check_steps-loop-part-preserved
check_steps-loop-part-preserved t c =
    let q = c.args.walk.now.question in
    let columns = c.args.walk.now.columns.now in
    let parts = c.args.parts.now in
    let i = c.loop-part.part-index in
    let p = c.part-item.result in
    let s = c.loop-part.names in
    let rest = map part_data (drop (i + 1) parts) in
    let below : c.loop-part.part-index < length parts = omega arith in
    let whole = refused_in_row q columns c.args.names.now (map part_data parts) in
    record {
      faults = ap (λ t. refused_in_row q columns t rest) c.in_ok-check_step.ensures.added
          ∙ sym (goes_on (refused_in q columns s (part_data p)) (refused_in_row q columns (with_part false s (part_data p)) rest) whole c.in_ok-check_step.ensures.faults
          (row_cut q columns s whole parts i p below c.part-item.is c.loop-part.invariant.faults));
      added = added_cut s c.check_step.new.names parts i p below c.part-item.is c.in_ok-check_step.ensures.added ∙ c.loop-part.invariant.added;
    }

pub check_steps-returns-in_err-check_step-clause-faults : goal.check_steps-returns-in_err-check_step-clause-faults
check_steps-returns-in_err-check_step-clause-faults t c =
    let q = c.args.walk.now.question in
    let columns = c.args.walk.now.columns.now in
    let parts = c.args.parts.now in
    let i = c.loop-part.part-index in
    let p = c.part-item.result in
    let s = c.loop-part.names in
    let e = c.in_err-check_step.field-0.0 in
    let rest = map part_data (drop (i + 1) parts) in
    let below : c.loop-part.part-index < length parts = omega arith in
    let whole = refused_in_row q columns c.args.names.now (map part_data parts) in
    gives_fault c.from_residual.result e whole c.from_residual.ensures.0 c.from_residual.ensures.1
    (stops e (refused_in q columns s (part_data p)) (refused_in_row q columns (with_part false s (part_data p)) rest) whole c.in_err-check_step.ensures.faults
    (row_cut q columns s whole parts i p below c.part-item.is c.loop-part.invariant.faults))

pub check_row-returns-clause-kept : goal.check_row-returns-clause-kept
check_row-returns-clause-kept t c =
    let two = c.in_ok-check_step-2.ensures.added ∙ ap (λ s. with_part false s (part_data c.args.second.now)) c.in_ok-check_step.ensures.added in
    let all = c.in_ok-check_steps.ensures.added ∙ ap (λ s. with_parts false s (map part_data c.args.others.now)) two in
    c.cut.ensures ∙ (λ i. cut_to (c.marks-marks.ensures i) (all i))
    ∙ parts_cut c.args.names.now (part_data c.args.first.now ∷ part_data c.args.second.now ∷ map part_data c.args.others.now)
