use Rattle.std.specs.Prelude.{option_map}
use Rattle.std.proofs.Common.{◌≡◌, ◌∙◌, ◌-◌, ◌+◌, ◌<◌, ◌≤◌, suc, ap, sym, refl, length, take, map, arith, rules, Ok, Result}
use Rattle.gql_values3.specs.Datum.{Datum}
use Rattle.gql_values3.specs.Meaning.{datum_of}
use Rattle.gql_ast.specs.declared.fault.DataFault.{DataFault}
use Rattle.gql_ast.specs.Meaning.{tree_of}
use Rattle.gql_ast.specs.Scope.{with_item, datum_of_name, group_of}
use Rattle.gql_ast.specs.Faults.{each}
use Rattle.gql_ast.specs.Evaluation.{value_of, group_items}
use Rattle.gql_eval.specs.CowValue.{cow_datum}
use Rattle.gql_eval.specs.Gives.{Fails}
use Rattle.gql_eval.specs.Machinery.HeldGroup.{group_seen}
use Rattle.gql_eval.specs.Machinery.InstructionMeaning.{op_of, program_of}
use Rattle.gql_eval.specs.Machinery.Steps.{ran, ran_past}
use Rattle.gql_eval.specs.Machinery.Compiled.{compiled}
use Rattle.gql_eval.specs.Machinery.ScopeMeaning.{scope_of}
use Rattle.gql_eval.proofs.EvaluationLemmas.{with_values, with_none, with_more, each_from, each_step, aggregate_is, aggregate_then, no_aggregate, fails_next, fails_with}
use Rattle.gql_eval.proofs.ArgumentLemmas.{compiled_stands, stands_at, stands_past}
use Rattle.gql_eval.proofs.HeldNameLemmas.{group_held, pair_found, none_found}
use Rattle.gql_eval.proofs.TurnedLemmas.{turned_step}
use Rattle.gql_eval.proofs.ProgramLemmas.{prepared_value, step_done, step_failed, ran_past_first}
use Rattle.gql_eval.proofs.+running.Goals as goal

pub running::value_of_program-run-requires-after_bounds : goal.running::value_of_program-run-requires-after_bounds
running::value_of_program-run-requires-after_bounds g t c κs within =
    compiled_stands c.args.scope.now.columns.now c.args.scope.now.names.now c.args.params.now (tree_of c.args.expr.now) (program_of c.args.program.now) c.requires

pub running::value_of_program-returns : goal.running::value_of_program-returns
running::value_of_program-returns g t c = prepared_value (g.V.View.graph c.args.view.now) c.args.params.now c.args.scope.now _ (tree_of c.args.expr.now) _ c.run.ensures c.requires

pub running::run_on-run_instruction-requires-after_bounds : goal.running::run_on-run_instruction-requires-after_bounds
running::run_on-run_instruction-requires-after_bounds g t c κs within =
    let below : c.loop-left.left - 1 < length c.args.program.now = omega arith in
    let next : c.loop-left.left ≡ suc (c.loop-left.left - 1) = omega arith in
    let split = ap (λ n. program_of (take n c.args.program.now)) next ∙ turned_step op_of c.args.program.now (c.loop-left.left - 1) c.index-program-at.result below c.index-program-at.is in
    (stands_at c.args.scope.now.columns.now c.args.scope.now.names.now c.args.params.now (op_of c.index-program-at.result) (program_of (take (c.loop-left.left - 1) c.args.program.now)) _ split c.loop-left.invariant.stands).0

pub running::run_on-loop-left-preserved : goal.running::run_on-loop-left-preserved
running::run_on-loop-left-preserved g t c =
    let below : c.loop-left.left - 1 < length c.args.program.now = omega arith in
    let within : c.loop-left.left - 1 ≤ length c.args.program.now = omega arith in
    let next : c.loop-left.left ≡ suc (c.loop-left.left - 1) = omega arith in
    let split = ap (λ n. program_of (take n c.args.program.now)) next ∙ turned_step op_of c.args.program.now (c.loop-left.left - 1) c.index-program-at.result below c.index-program-at.is in
    let done = step_done (g.V.View.graph c.args.view.now) c.args.params.now c.args.scope.now (op_of c.index-program-at.result) (program_of (take (c.loop-left.left - 1) c.args.program.now)) _ c.loop-left.stack c.run_instruction.new.stack _ split c.in_ok-run_instruction.ensures c.loop-left.invariant.so_far in
    let jumped : c.saturating_sub-left.result ≡ c.loop-left.left - 1 - c.skipped-count.result = omega arith in
    let rest = (stands_at c.args.scope.now.columns.now c.args.scope.now.names.now c.args.params.now (op_of c.index-program-at.result) (program_of (take (c.loop-left.left - 1) c.args.program.now)) _ split c.loop-left.invariant.stands).1 in
    record {
      within = omega arith;
      stands = rw jumped (stands_past c.args.scope.now.columns.now c.args.scope.now.names.now c.args.params.now c.args.program.now (c.loop-left.left - 1) c.skipped-count.result within rest);
      so_far = ap (λ n. ran (g.V.View.graph c.args.view.now) c.args.params.now c.args.scope.now (program_of (take n c.args.program.now)) c.run_instruction.new.stack) jumped
          ∙ sym (ran_past_first (g.V.View.graph c.args.view.now) c.args.params.now c.args.scope.now c.args.program.now (c.loop-left.left - 1) c.skipped-count.result c.run_instruction.new.stack within)
          ∙ ap (λ n. ran_past (g.V.View.graph c.args.view.now) c.args.params.now c.args.scope.now (program_of (take (c.loop-left.left - 1) c.args.program.now)) n c.run_instruction.new.stack) c.skipped-count.ensures ∙ done;
    }

pub running::run_on-returns-in_err-run_instruction : goal.running::run_on-returns-in_err-run_instruction
running::run_on-returns-in_err-run_instruction g t c =
    let below : c.loop-left.left - 1 < length c.args.program.now = omega arith in
    let next : c.loop-left.left ≡ suc (c.loop-left.left - 1) = omega arith in
    let split = ap (λ n. program_of (take n c.args.program.now)) next ∙ turned_step op_of c.args.program.now (c.loop-left.left - 1) c.index-program-at.result below c.index-program-at.is in
    let failed : Fails c.in_err-run_instruction.field-0.0 (ran (g.V.View.graph c.args.view.now) c.args.params.now c.args.scope.now (program_of c.args.program.now) c.args.stack.now) =
    step_failed (g.V.View.graph c.args.view.now) c.args.params.now c.args.scope.now (op_of c.index-program-at.result) (program_of (take (c.loop-left.left - 1) c.args.program.now)) _ c.loop-left.stack _ c.in_err-run_instruction.field-0.0 split c.in_err-run_instruction.ensures c.loop-left.invariant.so_far in
    search rules

pub over_groups::over_group-returns-in_default : goal.over_groups::over_group-returns-in_default
over_groups::over_group-returns-in_default g t c =
    let held = group_held c.args.scope.now c.args.params.now (program_of c.args.steps.now) (tree_of c.args.part.now) c.requires in
    no_aggregate (g.V.View.graph c.args.view.now) c.args.params.now (scope_of c.args.scope.now) c.args.word c.args.quantifier (tree_of c.args.part.now)
    (none_found (datum_of_name (scope_of c.args.scope.now)) (group_of (scope_of c.args.scope.now) (tree_of c.args.part.now)) (ap (λ o. option_map group_seen o) (sym c.in_default.is) ∙ c.in_ok-group.ensures ∙ held))

pub over_groups::over_group-returns-in_err-values : goal.over_groups::over_group-returns-in_err-values
over_groups::over_group-returns-in_err-values g t c =
    let held = group_held c.args.scope.now c.args.params.now (program_of c.args.steps.now) (tree_of c.args.part.now) c.requires in
    let found = pair_found (datum_of_name (scope_of c.args.scope.now)) (group_of (scope_of c.args.scope.now) (tree_of c.args.part.now)) (group_seen c.in-Some.group) (ap (λ o. option_map group_seen o) (sym c.in-Some.is) ∙ c.in_ok-group.ensures ∙ held) in
    rw (aggregate_is (g.V.View.graph c.args.view.now) c.args.params.now (scope_of c.args.scope.now) c.args.word c.args.quantifier (tree_of c.args.part.now) c.in-Some.group.name.now (map datum_of c.items_in-items.result.now)
    found.0 (c.items_in-items.ensures ∙ ap group_items (c.value.ensures ∙ found.1))) (search rules)

pub over_groups::over_group-returns : goal.over_groups::over_group-returns
over_groups::over_group-returns g t c =
    let held = group_held c.args.scope.now c.args.params.now (program_of c.args.steps.now) (tree_of c.args.part.now) c.requires in
    let found = pair_found (datum_of_name (scope_of c.args.scope.now)) (group_of (scope_of c.args.scope.now) (tree_of c.args.part.now)) (group_seen c.in-Some.group) (ap (λ o. option_map group_seen o) (sym c.in-Some.is) ∙ c.in_ok-group.ensures ∙ held) in
    let given = rw c.as_slice.ensures at c.aggregate.ensures in
    rw (aggregate_then (g.V.View.graph c.args.view.now) c.args.params.now (scope_of c.args.scope.now) c.args.word c.args.quantifier (tree_of c.args.part.now) c.in-Some.group.name.now (map datum_of c.items_in-items.result.now) c.in_ok-values.values
    found.0 (c.items_in-items.ensures ∙ ap group_items (c.value.ensures ∙ found.1)) c.in_ok-values.ensures) given

pub over_groups::over_items-value_of_program-requires-after_bounds : goal.over_groups::over_items-value_of_program-requires-after_bounds
over_groups::over_items-value_of_program-requires-after_bounds g t c κs within =
    rw (c.under-inner.ensures.columns, c.under-inner.ensures.names) c.requires

pub over_groups::over_items-returns-in_err-value : goal.over_groups::over_items-returns-in_err-value
unfolding scope_of
over_groups::over_items-returns-in_err-value g t c =
    let below : c.loop-i.i < length c.args.items.now = omega arith in
    let value : Datum → Result Datum DataFault = λ item. value_of (g.V.View.graph c.args.view.now) c.args.params.now (with_item (scope_of c.args.scope.now) c.args.name.now item) (tree_of c.args.part.now) in
    let item = c.index-items-i.result in
    let inner : scope_of c.under-inner.result ≡ with_item (scope_of c.args.scope.now) c.args.name.now (datum_of item) = rw (c.under-inner.ensures.scope, c.as_slice.ensures.value, c.in_ok-front.ensures, c.as_str.ensures) refl in
    let failed : Fails c.in_err-value.field-0.0 (value (datum_of item)) = rw inner at c.in_err-value.ensures in
    let whole : Fails c.in_err-value.field-0.0 (each value (map datum_of c.args.items.now)) =
    rw (← c.loop-i.invariant) (fails_with _ c.loop-i.values _ (rw (each_step value c.args.items.now c.loop-i.i item below c.index-items-i.is) (fails_next _ (value (datum_of item)) _ failed))) in
    search rules

pub over_groups::over_items-loop-i-preserved : goal.over_groups::over_items-loop-i-preserved
unfolding scope_of
over_groups::over_items-loop-i-preserved g t c =
    let below : c.loop-i.i < length c.args.items.now = omega arith in
    let value : Datum → Result Datum DataFault = λ item. value_of (g.V.View.graph c.args.view.now) c.args.params.now (with_item (scope_of c.args.scope.now) c.args.name.now item) (tree_of c.args.part.now) in
    let item = c.index-items-i.result in
    let inner : scope_of c.under-inner.result ≡ with_item (scope_of c.args.scope.now) c.args.name.now (datum_of item) = rw (c.under-inner.ensures.scope, c.as_slice.ensures.value, c.in_ok-front.ensures, c.as_str.ensures) refl in
    let held : value (datum_of item) ≡ Ok (cow_datum c.in_ok-value.value) = rw inner at c.in_ok-value.ensures in
    let given : value (datum_of item) ≡ Ok (datum_of c.in_ok-into_value.field-0) = held ∙ ap Ok (sym c.in_ok-into_value.ensures) in
    let more = each_from value c.args.items.now (c.loop-i.i + 1) in
    rw c.in_ok-push.ensures.ok (with_more c.loop-i.values (value (datum_of item)) (datum_of c.in_ok-into_value.field-0) more given
    ∙ ap (λ r. with_values c.loop-i.values r) (sym (each_step value c.args.items.now c.loop-i.i item below c.index-items-i.is)) ∙ c.loop-i.invariant)
