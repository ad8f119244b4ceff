use Rattle.std.proofs.Common.{◌<◌, length, arith}
use Rattle.std.specs.List.{flat_map}
use Rattle.gql_ast.specs.InsertColumns.{step_spots}
use Rattle.gql_scope.specs.Machinery.Questions.{first_in_maps}
use Rattle.gql_scope.proofs.MapLemmas.{maps_stop, maps_go_on}
use Rattle.gql_expr_checks.proofs.RefusalLemmas.{gives_fault}
use Rattle.gql_scope.proofs.insert_maps.check_steps.Goals as goal

pub returns-in_err-check_step : goal.returns-in_err-check_step
returns-in_err-check_step c =
    let q = c.args.question.now in
    let e = c.in_err-check_step.field-0.0 in
    let below : c.loop-step.step-index < length c.args.steps.now = omega arith in
    let whole = first_in_maps q (flat_map step_spots c.args.steps.now) in
    gives_fault c.from_residual.result e whole c.from_residual.ensures.0 c.from_residual.ensures.1
    (maps_stop q step_spots c.args.steps.now c.loop-step.step-index c.step-item.result whole e below c.step-item.is c.loop-step.invariant c.in_err-check_step.ensures)

pub loop-step-preserved : goal.loop-step-preserved
loop-step-preserved c =
    let q = c.args.question.now in
    let below : c.loop-step.step-index < length c.args.steps.now = omega arith in
    let whole = first_in_maps q (flat_map step_spots c.args.steps.now) in
    maps_go_on q step_spots c.args.steps.now c.loop-step.step-index c.step-item.result whole below c.step-item.is c.loop-step.invariant c.in_ok-check_step.ensures
