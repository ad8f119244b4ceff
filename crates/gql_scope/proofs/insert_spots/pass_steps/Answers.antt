use Rattle.std.proofs.Common.{◌<◌, ◌++◌, length, arith}
use Rattle.std.specs.List.{flat_map}
use Rattle.gql_ast.specs.InsertColumns.{step_spots}
use Rattle.gql_expr_checks.proofs.RefusalLemmas.{gives_fault}
use Rattle.gql_scope.specs.Machinery.Questions.{first_in_spots, unknown_at}
use Rattle.gql_scope.proofs.SpotLemmas.{spots_stop, stands_further}
use Rattle.gql_scope.proofs.insert_spots.pass_steps.Goals as goal

pub returns-in_err-pass_step-clause-names : goal.returns-in_err-pass_step-clause-names
returns-in_err-pass_step-clause-names c =
    let incoming = c.args.incoming.now in
    let e = c.in_err-pass_step.field-0.0 in
    let below : c.loop-step.step-index < length c.args.steps.now = omega arith in
    let whole = first_in_spots (unknown_at incoming) (incoming ++ c.args.fresh.now) (flat_map step_spots c.args.steps.now) in
    gives_fault c.from_residual.result e whole c.from_residual.ensures.0 c.from_residual.ensures.1
    (spots_stop step_spots c.args.steps.now c.loop-step.step-index c.step-item.result (incoming ++ c.loop-step.fresh) below c.step-item.is (unknown_at incoming) whole e
    c.loop-step.invariant.names c.in_err-pass_step.ensures.names)

pub loop-step-preserved : goal.loop-step-preserved
loop-step-preserved c =
    let below : c.loop-step.step-index < length c.args.steps.now = omega arith in
    stands_further step_spots c.args.steps.now c.loop-step.step-index c.step-item.result c.args.incoming.now c.args.fresh.now c.loop-step.fresh c.pass_step.new.fresh c.args.kinds.now c.loop-step.kinds c.pass_step.new.kinds
    below c.step-item.is c.loop-step.invariant c.in_ok-pass_step.ensures.names c.in_ok-pass_step.ensures.kinds c.in_ok-pass_step.ensures.columns
