use Rattle.std.proofs.Common.{◌<◌, length, arith}
use Rattle.gql_ast.specs.declared.refusal.Refusal.TheVariants as refusal
use Rattle.gql_norm.proofs.LoopLemmas.{lists_asked, stops_at}
use Rattle.gql_scope.specs.WrongKinds.{wrong_target}
use Rattle.gql_scope.proofs.change_kinds.check_delete.Goals as goal

pub returns-in_err-check_target : goal.returns-in_err-check_target
returns-in_err-check_target c =
    let below : c.loop-name.name-index < length c.args.names.now = omega arith in
    stops_at (lists_asked refusal.Kind (wrong_target c.args.scope.now)) c.args.names.now c.loop-name.name-index c.name-item.result below c.name-item.is c.loop-name.invariant
    c.from_residual.result c.in_err-check_target.field-0.0 c.from_residual.ensures.0 c.from_residual.ensures.1 c.in_err-check_target.ensures
