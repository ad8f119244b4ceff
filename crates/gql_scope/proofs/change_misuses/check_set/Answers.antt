use Rattle.std.proofs.Common.{◌<◌, length, arith}
use Rattle.gql_norm.proofs.LoopLemmas.{misuses_asked, stops_at}
use Rattle.gql_scope.specs.Misuses.{misused_set}
use Rattle.gql_scope.proofs.change_misuses.check_set.Goals as goal

pub returns-in_err-check_set_item : goal.returns-in_err-check_set_item
returns-in_err-check_set_item c =
    let below : c.loop-item.item-index < length c.args.items.now = omega arith in
    stops_at (misuses_asked (misused_set c.args.scope.now)) c.args.items.now c.loop-item.item-index c.item-item.result below c.item-item.is c.loop-item.invariant
    c.from_residual.result c.in_err-check_set_item.field-0.0 c.from_residual.ensures.0 c.from_residual.ensures.1 c.in_err-check_set_item.ensures
