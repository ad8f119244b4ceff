use Rattle.std.proofs.Common.{◌<◌, length, arith}
use Rattle.gql_ast.specs.declared.refusal.Refusal.TheVariants as refusal
use Rattle.gql_norm.proofs.LoopLemmas.{lists_asked, stops_at}
use Rattle.gql_scope.specs.UnknownNames.{unknown_in_set}
use Rattle.gql_scope.proofs.change_names.check_set.Goals as goal

pub returns-in_err-check_set_item : goal.returns-in_err-check_set_item
returns-in_err-check_set_item c =
    let below : c.loop-item.item-index < length c.args.items.now = omega arith in
    stops_at (lists_asked refusal.Variable (unknown_in_set c.args.scope.now)) c.args.items.now c.loop-item.item-index c.item-item.result below c.item-item.is c.loop-item.invariant
    c.from_residual.result c.in_err-check_set_item.field-0.0 c.from_residual.ensures.0 c.from_residual.ensures.1 c.in_err-check_set_item.ensures
