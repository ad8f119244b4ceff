use Rattle.std.proofs.Common.{◌<◌, length, arith}
use Rattle.gql_ast.specs.declared.page.SortItem.{SortItem}
use Rattle.gql_expr_checks.specs.ExprParameters.{parameters_of}
use Rattle.gql_norm.proofs.LoopLemmas.{unset_asked, stops_at, goes_past}
use Rattle.gql_scope.proofs.unset_parameters.check_keys.Goals as goal

pub returns-in_err-check_parameters : goal.returns-in_err-check_parameters
returns-in_err-check_parameters c =
    let below : c.loop-item.item-index < length c.args.keys.now = omega arith in
    stops_at (unset_asked c.args.params.now (λ (i : SortItem). parameters_of i.key)) c.args.keys.now c.loop-item.item-index c.item-item.result below c.item-item.is c.loop-item.invariant
    c.from_residual.result c.in_err-check_parameters.field-0.0 c.from_residual.ensures.0 c.from_residual.ensures.1 c.in_err-check_parameters.ensures

pub loop-item-preserved : goal.loop-item-preserved
loop-item-preserved c =
    let below : c.loop-item.item-index < length c.args.keys.now = omega arith in
    goes_past (unset_asked c.args.params.now (λ (i : SortItem). parameters_of i.key)) c.args.keys.now c.loop-item.item-index c.item-item.result below c.item-item.is c.loop-item.invariant c.in_ok-check_parameters.ensures
