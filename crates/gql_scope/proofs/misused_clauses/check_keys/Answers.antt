use Rattle.std.proofs.Common.{◌<◌, length, arith}
use Rattle.gql_ast.specs.declared.page.SortItem.{SortItem}
use Rattle.gql_expr_checks.specs.ExprMisuses.{misused_expr, elsewhere}
use Rattle.gql_norm.proofs.LoopLemmas.{misuses_asked, stops_at}
use Rattle.gql_scope.proofs.misused_clauses.check_keys.Goals as goal

pub returns-in_err-check_misuse : goal.returns-in_err-check_misuse
returns-in_err-check_misuse c =
    let below : c.loop-item.item-index < length c.args.keys.now = omega arith in
    stops_at (misuses_asked (λ (i : SortItem). misused_expr c.args.scope.now elsewhere i.key)) c.args.keys.now c.loop-item.item-index c.item-item.result below c.item-item.is c.loop-item.invariant
    c.from_residual.result c.in_err-check_misuse.field-0.0 c.from_residual.ensures.0 c.from_residual.ensures.1 c.in_err-check_misuse.ensures.gives
