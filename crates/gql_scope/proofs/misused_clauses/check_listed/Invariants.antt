use Rattle.std.proofs.Common.{◌≡◌, drop}
use Rattle.std.specs.List.{list_any}
use Rattle.gql_expr_checks.specs.Refusals.{misuse_if}
use Rattle.gql_expr_checks.specs.ExprMisuses.{misused_expr, item}
use Rattle.gql_ast.specs.declared.projection.ReturnItem.{ReturnItem}
use Rattle.gql_scope.proofs.misused_clauses.check_listed.Given as goal

abbrev pub invariant-loop-item : goal.invariant-loop-item
invariant-loop-item l =
    misuse_if (list_any (λ (i : ReturnItem). misused_expr l.scope item i.value) (drop l.item-index l.items))
    ≡ misuse_if (list_any (λ (i : ReturnItem). misused_expr l.scope item i.value) l.items)
