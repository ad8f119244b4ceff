use Rattle.std.proofs.Common.{◌≡◌, drop}
use Rattle.std.specs.List.{list_any}
use Rattle.gql_scope.specs.Misuses.{misused_set}
use Rattle.gql_expr_checks.specs.Refusals.{misuse_if}
use Rattle.gql_scope.proofs.change_misuses.check_set.Given as goal

abbrev pub invariant-loop-item : goal.invariant-loop-item
invariant-loop-item l = misuse_if (list_any (misused_set l.scope) (drop l.item-index l.items)) ≡ misuse_if (list_any (misused_set l.scope) l.items)
