use Rattle.std.proofs.Common.{◌≡◌, drop}
use Rattle.std.specs.List.{flat_map}
use Rattle.gql_expr_checks.specs.Refusals.{refusal_of_first}
use Rattle.gql_expr_checks.specs.ExprNames.{unknown_in_expr}
use Rattle.gql_ast.specs.declared.refusal.Refusal.TheVariants as refusal
use Rattle.gql_ast.specs.declared.page.SortItem.{SortItem}
use Rattle.gql_scope.proofs.unknown_names.check_keys.Given as goal

abbrev pub invariant-loop-item : goal.invariant-loop-item
invariant-loop-item l =
    refusal_of_first refusal.Variable (flat_map (λ (i : SortItem). unknown_in_expr l.scope i.key) (drop l.item-index l.keys))
    ≡ refusal_of_first refusal.Variable (flat_map (λ (i : SortItem). unknown_in_expr l.scope i.key) l.keys)
