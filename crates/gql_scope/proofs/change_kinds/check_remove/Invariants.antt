use Rattle.std.proofs.Common.{◌≡◌, drop}
use Rattle.std.specs.List.{flat_map}
use Rattle.gql_expr_checks.specs.Refusals.{refusal_of_first}
use Rattle.gql_scope.specs.WrongKinds.{wrong_target, remove_target}
use Rattle.gql_ast.specs.declared.change.RemoveItem.{RemoveItem}
use Rattle.gql_ast.specs.declared.refusal.Refusal.TheVariants as refusal
use Rattle.gql_scope.proofs.change_kinds.check_remove.Given as goal

abbrev pub invariant-loop-item : goal.invariant-loop-item
invariant-loop-item l =
    refusal_of_first refusal.Kind (flat_map (λ (i : RemoveItem). wrong_target l.scope (remove_target i)) (drop l.item-index l.items))
    ≡ refusal_of_first refusal.Kind (flat_map (λ (i : RemoveItem). wrong_target l.scope (remove_target i)) l.items)
