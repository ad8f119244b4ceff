use Rattle.std.proofs.Common.{◌≡◌, drop}
use Rattle.std.specs.List.{flat_map}
use Rattle.gql_expr_checks.specs.Refusals.{refusal_of_first}
use Rattle.gql_scope.specs.WrongKinds.{wrong_target, set_target}
use Rattle.gql_ast.specs.declared.change.SetItem.{SetItem}
use Rattle.gql_ast.specs.declared.refusal.Refusal.TheVariants as refusal
use Rattle.gql_scope.proofs.change_kinds.check_set.Given as goal

abbrev pub invariant-loop-item : goal.invariant-loop-item
invariant-loop-item l =
    refusal_of_first refusal.Kind (flat_map (λ (i : SetItem). wrong_target l.scope (set_target i)) (drop l.item-index l.items))
    ≡ refusal_of_first refusal.Kind (flat_map (λ (i : SetItem). wrong_target l.scope (set_target i)) l.items)
