use Rattle.std.proofs.Common.{◌≡◌, drop}
use Rattle.std.specs.List.{flat_map}
use Rattle.gql_expr_checks.specs.Refusals.{refusal_of_first}
use Rattle.gql_scope.specs.UnknownNames.{unknown_in_set}
use Rattle.gql_ast.specs.declared.refusal.Refusal.TheVariants as refusal
use Rattle.gql_scope.proofs.change_names.check_set.Given as goal

abbrev pub invariant-loop-item : goal.invariant-loop-item
invariant-loop-item l =
    refusal_of_first refusal.Variable (flat_map (unknown_in_set l.scope) (drop l.item-index l.items)) ≡ refusal_of_first refusal.Variable (flat_map (unknown_in_set l.scope) l.items)
