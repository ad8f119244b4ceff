use Rattle.std.proofs.Common.{◌≡◌, drop}
use Rattle.std.specs.List.{flat_map}
use Rattle.gql_expr_checks.specs.Refusals.{refusal_of_first}
use Rattle.gql_expr_checks.specs.ExprParameters.{unset}
use Rattle.gql_scope.specs.UnsetParameters.{parameters_of_set}
use Rattle.gql_ast.specs.declared.refusal.Refusal.TheVariants as refusal
use Rattle.gql_scope.proofs.change_parameters.check_set.Given as goal

abbrev pub invariant-loop-item : goal.invariant-loop-item
invariant-loop-item l =
    refusal_of_first refusal.Parameter (unset l.params (flat_map parameters_of_set (drop l.item-index l.items)))
    ≡ refusal_of_first refusal.Parameter (unset l.params (flat_map parameters_of_set l.items))
