use Rattle.std.proofs.Common.{◌≡◌, drop}
use Rattle.std.specs.List.{flat_map}
use Rattle.gql_expr_checks.specs.Refusals.{refusal_of_first}
use Rattle.gql_expr_checks.specs.ExprParameters.{unset, parameters_of}
use Rattle.gql_ast.specs.declared.refusal.Refusal.TheVariants as refusal
use Rattle.gql_ast.specs.declared.clause.LetItem.{LetItem}
use Rattle.gql_scope.proofs.unset_parameters.check_let.Given as goal

abbrev pub invariant-loop-item : goal.invariant-loop-item
invariant-loop-item l =
    refusal_of_first refusal.Parameter (unset l.params (flat_map (λ (i : LetItem). parameters_of i.value) (drop l.item-index l.items)))
    ≡ refusal_of_first refusal.Parameter (unset l.params (flat_map (λ (i : LetItem). parameters_of i.value) l.items))
