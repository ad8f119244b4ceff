use Rattle.std.proofs.Common.{◌≡◌, map, flat_map, drop}
use Rattle.gql_ast.specs.declared.refusal.Refusal.TheVariants as refusal
use Rattle.gql_expr_checks.specs.ExprParameters.{parameters_in, unset}
use Rattle.gql_expr_checks.specs.Refusals.{refusal_of_first}
use Rattle.gql_norm.specs.NormalData.{predicate_data}
use Rattle.gql_norm.specs.PredicateSpot.{tree_in}
use Rattle.gql_pattern_checks.proofs.parameters.check_predicates.Given as goal

abbrev pub invariant-loop-predicate : goal.invariant-loop-predicate
invariant-loop-predicate l =
    refusal_of_first refusal.Parameter (unset l.params (flat_map parameters_in (map tree_in (map predicate_data (drop l.predicate-index l.predicates)))))
    ≡ refusal_of_first refusal.Parameter (unset l.params (flat_map parameters_in (map tree_in (map predicate_data l.predicates))))
