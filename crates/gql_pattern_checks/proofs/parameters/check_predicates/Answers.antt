use Rattle.std.proofs.Common.{ℕ, ◌<◌, List, length, map, flat_map, arith}
use Rattle.gql_values3.specs.Datum.{Datum}
use Rattle.gql_ast.specs.declared.refusal.Refusal.TheVariants as refusal
use Rattle.gql_expr_checks.specs.ExprParameters.{parameters_in, unset}
use Rattle.gql_expr_checks.specs.Refusals.{refusal_of_first}
use Rattle.gql_norm.proofs.LoopLemmas.{IsAsked, stops_at, goes_past}
use Rattle.gql_expr_checks.proofs.RefusalLemmas.{unset_of_two}
use Rattle.gql_norm.specs.NormalData.{predicate_data}
use Rattle.gql_norm.specs.PredicateSpot.{tree_in}
use Rattle.gql_pattern_checks.proofs.parameters.check_predicates.Goals as goal

asked : (params : List (List ℕ × Datum)) → IsAsked (λ i. refusal_of_first refusal.Parameter (unset params (parameters_in (tree_in (predicate_data i)))))
    (λ is. refusal_of_first refusal.Parameter (unset params (flat_map parameters_in (map tree_in (map predicate_data is)))))
asked params = record { first = λ i is. unset_of_two params (parameters_in (tree_in (predicate_data i))) (flat_map parameters_in (map tree_in (map predicate_data is))) }

pub returns-in_err-check_predicate : goal.returns-in_err-check_predicate
returns-in_err-check_predicate c =
    let below : c.loop-predicate.predicate-index < length c.args.predicates.now = omega arith in
    stops_at (asked c.args.params.now) c.args.predicates.now c.loop-predicate.predicate-index c.predicate-item.result below c.predicate-item.is c.loop-predicate.invariant
    c.from_residual.result c.in_err-check_predicate.field-0.0 c.from_residual.ensures.0 c.from_residual.ensures.1 c.in_err-check_predicate.ensures

pub loop-predicate-preserved : goal.loop-predicate-preserved
loop-predicate-preserved c =
    let below : c.loop-predicate.predicate-index < length c.args.predicates.now = omega arith in
    goes_past (asked c.args.params.now) c.args.predicates.now c.loop-predicate.predicate-index c.predicate-item.result below c.predicate-item.is c.loop-predicate.invariant c.in_ok-check_predicate.ensures
