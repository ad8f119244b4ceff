use Rattle.std.proofs.Common.{◌≡◌, [], map, flat_map, drop}
use Rattle.gql_expr_checks.specs.Machinery.Seen.{seen_names}
use Rattle.gql_expr_checks.specs.Repeated.{repeated}
use Rattle.gql_norm.specs.NormalData.{predicate_data}
use Rattle.gql_norm.specs.PredicateSpot.{property_in}
use Rattle.gql_pattern_checks.specs.Machinery.Questions.{second_naming}
use Rattle.gql_pattern_checks.proofs.properties.check_predicates.Given as goal

abbrev pub invariant-loop-predicate : goal.invariant-loop-predicate
invariant-loop-predicate l =
    second_naming (repeated (seen_names l.seen) (flat_map property_in (map predicate_data (drop l.predicate-index l.predicates))))
    ≡ second_naming (repeated [] (flat_map property_in (map predicate_data l.predicates)))
