use Rattle.std.proofs.Common.{◌≡◌, map, drop}
use Rattle.gql_norm.specs.NormalData.{predicate_data}
use Rattle.gql_norm.specs.PredicateSpot.{tree_in}
use Rattle.gql_pattern_checks.specs.Machinery.ScopeWalk.{refused_of}
use Rattle.gql_pattern_checks.proofs.scoped.ask_predicates.Given as goal

abbrev pub invariant-loop-predicate : goal.invariant-loop-predicate
invariant-loop-predicate l =
    refused_of l.walk.question l.walk.columns.now l.names (map tree_in (map predicate_data (drop l.predicate-index l.predicates)))
    ≡ refused_of l.walk.question l.walk.columns.now l.names (map tree_in (map predicate_data l.predicates))
