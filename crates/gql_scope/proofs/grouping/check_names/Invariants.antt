use Rattle.std.proofs.Common.{◌≡◌, [], drop}
use Rattle.gql_scope.specs.ColumnFaults.{faults_in_names}
use Rattle.gql_expr_checks.specs.Refusals.{refusal_of_first}
use Rattle.gql_ast.specs.declared.refusal.Refusal.TheVariants as refusal
use Rattle.gql_expr_checks.specs.Machinery.Seen.{names_of, seen_names}
use Rattle.gql_scope.proofs.grouping.check_names.Given as goal

abbrev pub invariant-loop-name : goal.invariant-loop-name
invariant-loop-name l =
    refusal_of_first refusal.Column (faults_in_names l.scope (names_of l.keys) (seen_names l.seen) (drop l.name-index l.names))
    ≡ refusal_of_first refusal.Column (faults_in_names l.scope (names_of l.keys) [] l.names)
