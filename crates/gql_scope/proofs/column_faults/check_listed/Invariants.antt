use Rattle.std.proofs.Common.{◌≡◌, [], drop}
use Rattle.gql_scope.specs.ColumnFaults.{faults_in_list}
use Rattle.gql_expr_checks.specs.Refusals.{refusal_of_first}
use Rattle.gql_ast.specs.declared.refusal.Refusal.TheVariants as refusal
use Rattle.gql_expr_checks.specs.Machinery.Seen.{seen_names}
use Rattle.gql_scope.proofs.column_faults.check_listed.Given as goal

abbrev pub invariant-loop-item : goal.invariant-loop-item
invariant-loop-item l =
    refusal_of_first refusal.Column (faults_in_list l.scope (seen_names l.seen) (drop l.item-index l.items)) ≡ refusal_of_first refusal.Column (faults_in_list l.scope [] l.items)
