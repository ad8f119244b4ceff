use Rattle.std.proofs.Common.{◌≡◌, drop}
use Rattle.gql_scope.specs.ColumnFaults.{omitted}
use Rattle.gql_expr_checks.specs.Refusals.{refusal_of_first}
use Rattle.gql_ast.specs.declared.refusal.Refusal.TheVariants as refusal
use Rattle.gql_expr_checks.specs.Machinery.Seen.{names_of}
use Rattle.gql_scope.proofs.grouping.check_omitted.Given as goal

abbrev pub invariant-loop-key : goal.invariant-loop-key
invariant-loop-key l =
    refusal_of_first refusal.Column (omitted l.scope (names_of (drop l.key-index l.keys)) (names_of l.named)) ≡ refusal_of_first refusal.Column (omitted l.scope (names_of l.keys) (names_of l.named))
