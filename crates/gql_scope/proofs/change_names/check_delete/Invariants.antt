use Rattle.std.proofs.Common.{◌≡◌, drop}
use Rattle.std.specs.List.{flat_map}
use Rattle.gql_expr_checks.specs.Refusals.{refusal_of_first}
use Rattle.gql_scope.specs.UnknownNames.{missing}
use Rattle.gql_ast.specs.declared.refusal.Refusal.TheVariants as refusal
use Rattle.gql_scope.proofs.change_names.check_delete.Given as goal

abbrev pub invariant-loop-name : goal.invariant-loop-name
invariant-loop-name l =
    refusal_of_first refusal.Variable (flat_map (missing l.scope) (drop l.name-index l.names)) ≡ refusal_of_first refusal.Variable (flat_map (missing l.scope) l.names)
