use Rattle.std.proofs.Common.{◌≡◌, drop}
use Rattle.std.specs.Option.{option_or}
use Rattle.gql_ast.specs.ClauseColumns.{let_columns}
use Rattle.gql_expr_checks.specs.Refusals.{refusal_of_first, misuse_if}
use Rattle.gql_scope.specs.Misuses.{misused_let}
use Rattle.gql_scope.specs.UnknownNames.{unknown_in_let}
use Rattle.gql_ast.specs.declared.refusal.Refusal.TheVariants as refusal
use Rattle.gql_scope.proofs.unknown_names.check_let.Given as goal

abbrev pub invariant-loop-item : goal.invariant-loop-item
invariant-loop-item l = record {
  names : refusal_of_first refusal.Variable (unknown_in_let l.scope (drop l.item-index l.items)) ≡ refusal_of_first refusal.Variable (unknown_in_let l.initial.scope l.items);
  misuses : option_or l.misuses (misuse_if (misused_let l.scope (drop l.item-index l.items))) ≡ option_or l.initial.misuses (misuse_if (misused_let l.initial.scope l.items));
  columns : let_columns l.scope (drop l.item-index l.items) ≡ let_columns l.initial.scope l.items;
}
