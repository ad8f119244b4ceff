-- Static refusals of a statement about the session: of a value that is evaluated over no columns the first of the codes E08, E15
-- and E23, in this order. Those of a query stand in `WholePatterns`.
use Rattle.std.specs.Prelude.{ℕ, List, [], Option, None}
use Rattle.std.specs.Option.{option_or}
use Rattle.gql_values3.specs.Datum.{Datum}
use Rattle.gql_ast.specs.Meaning.{tree_of}
use Rattle.gql_ast.specs.Tree.{Tree}
use Rattle.gql_ast.specs.declared.refusal.Refusal.{Refusal}
use Rattle.gql_ast.specs.declared.refusal.Refusal.TheVariants as refusal
use Rattle.gql_ast.specs.declared.statement.SessionStatement.{SessionStatement}
use Rattle.gql_ast.specs.declared.statement.SessionStatement.TheVariants as session
use Rattle.gql_expr_checks.specs.ExprMisuses.{misused, elsewhere}
use Rattle.gql_expr_checks.specs.ExprNames.{unknown_in}
use Rattle.gql_expr_checks.specs.ExprParameters.{parameters_in, unset}
use Rattle.gql_expr_checks.specs.Refusals.{refusal_of_first, misuse_if}

module _ (params : List (List ℕ × Datum)) where
  -- the first refusal of an expression over no columns
  abbrev pub value_refusal : Tree → Option Refusal
  value_refusal e =
      option_or (refusal_of_first refusal.Variable (unknown_in [] e))
      (option_or (misuse_if (misused [] elsewhere e)) (refusal_of_first refusal.Parameter (unset params (parameters_in e))))

  -- SESSION SET VALUE evaluates its expression over no columns
  abbrev pub session_refusal : SessionStatement → Option Refusal
  session_refusal (session.SetValue p e) = value_refusal (tree_of e)
  session_refusal _ = None
