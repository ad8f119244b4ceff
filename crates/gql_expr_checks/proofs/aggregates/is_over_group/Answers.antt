use Rattle.std.proofs.Common.{◌∙◌, ap, is_some}
use Rattle.gql_ast.specs.Meaning.{tree_of}
use Rattle.gql_expr_checks.specs.ExprMisuses.{is_group_column}
use Rattle.gql_ast.specs.Scope.{names_in}
use Rattle.gql_expr_checks.proofs.FirstLemmas.{is_some-find}
use Rattle.gql_expr_checks.proofs.aggregates.is_over_group.Goals as goal

pub returns-in-Some : goal.returns-in-Some
returns-in-Some c = ap is_some c.in-Some.ensures ∙ is_some-find (is_group_column c.args.scope.now) (names_in (tree_of c.args.expr.now))

pub returns-in-None : goal.returns-in-None
returns-in-None c = ap is_some c.in-None.ensures ∙ is_some-find (is_group_column c.args.scope.now) (names_in (tree_of c.args.expr.now))
