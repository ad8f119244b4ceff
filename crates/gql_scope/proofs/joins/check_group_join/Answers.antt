use Rattle.std.proofs.Common.{subst}
use Rattle.gql_expr_checks.specs.Gives.{Gives}
use Rattle.gql_scope.proofs.JoinLemmas.{groups_joined}
use Rattle.gql_scope.proofs.joins.check_group_join.Goals as goal

pub returns : goal.returns
returns c = subst (λ o. Gives c.check_clause.result o) (groups_joined c.args.scope.now c.args.clause.now) c.check_clause.ensures
