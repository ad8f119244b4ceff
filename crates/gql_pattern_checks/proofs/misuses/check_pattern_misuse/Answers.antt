use Rattle.std.proofs.Common.{sym, subst}
use Rattle.gql_expr_checks.specs.Gives.{Gives}
use Rattle.gql_norm.specs.NormalData.{pattern_data}
use Rattle.gql_pattern_checks.proofs.TopLemmas.{misused_in_pattern}
use Rattle.gql_pattern_checks.proofs.misuses.check_pattern_misuse.Goals as goal

pub returns : goal.returns
returns c = subst (λ o. Gives c.check_pattern.result o) (sym (misused_in_pattern c.args.columns.now (pattern_data c.args.pattern.now))) c.check_pattern.ensures
