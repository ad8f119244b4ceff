use Rattle.std.proofs.Common.{sym, subst}
use Rattle.gql_expr_checks.specs.Gives.{Gives}
use Rattle.gql_norm.specs.NormalData.{pattern_data}
use Rattle.gql_pattern_checks.proofs.TopLemmas.{unknown_in_pattern}
use Rattle.gql_pattern_checks.proofs.names.check_pattern_names.Goals as goal

pub returns : goal.returns
returns c = subst (λ o. Gives c.check_pattern.result o) (sym (unknown_in_pattern c.args.columns.now (pattern_data c.args.pattern.now))) c.check_pattern.ensures
