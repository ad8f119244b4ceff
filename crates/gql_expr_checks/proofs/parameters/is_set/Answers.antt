use Rattle.std.proofs.Common.{◌∙◌, ap, is_some}
use Rattle.gql_expr_checks.specs.ExprParameters.{is_set}
use Rattle.gql_expr_checks.proofs.FirstLemmas.{is_some-value}
use Rattle.gql_expr_checks.proofs.parameters.is_set.Goals as goal

pub returns-in-Some : goal.returns-in-Some
returns-in-Some c = ap is_some c.in-Some.ensures ∙ is_some-value c.args.params.now c.as_str.result.now ∙ ap (is_set c.args.params.now) c.as_str.ensures

pub returns-in-None : goal.returns-in-None
returns-in-None c = ap is_some c.in-None.ensures ∙ is_some-value c.args.params.now c.as_str.result.now ∙ ap (is_set c.args.params.now) c.as_str.ensures
