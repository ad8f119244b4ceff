use Rattle.std.proofs.Common.{◌∙◌, ap, is_some}
use Rattle.gql_expr_checks.proofs.KnowingLemmas.{is_some-first_kind}
use Rattle.gql_expr_checks.proofs.columns.KnownColumns.contains.Goals as goal

pub returns : goal.returns
returns c = c.is_some.ensures ∙ ap is_some c.first_kind.ensures ∙ is_some-first_kind c.args.self.now c.args.name.now
