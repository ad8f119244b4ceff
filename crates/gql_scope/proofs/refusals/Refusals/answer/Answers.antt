use Rattle.std.proofs.Common.{◌∙◌, sym}
use Rattle.gql_scope.specs.Machinery.Codes.{first_kept}
use Rattle.gql_scope.proofs.CodeLemmas.{none_there}
use Rattle.gql_scope.proofs.refusals.Refusals.answer.Goals as goal

pub returns-else-has_any : goal.returns-else-has_any
returns-else-has_any c = none_there (first_kept c.args.self) (sym c.has_any.ensures ∙ c.if-has_any.false)
