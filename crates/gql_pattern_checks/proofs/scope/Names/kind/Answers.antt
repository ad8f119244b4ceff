use Rattle.std.proofs.Common.{◌∙◌, sym, ap, Some}
use Rattle.gql_pattern_checks.proofs.KindLemmas.{kind_of_column, kind_of_no_column}
use Rattle.gql_pattern_checks.proofs.scope.Names.kind.Goals as goal

pub returns-then-contains : goal.returns-then-contains
returns-then-contains c = ap Some c.kind.ensures ∙ kind_of_column c.args.columns.now c.args.self.now c.args.name.now (sym c.contains.ensures ∙ c.if-contains.true)

pub returns-else-contains : goal.returns-else-contains
returns-else-contains c = c.own_kind.ensures ∙ kind_of_no_column c.args.columns.now c.args.self.now c.args.name.now (sym c.contains.ensures ∙ c.if-contains.false)
