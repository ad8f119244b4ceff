use Rattle.std.proofs.Common.{◌∙◌, false, sym}
use Rattle.gql_pattern_checks.specs.Machinery.Scopes.{with_variable_of}
use Rattle.gql_pattern_checks.proofs.RowLemmas.{refused_nothing}
use Rattle.gql_pattern_checks.proofs.scope_walk.check_element.Goals as goal

pub returns-then-is_empty-clause-faults : goal.returns-then-is_empty-clause-faults
returns-then-is_empty-clause-faults c =
    let element = c.args.element.now in
    refused_nothing c.args.walk.now.question c.args.walk.now.columns.now (with_variable_of false c.args.names.now element.variable) element.predicates (sym c.is_empty.ensures ∙ c.if-is_empty.true)
