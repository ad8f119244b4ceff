use Rattle.std.proofs.Common.{◌∙◌, sym, ap}
use Rattle.gql_norm.specs.NormalData.{pattern_data}
use Rattle.gql_pattern_checks.specs.Machinery.ScopeWalk.{refused_seeing}
use Rattle.gql_pattern_checks.proofs.AskedLemmas.{unasked}
use Rattle.gql_pattern_checks.proofs.scoped_paths.names_that_serve.Goals as goal

pub returns-else-asks_for_names : goal.returns-else-asks_for_names
returns-else-asks_for_names c =
    let q = c.args.walk.now.question in
    let columns = c.args.walk.now.columns.now in
    let pattern = pattern_data c.args.pattern.now in
    ap (λ names. refused_seeing q columns names pattern) c.new.ensures ∙ unasked q columns pattern (sym c.asks_for_names.ensures ∙ c.if-asks_for_names.false)
