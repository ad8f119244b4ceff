use Rattle.std.proofs.Common.{◌∙◌, sym, ap, subst}
use Rattle.gql_ast.specs.Meaning.{tree_of}
use Rattle.gql_expr_checks.specs.Gives.{Gives}
use Rattle.gql_pattern_checks.specs.Machinery.ScopeWalk.{refused_under}
use Rattle.gql_pattern_checks.specs.Machinery.Scopes.{known_columns}
use Rattle.gql_pattern_checks.specs.declared.scoped.ScopeQuestion.TheVariants as question
use Rattle.gql_pattern_checks.proofs.SeenColumnLemmas.{asked_under_seen}
use Rattle.gql_pattern_checks.proofs.scoped.ask.Goals as goal

pub returns-in-Names : goal.returns-in-Names
returns-in-Names c =
    let columns = known_columns c.args.walk.now.columns.now c.args.names.now in
    let tree = tree_of c.args.expr.now in
    subst (λ o. Gives c.check_names.result o)
    (ap (λ cs. refused_under question.Names cs tree) c.in_ok-seen.ensures ∙ asked_under_seen question.Names columns tree ∙ ap (λ q. refused_under q columns tree) (sym c.in-Names.is))
    c.check_names.ensures

pub returns : goal.returns
returns c =
    let columns = known_columns c.args.walk.now.columns.now c.args.names.now in
    let tree = tree_of c.args.expr.now in
    subst (λ o. Gives c.check_misuse.result o)
    (ap (λ cs. refused_under question.Misuses cs tree) c.in_ok-seen.ensures ∙ asked_under_seen question.Misuses columns tree ∙ ap (λ q. refused_under q columns tree) (sym c.in-Misuses.is))
    c.check_misuse.ensures.gives
