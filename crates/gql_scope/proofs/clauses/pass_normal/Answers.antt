use Rattle.gql_scope.specs.declared.refusals.Code.TheVariants as code
use Rattle.gql_scope.proofs.CodeLemmas.{by_codes, kinds_of_both, misuses_of_both, on_both}
use Rattle.gql_scope.proofs.clauses.pass_normal.Goals as goal

pub returns-clause-codes : goal.returns-clause-codes
returns-clause-codes c =
    let columns = c.args.scope.now in
    let d = c.args.clause.now in
    let old = c.args.found.now in
    let between = c.note_codes.new.found in
    let apart = c.in_ok-note_codes.ensures in
    on_both c.pass_names.result
    (λ kinds misuses. by_codes _ (kinds_of_both columns d old.kinds between.kinds c.pass_names.new.kinds (apart code.Kinds) kinds) (apart code.GroupJoins) (apart code.CondJoins)
    (apart code.EmptyLoops) (apart code.OpenEnds) (apart code.GroupRefs) (misuses_of_both columns d old.misuses between.misuses c.pass_names.new.misuses (apart code.Misuses) misuses)
    (apart code.Columns) (apart code.Parameters))
    c.pass_names.ensures.kinds c.pass_names.ensures.misuses
