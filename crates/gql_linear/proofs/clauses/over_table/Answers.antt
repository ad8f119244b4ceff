use Rattle.std.proofs.lemmas.Result.{err_from_is_err_and}
use Rattle.gql_linear.specs.QueryRun.{Working}
use Rattle.gql_linear.proofs.ClauseSteps.{led_by_table, refused_by_table, columns_by_table}
use Rattle.gql_linear.proofs.clauses.over_table.Goals as goal

pub returns-clause-given : goal.returns-clause-given
returns-clause-given g c =
    let t : Working = record { graph = g.V.View.graph c.args.view.now; columns = c.args.table.0; rows = c.args.table.1 } in
    led_by_table c.args.setting.now.params.now t c.args.clause.now c.in_ok-done.done c.requires c.in_ok-done.ensures.exact

pub returns-clause-columns : goal.returns-clause-columns
returns-clause-columns g c =
    columns_by_table c.args.setting.now.params.now (g.V.View.graph c.args.view.now) c.args.table.0 c.args.clause.now c.args.table.1 c.in_ok-done.done c.requires c.in_ok-done.ensures.exact

pub returns-in_err-done-clause-given : goal.returns-in_err-done-clause-given
returns-in_err-done-clause-given g c =
    let t : Working = record { graph = g.V.View.graph c.args.view.now; columns = c.args.table.0; rows = c.args.table.1 } in
    let p = err_from_is_err_and c.from_residual.result c.from_residual.ensures.1 in
    rw (p.1, p.2) (refused_by_table c.args.setting.now.params.now t c.args.clause.now c.in_err-done.field-0.0 c.requires c.in_err-done.ensures.exact)
