use Rattle.gql_change.proofs.FittingRows.{plan_fits}
use Rattle.gql_change.proofs.planning.plan.Goals as goal

pub returns-clause-fit : goal.returns-clause-fit
returns-clause-fit g c = plan_fits _ _ _ c.args.clause.now c.args.rows c.plan_clause.result c.plan_clause.ensures.change c.plan_clause.ensures.columns
