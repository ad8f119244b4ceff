use Rattle.gql_table.proofs.FitLemmas.{answer_fits}
use Rattle.gql_table.proofs.clauses.apply.Goals as goal

pub returns-clause-fit : goal.returns-clause-fit
returns-clause-fit g c = answer_fits _ _ _ c.args.clause.now c.args.rows c.apply_clause.result c.apply_clause.ensures
