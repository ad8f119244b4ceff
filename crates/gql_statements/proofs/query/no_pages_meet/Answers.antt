use Rattle.gql_statements.proofs.QueryLoops.{none_meet-all}
use Rattle.gql_statements.proofs.query.no_pages_meet.Goals as goal

pub loop-clause-init : goal.loop-clause-init
loop-clause-init c = record { so_far = none_meet-all c.args.clauses.now }
