use Rattle.gql_linear.specs.QueryRun.{beginning}
use Rattle.gql_linear.proofs.OneWayLemmas.{runs_one_way}
use Rattle.gql_linear.proofs.laws.queries_run_in_one_way.Goals as goal

pub returns : goal.returns
returns c = λ g params q r s none h k. runs_one_way params (beginning g) q.clauses r s none h k
