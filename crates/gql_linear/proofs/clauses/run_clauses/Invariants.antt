use Rattle.std.proofs.Common.{drop}
use Rattle.gql_linear.specs.QueryRun.{beginning}
use Rattle.gql_linear.specs.SoundQuery.{MatchesAreSound}
use Rattle.gql_linear.proofs.ClauseSteps.{Ahead}
use Rattle.gql_linear.proofs.clauses.run_clauses.Given as goal

abbrev pub invariant-loop-at : goal.invariant-loop-at
invariant-loop-at g l = record {
  ahead : Ahead l.setting.params.now (beginning (g.G.View.graph l.fn.graph)) l.clauses (record { graph = g.G.View.graph l.graph; columns = l.table.0; rows = l.table.1 }) (drop l.at l.clauses);
  sound : MatchesAreSound l.setting.params.now l.table.0 (drop l.at l.clauses);
}
