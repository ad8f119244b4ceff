use Rattle.std.proofs.Common.{◌≡◌, false, drop}
use Rattle.std.specs.List.{list_any}
use Rattle.gql_ast.specs.LastClause.{is_change}
use Rattle.gql_linear.specs.QueryRun.{beginning}
use Rattle.gql_linear.specs.SoundQuery.{MatchesAreSound}
use Rattle.gql_linear.proofs.ClauseSteps.{Ahead}
use Rattle.gql_linear.proofs.clauses.table_behind.Given as goal

abbrev pub invariant-loop-i : goal.invariant-loop-i
invariant-loop-i g l = record {
  ahead : Ahead l.setting.params.now (beginning (g.V.View.graph l.view)) l.clauses (record { graph = g.V.View.graph l.view; columns = l.table.0; rows = l.table.1 }) (drop l.i l.clauses);
  sound : MatchesAreSound l.setting.params.now l.table.0 (drop l.i l.clauses);
  reads : list_any is_change (drop l.i l.clauses) ≡ false;
}
