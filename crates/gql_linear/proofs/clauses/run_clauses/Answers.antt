use Rattle.std.proofs.Common.{◌<◌, length, arith}
use Rattle.std.proofs.lemmas.Result.{err_from_is_err_and}
use Rattle.gql_linear.specs.QueryRun.{Working, beginning}
use Rattle.gql_linear.proofs.ClauseSteps.{clause_more, refused, at_end, sound_at, sound_behind}
use Rattle.gql_linear.proofs.clauses.run_clauses.Goals as goal

pub run_clause-requires-clause-sound : goal.run_clause-requires-clause-sound
run_clause-requires-clause-sound g c = λ lives outlived. sound_at c.args.setting.now.params.now c.args.clauses.now c.loop-at.at c.index-clauses-at.result (omega arith) c.index-clauses-at.is c.loop-at.table.0 c.loop-at.invariant.sound

pub loop-at-preserved : goal.loop-at-preserved
loop-at-preserved g c =
    let params = c.args.setting.now.params.now in
    let all = c.args.clauses.now in
    let below : c.loop-at.at < length all = omega arith in
    let here : Working = record { graph = g.G.View.graph c.loop-at.graph; columns = c.loop-at.table.0; rows = c.loop-at.table.1 } in
    record {
      ahead = clause_more params all c.loop-at.at c.index-clauses-at.result below c.index-clauses-at.is (beginning (g.G.View.graph c.args.graph.now)) here _ c.in_ok-table.ensures.given c.loop-at.invariant.ahead;
      sound = sound_behind params all c.loop-at.at c.index-clauses-at.result below c.index-clauses-at.is c.loop-at.table.0 _ c.loop-at.invariant.sound c.in_ok-table.ensures.columns;
    }

pub returns : goal.returns
returns g c =
    let here : Working = record { graph = g.G.View.graph c.loop-at.graph; columns = c.loop-at.table.0; rows = c.loop-at.table.1 } in
    at_end c.args.setting.now.params.now (beginning (g.G.View.graph c.args.graph.now)) c.args.clauses.now here c.loop-at.at (omega arith) c.loop-at.invariant.ahead

pub returns-in_err-table : goal.returns-in_err-table
returns-in_err-table g c =
    let here : Working = record { graph = g.G.View.graph c.loop-at.graph; columns = c.loop-at.table.0; rows = c.loop-at.table.1 } in
    let p = err_from_is_err_and c.from_residual-in_err-table.result c.from_residual-in_err-table.ensures.1 in
    rw (p.1, p.2)
    (refused c.args.setting.now.params.now c.args.clauses.now c.loop-at.at c.index-clauses-at.result (omega arith) c.index-clauses-at.is (beginning (g.G.View.graph c.args.graph.now)) here c.in_err-table.field-0.0 c.in_err-table.ensures.given c.loop-at.invariant.ahead)
