use Rattle.std.proofs.Common.{◌<◌, length, arith}
use Rattle.std.proofs.lemmas.Result.{err_from_is_err_and}
use Rattle.gql_linear.specs.QueryRun.{Working, beginning}
use Rattle.gql_linear.proofs.ClauseSteps.{clause_more, refused, at_end, sound_at, sound_behind, reads_from}
use Rattle.gql_linear.proofs.clauses.table_behind.Goals as goal

pub table_after-requires-clause-reads : goal.table_after-requires-clause-reads
table_after-requires-clause-reads g c = λ lives outlived. (reads_from c.args.clauses.now c.loop-i.i c.index-clauses-i.result (omega arith) c.index-clauses-i.is c.loop-i.invariant.reads).0

pub table_after-requires-clause-sound : goal.table_after-requires-clause-sound
table_after-requires-clause-sound g c = λ lives outlived. sound_at c.args.setting.now.params.now c.args.clauses.now c.loop-i.i c.index-clauses-i.result (omega arith) c.index-clauses-i.is c.loop-i.table.0 c.loop-i.invariant.sound

pub loop-i-preserved : goal.loop-i-preserved
loop-i-preserved g c =
    let params = c.args.setting.now.params.now in
    let all = c.args.clauses.now in
    let below : c.loop-i.i < length all = omega arith in
    let here : Working = record { graph = g.V.View.graph c.args.view.now; columns = c.loop-i.table.0; rows = c.loop-i.table.1 } in
    record {
      ahead = clause_more params all c.loop-i.i c.index-clauses-i.result below c.index-clauses-i.is (beginning (g.V.View.graph c.args.view.now)) here _ c.in_ok-table.ensures.given c.loop-i.invariant.ahead;
      sound = sound_behind params all c.loop-i.i c.index-clauses-i.result below c.index-clauses-i.is c.loop-i.table.0 _ c.loop-i.invariant.sound c.in_ok-table.ensures.columns;
      reads = (reads_from all c.loop-i.i c.index-clauses-i.result below c.index-clauses-i.is c.loop-i.invariant.reads).1;
    }

pub returns : goal.returns
returns g c =
    let here : Working = record { graph = g.V.View.graph c.args.view.now; columns = c.loop-i.table.0; rows = c.loop-i.table.1 } in
    at_end c.args.setting.now.params.now (beginning (g.V.View.graph c.args.view.now)) c.args.clauses.now here c.loop-i.i (omega arith) c.loop-i.invariant.ahead

pub returns-in_err-table : goal.returns-in_err-table
returns-in_err-table g c =
    let here : Working = record { graph = g.V.View.graph c.args.view.now; columns = c.loop-i.table.0; rows = c.loop-i.table.1 } in
    let p = err_from_is_err_and c.from_residual-in_err-table.result c.from_residual-in_err-table.ensures.1 in
    rw (p.1, p.2)
    (refused c.args.setting.now.params.now c.args.clauses.now c.loop-i.i c.index-clauses-i.result (omega arith) c.index-clauses-i.is (beginning (g.V.View.graph c.args.view.now)) here c.in_err-table.field-0.0 c.in_err-table.ensures.given c.loop-i.invariant.ahead)
