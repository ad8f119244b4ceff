use Rattle.std.proofs.Common.{◌≡◌, List, ap, ◌∙◌}
use Rattle.std.proofs.lemmas.Result.{err_from_is_err_and}
use Rattle.gql_graph.specs.Edits.{changed_by_each}
use Rattle.gql_graph.specs.declared.change.Change.{Change}
use Rattle.gql_linear.specs.QueryRun.{Working}
use Rattle.gql_linear.proofs.ChangeLeads.{led_by_change, refused_by_change}
use Rattle.gql_linear.proofs.clauses.change.Goals as goal

pub returns-clause-given : goal.returns-clause-given
returns-clause-given g c =
    let t : Working = record { graph = g.G.View.graph c.args.graph.now; columns = c.args.table.0; rows = c.args.table.1 } in
    let planned = c.in_ok-planned.planned in
    let behind = g.G.View.graph c.apply-undo.new.graph in
    let changed : behind ≡ changed_by_each planned.list t.graph =
    c.apply-undo.ensures.graph ∙ ap (λ (list : List Change). changed_by_each list (g.G.View.graph c.reserve.new.graph)) c.reserve.ensures.list ∙ ap (changed_by_each planned.list) c.reserve.ensures.graph in
    led_by_change c.args.setting.now.params.now t c.args.clause.now planned.list behind planned.columns planned.rows c.in_ok-planned.ensures.change c.in_ok-planned.ensures.columns changed

pub returns-in_err-planned-clause-given : goal.returns-in_err-planned-clause-given
returns-in_err-planned-clause-given g c =
    let t : Working = record { graph = g.G.View.graph c.args.graph.now; columns = c.args.table.0; rows = c.args.table.1 } in
    let p = err_from_is_err_and c.from_residual.result c.from_residual.ensures.1 in
    rw (p.1, p.2) (refused_by_change c.args.setting.now.params.now t c.args.clause.now c.in_err-planned.field-0.0 c.in_err-planned.ensures.change)
