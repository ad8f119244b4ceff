use Rattle.std.proofs.Common.{◌∙◌, List, ap, subst, sym}
use Rattle.std.proofs.lemmas.Result.{err_from_is_err_and}
use Rattle.gql_eval.specs.Gives.{Fails}
use Rattle.gql_change.specs.Machinery.Roles.{Question, lines_of}
use Rattle.gql_change.proofs.InsertRows.{planned, refused_full, refused_fault}
use Rattle.gql_change.proofs.GuardLemmas.{guard_kinds, guard_wide}
use Rattle.gql_change.proofs.insert.plan_insert.Goals as goal

pub returns : goal.returns
returns g c =
    let graph = g.V.View.graph c.args.basis.now.view.now in
    let given = ap (λ (qs : List Question). lines_of graph c.args.basis.now.params.now c.args.basis.now.columns.now qs c.args.rows) (sym c.requires.asked) ∙ c.in_ok-lines.ensures in
    planned graph c.args.basis.now.params.now c.args.basis.now.columns.now c.args.paths.now c.args.rows c.node_count-count.ensures.graph (guard_wide c.args.basis.now.columns.now c.args.rows c.args.paths.now c.requires.guard) (guard_kinds c.args.basis.now.columns.now c.args.rows c.args.paths.now c.requires.guard)
    c.in_ok-lines.lines (c.in_ok-plan.plan.0, c.in_ok-plan.plan.1) given c.in_ok-plan.ensures

pub returns-in_err-lines : goal.returns-in_err-lines
returns-in_err-lines g c =
    let p = err_from_is_err_and c.from_residual.result c.from_residual.ensures.1 in
    let graph = g.V.View.graph c.args.basis.now.view.now in
    let e = c.in_err-lines.field-0.0 in
    rw (p.1, p.2)
    (refused_fault graph c.args.basis.now.params.now c.args.basis.now.columns.now c.args.paths.now c.args.rows c.node_count-count.ensures.graph (guard_wide c.args.basis.now.columns.now c.args.rows c.args.paths.now c.requires.guard) (guard_kinds c.args.basis.now.columns.now c.args.rows c.args.paths.now c.requires.guard) e
    (subst (λ (qs : List Question). Fails e (lines_of graph c.args.basis.now.params.now c.args.basis.now.columns.now qs c.args.rows)) c.requires.asked c.in_err-lines.ensures))

pub returns-in_err-plan : goal.returns-in_err-plan
returns-in_err-plan g c =
    let p = err_from_is_err_and c.from_residual-in_err-plan.result c.from_residual-in_err-plan.ensures.1 in
    let graph = g.V.View.graph c.args.basis.now.view.now in
    let given = ap (λ (qs : List Question). lines_of graph c.args.basis.now.params.now c.args.basis.now.columns.now qs c.args.rows) (sym c.requires.asked) ∙ c.in_ok-lines.ensures in
    rw (p.1, p.2)
    (refused_full graph c.args.basis.now.params.now c.args.basis.now.columns.now c.args.paths.now c.args.rows c.node_count-count.ensures.graph (guard_wide c.args.basis.now.columns.now c.args.rows c.args.paths.now c.requires.guard) (guard_kinds c.args.basis.now.columns.now c.args.rows c.args.paths.now c.requires.guard)
    c.in_ok-lines.lines c.in_err-plan.field-0.0 given c.in_err-plan.ensures)
