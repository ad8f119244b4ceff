use Rattle.std.proofs.Common.{◌≡◌, true}
use Rattle.gql_change.specs.Machinery.Swaps.{all_fit}
use Rattle.gql_change.proofs.FitsLemmas.{set_fits}
use Rattle.gql_change.proofs.set_clause.plan_set.Goals as goal

pub plan_assignments-requires-after_bounds : goal.plan_assignments-requires-after_bounds
plan_assignments-requires-after_bounds g c κs within =
    let fit : all_fit (g.V.View.graph c.args.basis.now.view.now) c.in_ok-assignments.assignments ≡ true =
    set_fits (g.V.View.graph c.args.basis.now.view.now) c.args.basis.now.params.now c.args.basis.now.columns.now c.args.items.now c.args.rows.now c.in_ok-assignments.assignments c.in_ok-assignments.ensures in
    rw c.into_vec.ensures fit
