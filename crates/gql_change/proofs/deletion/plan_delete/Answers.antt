use Rattle.std.proofs.Common.{◌∙◌}
use Rattle.gql_change.proofs.DeletionLemmas.{planned}
use Rattle.gql_change.proofs.deletion.plan_delete.Goals as goal

pub returns : goal.returns
returns g c =
    planned (g.V.View.graph c.args.basis.now.view.now) c.args.basis.now.columns.now c.args.rows.now c.args.detachment c.args.names.now c.as_slice.result.now c.plan_of_named.result
    (c.as_slice.ensures.value ∙ c.in_ok-named.ensures) c.plan_of_named.ensures
