use Rattle.std.proofs.Common.{◌∙◌, sym, ap}
use Rattle.gql_change.specs.Machinery.PreparedSpots.{asked_in}
use Rattle.gql_change.specs.declared.role.Role.{Role}
use Rattle.gql_change.proofs.InRowLemmas.{new_same}
use Rattle.gql_change.proofs.prepared_spot.prepare_spot.Goals as goal

pub returns-in_ok-properties-in-New : goal.returns-in_ok-properties-in-New
returns-in_ok-properties-in-New c =
    let columns = c.args.columns.now in
    let params = c.args.params.now in
    let items = c.args.asked.items.now in
    new_same columns params c.in-New.named items c.in_ok-properties-in-New.properties.items c.in_ok-properties-in-New.ensures
    ∙ ap (λ (r : Role). asked_in columns params (r, items)) (sym c.in-New.is)
