use Rattle.gql_ports.specs.Told.{MatchTold}
use Rattle.gql_rowcode.proofs.WritingLemmas.{on_ok}
use Rattle.gql_txn.specs.Keeps.{Keeps}
use Rattle.gql_txn.specs.Machinery.Storing.{Leads}
use Rattle.gql_txn.proofs.StoreLemmas.{keeps_other, same_catalog}
use Rattle.gql_txn.proofs.store.store_whole.Goals as goal

pub returns-clause-stored : goal.returns-clause-stored
returns-clause-stored g c =
    let before = c.in_ok-before.before in
    let after = c.in_ok-after.after in
    let old = g.K.Keeper.held c.args.keeper.now in
    let new = g.K.Keeper.held c.store_records.new.keeper in
    λ keeps. on_ok c.store_records.result (MatchTold old new (Leads before after)) (Keeps new c.args.catalog.now)
    (keeps_other old new before after c.args.kept.now c.args.catalog.now c.in_ok-before.ensures.some c.in_ok-before.ensures.stand c.in_ok-after.ensures.stand keeps)
    c.store_records.ensures.ok

pub returns-clause-idle : goal.returns-clause-idle
returns-clause-idle g c = λ same.
    c.store_records.ensures.idle (same_catalog c.in_ok-before.before c.in_ok-after.after c.args.kept.now c.args.catalog.now c.in_ok-before.ensures.some c.in_ok-after.ensures.some c.in_ok-before.ensures.stand c.in_ok-after.ensures.stand same)
