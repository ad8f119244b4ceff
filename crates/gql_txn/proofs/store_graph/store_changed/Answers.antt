use Rattle.std.proofs.Common.{[], ◌++◌, map, ◌∙◌}
use Rattle.gql_values3.specs.Texts.{texts_differ}
use Rattle.gql_graph.specs.Bare.{bare_held}
use Rattle.gql_ports.specs.Told.{MatchTold}
use Rattle.gql_rowcode.specs.Records.{key_of, record_of}
use Rattle.gql_rowcode.proofs.WritingLemmas.{on_ok}
use Rattle.gql_txn.specs.Keeps.{Keeps}
use Rattle.gql_txn.specs.Machinery.GraphChanges.{new_forms, gone_forms}
use Rattle.gql_txn.specs.Machinery.Storing.{AppliesInOrder}
use Rattle.gql_txn.proofs.ChangeLemmas.{keys}
use Rattle.gql_txn.proofs.StoreLemmas.{told_as, told_empty, told_some}
use Rattle.gql_txn.proofs.StoreGraphLemmas.{told_once, keeps_changed, keeps_all}
use Rattle.gql_txn.proofs.store_graph.store_changed.Goals as goal

pub tell-requires : goal.tell-requires
tell-requires g c =
    let name = c.args.name.now in
    let before = c.args.before.now.graph in
    let after = bare_held c.args.after.now in
    let puts = c.as_slice.ensures.value ∙ c.in_ok-changes.ensures.puts.1 in
    let drops = c.as_slice-else-len-eq0.ensures.value ∙ c.in_ok-changes.ensures.drops in
    (λ i. texts_differ (keys (puts i) ++ drops i)) ∙ told_once c.args.catalog.now name before after c.requires.there c.requires.sound c.requires.kept

pub returns-in_ok-all-clause-stored : goal.returns-in_ok-all-clause-stored
returns-in_ok-all-clause-stored g c =
    let old = g.K.Keeper.held c.args.keeper.now in
    let new = g.K.Keeper.held c.tell_all.new.keeper in
    λ keeps. on_ok c.tell_all.result (MatchTold old new (AppliesInOrder c.in_ok-all.all [])) (Keeps new c.args.catalog.now)
    (keeps_all old new c.in_ok-all.all c.args.catalog.now (λ h. told_empty old c.len.result h c.len.ensures.told c.if-len-eq0.true) c.len-count.ensures.ascending c.in_ok-all.ensures.stand)
    c.tell_all.ensures.ok

pub returns-in_ok-changes-clause-stored : goal.returns-in_ok-changes-clause-stored
returns-in_ok-changes-clause-stored g c =
    let name = c.args.name.now in
    let before = c.args.before.now.graph in
    let after = bare_held c.args.after.now in
    let old = g.K.Keeper.held c.args.keeper.now in
    let new = g.K.Keeper.held c.tell.new.keeper in
    let news = new_forms name before after in
    let gones = gone_forms name before after in
    let puts = c.as_slice.ensures.value ∙ c.in_ok-changes.ensures.puts.1 in
    let drops = c.as_slice-else-len-eq0.ensures.value ∙ c.in_ok-changes.ensures.drops in
    let told = told_as c.tell.result old new c.as_slice.result.now (map record_of news) c.as_slice-else-len-eq0.result.now (map key_of gones) puts drops c.tell.ensures.ok in
    λ keeps. on_ok c.tell.result (MatchTold old new (AppliesInOrder (map record_of news) (map key_of gones))) (Keeps new c.args.catalog.now)
    (λ t. keeps_changed c.args.catalog.now name before after c.requires.there c.requires.sound c.requires.kept old new (λ h. told_some old c.len.result h c.len.ensures.told c.if-len-eq0.false) c.in_ok-changes.ensures.puts.0 t keeps)
    told
