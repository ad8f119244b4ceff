use Rattle.std.proofs.Common.{[]}
use Rattle.gql_ports.specs.Told.{MatchTold}
use Rattle.gql_rowcode.proofs.WritingLemmas.{on_ok}
use Rattle.gql_txn.specs.Machinery.Changes.{puts_of, drops_of}
use Rattle.gql_txn.specs.Machinery.Storing.{AppliesInOrder, Leads}
use Rattle.gql_txn.proofs.StoreLemmas.{told_weaker, told_empty, told_some, leads_empty, leads_held}
use Rattle.gql_txn.proofs.store.store_changes.Goals as goal

pub returns-then-len-eq0-clause-ok : goal.returns-then-len-eq0-clause-ok
returns-then-len-eq0-clause-ok g c =
    let before = c.args.before.now in
    let after = c.args.after.now in
    let old = g.K.Keeper.held c.args.keeper.now in
    let new = g.K.Keeper.held c.tell_all.new.keeper in
    let told = AppliesInOrder after [] in
    on_ok c.tell_all.result (MatchTold old new told) (MatchTold old new (Leads before after))
    (told_weaker told (Leads before after) old new
    (λ h k e applied. leads_empty before after h k c.requires.after (told_empty old c.len.result h c.len.ensures.told c.if-len-eq0.true e) applied))
    c.tell_all.ensures.ok

pub returns-else-len-eq0-clause-ok : goal.returns-else-len-eq0-clause-ok
returns-else-len-eq0-clause-ok g c =
    let before = c.args.before.now in
    let after = c.args.after.now in
    let old = g.K.Keeper.held c.args.keeper.now in
    let new = g.K.Keeper.held c.tell_changes.new.keeper in
    let told = AppliesInOrder (puts_of before after) (drops_of before after) in
    on_ok c.tell_changes.result (MatchTold old new told) (MatchTold old new (Leads before after))
    (told_weaker told (Leads before after) old new
    (λ h k e applied. leads_held before after h k c.requires.before c.requires.after (told_some old c.len.result h c.len.ensures.told c.if-len-eq0.false e) applied))
    c.tell_changes.ensures.ok
