use Rattle.std.proofs.Common.{◌∙◌}
use Rattle.gql_txn.specs.Machinery.Changes.{puts_of, drops_of}
use Rattle.gql_txn.proofs.ChangeLemmas.{differ_by}
use Rattle.gql_txn.proofs.StoreLemmas.{told_as}
use Rattle.gql_txn.proofs.store.tell_changes.Goals as goal

pub tell-requires : goal.tell-requires
tell-requires g c =
    let all = c.in_ok-changes.ensures in
    differ_by c.args.before.now c.args.after.now c.as_slice.result.now c.as_slice-2.result.now all.before all.after (c.as_slice.ensures.value ∙ all.puts) (c.as_slice-2.ensures.value ∙ all.drops)

pub returns-clause-ok : goal.returns-clause-ok
returns-clause-ok g c =
    let before = c.args.before.now in
    let after = c.args.after.now in
    let all = c.in_ok-changes.ensures in
    told_as c.tell.result (g.K.Keeper.held c.args.keeper.now) (g.K.Keeper.held c.tell.new.keeper) c.as_slice.result.now (puts_of before after) c.as_slice-2.result.now (drops_of before after)
    (c.as_slice.ensures.value ∙ all.puts) (c.as_slice-2.ensures.value ∙ all.drops) c.tell.ensures.ok
