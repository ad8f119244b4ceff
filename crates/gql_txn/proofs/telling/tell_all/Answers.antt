use Rattle.std.proofs.Common.{[], ◌++◌, refl, ◌∙◌}
use Rattle.gql_values3.specs.Texts.{texts_differ}
use Rattle.gql_txn.proofs.ChangeLemmas.{keys, all_differ}
use Rattle.gql_txn.proofs.StoreLemmas.{told_as}
use Rattle.gql_txn.proofs.telling.tell_all.Goals as goal

pub tell-requires : goal.tell-requires
tell-requires g c = (λ i. texts_differ (keys (c.as_slice.ensures i) ++ [])) ∙ all_differ c.args.after.now c.requires

pub returns-clause-ok : goal.returns-clause-ok
returns-clause-ok g c =
    told_as c.tell.result (g.K.Keeper.held c.args.keeper.now) (g.K.Keeper.held c.tell.new.keeper) c.as_slice.result.now c.args.after.now [] [] c.as_slice.ensures refl c.tell.ensures.ok
