use Rattle.std.proofs.Common.{sym, ◌∙◌}
use mathlib.Core.Bool.{true≢false}
use Rattle.gql_txn.specs.Machinery.Storing.{Leads}
use Rattle.gql_txn.proofs.StoreLemmas.{told_itself, leads_same}
use Rattle.gql_txn.proofs.store.store_records.Goals as goal

pub returns-then-are_same-clause-ok : goal.returns-then-are_same-clause-ok
returns-then-are_same-clause-ok g c =
    let before = c.args.before.now in
    let after = c.args.after.now in
    told_itself (Leads before after) (g.K.Keeper.held c.args.keeper.now) (λ h. leads_same before after h (c.are_same.ensures.same.0 c.if-are_same.true))

pub returns-clause-idle : goal.returns-clause-idle
returns-clause-idle g c = λ same. absurd (true≢false (sym (c.are_same.ensures.same.1 same) ∙ c.if-are_same.false))
