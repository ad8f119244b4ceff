use Rattle.std.proofs.Common.{◌∙◌}
use Rattle.gql_txn.specs.Machinery.Changes.{same_records}
use Rattle.gql_txn.proofs.SameLemmas.{same_decides}
use Rattle.gql_txn.proofs.changes.are_same.Goals as goal

pub returns-clause-same : goal.returns-clause-same
returns-clause-same c =
    same_decides c.args.before.now c.args.after.now c.same_records.result (c.same_records.ensures ∙ λ i. same_records (c.as_slice.ensures i) (c.as_slice-2.ensures i))
