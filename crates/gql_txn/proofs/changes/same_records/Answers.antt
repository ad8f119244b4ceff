use Rattle.gql_txn.proofs.SameLemmas.{lengths_differ}
use Rattle.gql_txn.proofs.changes.same_records.Goals as goal

pub returns-then-some-others : goal.returns-then-some-others
returns-then-some-others c = lengths_differ c.args.some.now c.args.others.now c.if-some-others.true
