use Rattle.gql_txn.proofs.LoadLemmas.{told_again, not_lack}
use Rattle.gql_txn.proofs.load.read_records.Goals as goal

pub returns-in-Err-BadRecord-clause-at_fault : goal.returns-in-Err-BadRecord-clause-at_fault
returns-in-Err-BadRecord-clause-at_fault c = λ i h.
    let told = rw c.in-Err-BadRecord.field-0-is at (c.in-Err-BadRecord.ensures.at_fault i h) in
    told_again c.in-Err-BadRecord.index i told

-- records that stand for a catalog have none at fault
pub returns-in-Err-BadRecord-clause-complete : goal.returns-in-Err-BadRecord-clause-complete
returns-in-Err-BadRecord-clause-complete c = λ d h.
    let lacks = rw c.in-Err-BadRecord.field-0-is at (c.in-Err-BadRecord.ensures.complete d h) in
    not_lack c.in-Err-BadRecord.index lacks
