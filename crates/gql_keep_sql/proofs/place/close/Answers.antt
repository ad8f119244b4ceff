-- What the kit's close of the files ends as.
use Rattle.gql_keep_sql.proofs.place.close.Goals as goal

pub returns-in-Ok-clause-closed : goal.returns-in-Ok-clause-closed
returns-in-Ok-clause-closed g c =
    let it = c.in-Ok.ensures.ok in
    rw c.in-File.is (it.0, it.2, it.3)

pub returns-clause-refused : goal.returns-clause-refused
returns-clause-refused g c =
    let it = c.in-Err.ensures.err in
    rw c.in-File.is (_, it.0, it.1)
