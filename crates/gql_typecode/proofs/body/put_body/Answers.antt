use Rattle.gql_typecode.proofs.OrderLemmas.{nothing_asked}
use Rattle.gql_typecode.proofs.body.put_body.Goals as goal

pub put_counted-requires : goal.put_counted-requires
put_counted-requires c = nothing_asked c.args.body.now
