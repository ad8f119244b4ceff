-- It is the close of the place that failed.
use Rattle.gql_keep_sql.proofs.RefusalLemmas.{fails_only, failed_by}
use Rattle.gql_keep_sql.proofs.keeper.KeeperOver+StoreFiles+S.close.Goals as goal

pub returns-clause-refused : goal.returns-clause-refused
returns-clause-refused g c failed = failed_by c.close.result c.counted.result c.counted.result _ c.counted.ensures.same c.counted.ensures.memory (λ is. is) (fails_only _ _ c.close.ensures.refused) failed
