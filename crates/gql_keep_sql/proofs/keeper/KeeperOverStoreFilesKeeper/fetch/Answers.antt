-- It is the fetch of the key of that place that failed.
use Rattle.std.proofs.Common.{◌≡◌, Some, rules}
use Rattle.std.specs.Prelude.{slice_get}
use Rattle.gql_keep_sql.proofs.RefusalLemmas.{failed_by, some_then}
use Rattle.gql_keep_sql.proofs.keeper.KeeperOverStoreFilesKeeper.fetch.Goals as goal

pub returns-clause-refused : goal.returns-clause-refused
returns-clause-refused g c failed =
    let why = failed_by c.fetch-fetched.result c.counted.result c.counted.result _ c.counted.ensures.same c.counted.ensures.memory (λ is. is) c.fetch-fetched.ensures.refused failed in
    let own : Some c.in-Some.key.now ≡ slice_get c.args.self.now.keys c.args.index = search rules in
    (why.0, why.1, some_then _ _ _ own why.2)
