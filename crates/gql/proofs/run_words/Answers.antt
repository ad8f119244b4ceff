use Rattle.gql_match.proofs.SharedMatcher.{prepared_sync}
use Rattle.gql.proofs.run_words.Goals as goal

pub run-status-requires-sync-M-Prepared : goal.run-status-requires-sync-M-Prepared
run-status-requires-sync-M-Prepared g c κs within = record { shared = prepared_sync.shared }
