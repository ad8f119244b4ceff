use Rattle.gql_graph.proofs.SharedGraph.{graph_sync}
use Rattle.gql_machine.proofs.query.run_on.Goals as goal

pub run_query-requires-sync-G : goal.run_query-requires-sync-G
run_query-requires-sync-G g c κs within = record { shared = graph_sync.shared }
