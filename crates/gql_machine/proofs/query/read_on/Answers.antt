use Rattle.gql_graph.proofs.SharedGraph.{graph_sync}
use Rattle.gql_machine.proofs.query.read_on.Goals as goal

pub run_reading_query-requires-sync-V : goal.run_reading_query-requires-sync-V
run_reading_query-requires-sync-V g c κs within = record { shared = graph_sync.shared }
