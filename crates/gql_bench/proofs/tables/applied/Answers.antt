use Rattle.gql_graph.proofs.SharedGraph.{graph_sync}
use Rattle.gql_bench.proofs.tables.applied.Goals as goal

pub apply-requires-sync-V : goal.apply-requires-sync-V
apply-requires-sync-V c κs = record { shared = graph_sync.shared }
