use Rattle.gql_graph.proofs.SharedGraph.{graph_sync}
use Rattle.gql_machine.proofs.session_statement.value_without_columns.Goals as goal

pub value-requires-sync-V : goal.value-requires-sync-V
value-requires-sync-V c κs = record { shared = graph_sync.shared }
