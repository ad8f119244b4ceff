-- A graph in memory may be looked at by several threads, as each view may. Calls that are generic in the view ask for it,
-- and the search for it does not end where the types of a query are in sight, so it is shown here from the parts up.
use denote.Param.Send.{IsSync, sendable, view_sync}
use Rattle.std.proofs.Crossing.{crosses}
use Rattle.gql_values3.proofs.value.List.TheLaws.TheKnot as knot
use Rattle.gql_values3.proofs.sequence.Sequence.TheSendSync as sequence
use Rattle.gql_values3.proofs.text.Text.TheSendSync as text
use Rattle.gql_values3.proofs.element.NodeId.TheSendSync as node
use Rattle.gql_values3.proofs.element.EdgeId.TheSendSync as edge
use Rattle.gql_values3.proofs.path.PathValue.TheSendSync as path
use Rattle.gql_values3.specs.contracts.value.Value as Value
use Rattle.gql_values3.specs.contracts.properties.Properties as Properties
use Rattle.gql_values3.specs.contracts.records.NodeRecord as NodeRecord
use Rattle.gql_values3.specs.contracts.records.EdgeRecord as EdgeRecord
use Rattle.gql_graph.specs.contracts.graph.Graph.TheInside as Inside
use Rattle.gql_graph.specs.contracts.graph.Graph.{the_row}

pub value_sync : IsSync Value.the_row
value_sync = search (sendable, crosses, knot.crosses, text.the_sync, node.the_sync, edge.the_sync, path.the_sync) depth 20

pub properties_sync : IsSync Properties.the_row
properties_sync = search (sendable, crosses, value_sync, text.the_sync) depth 20

pub node_sync : IsSync NodeRecord.the_row
node_sync = search (sendable, crosses, properties_sync, sequence.the_sync, text.the_sync) depth 20

pub edge_sync : IsSync EdgeRecord.the_row
edge_sync = search (sendable, crosses, properties_sync, text.the_sync) depth 20

pub inside_sync : IsSync Inside.the_row
inside_sync = search (sendable, crosses, node_sync, edge_sync) depth 20

pub graph_sync : IsSync the_row
graph_sync = view_sync _ _ _ _ _ inside_sync
