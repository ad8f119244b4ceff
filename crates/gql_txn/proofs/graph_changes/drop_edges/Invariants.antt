use Rattle.std.proofs.Common.{take}
use Rattle.std.specs.List.{flat_map}
use Rattle.gql_graph.specs.Edits.{has_edge}
use Rattle.gql_values3.specs.declared.records.EdgeRecord.{EdgeRecord}
use Rattle.gql_rowcode.specs.Records.{edge}
use Rattle.gql_txn.specs.Machinery.GraphChanges.{unless, KeysAlso}
use Rattle.gql_txn.proofs.graph_changes.drop_edges.Given as goal

abbrev pub invariant-loop-element : goal.invariant-loop-element
invariant-loop-element l = KeysAlso (flat_map (λ (r : EdgeRecord). unless (has_edge l.after.graph r.number) (edge l.name r)) (take l.element-index l.edges)) l.fn.out.items l.out.items
