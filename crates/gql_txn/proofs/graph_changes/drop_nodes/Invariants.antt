use Rattle.std.proofs.Common.{take}
use Rattle.std.specs.List.{flat_map}
use Rattle.gql_values3.specs.Lookup.{has_node}
use Rattle.gql_values3.specs.declared.records.NodeRecord.{NodeRecord}
use Rattle.gql_rowcode.specs.Records.{node}
use Rattle.gql_txn.specs.Machinery.GraphChanges.{unless, KeysAlso}
use Rattle.gql_txn.proofs.graph_changes.drop_nodes.Given as goal

abbrev pub invariant-loop-element : goal.invariant-loop-element
invariant-loop-element l = KeysAlso (flat_map (λ (r : NodeRecord). unless (has_node l.after.graph r.number) (node l.name r)) (take l.element-index l.nodes)) l.fn.out.items l.out.items
