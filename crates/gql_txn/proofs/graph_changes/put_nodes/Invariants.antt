use Rattle.std.proofs.Common.{take}
use Rattle.std.specs.List.{flat_map}
use Rattle.gql_values3.specs.Lookup.{node_of}
use Rattle.gql_values3.specs.declared.records.NodeRecord.{NodeRecord}
use Rattle.gql_rowcode.specs.Records.{node}
use Rattle.gql_rowcode.specs.Machinery.Writing.{SayAlso}
use Rattle.gql_txn.specs.Machinery.GraphChanges.{is_node, unless}
use Rattle.gql_txn.proofs.graph_changes.put_nodes.Given as goal

abbrev pub invariant-loop-element : goal.invariant-loop-element
invariant-loop-element l = SayAlso (flat_map (λ (r : NodeRecord). unless (is_node (node_of l.before.graph r.number) r) (node l.name r)) (take l.element-index l.nodes)) l.fn.out.items l.out.items
