use Rattle.std.proofs.Common.{take}
use Rattle.std.specs.List.{flat_map}
use Rattle.gql_values3.specs.Lookup.{edge_of}
use Rattle.gql_values3.specs.declared.records.EdgeRecord.{EdgeRecord}
use Rattle.gql_rowcode.specs.Records.{edge}
use Rattle.gql_rowcode.specs.Machinery.Writing.{SayAlso}
use Rattle.gql_txn.specs.Machinery.GraphChanges.{is_edge, unless}
use Rattle.gql_txn.proofs.graph_changes.put_edges.Given as goal

abbrev pub invariant-loop-element : goal.invariant-loop-element
invariant-loop-element l = SayAlso (flat_map (λ (r : EdgeRecord). unless (is_edge (edge_of l.before.graph r.number) r) (edge l.name r)) (take l.element-index l.edges)) l.fn.out.items l.out.items
