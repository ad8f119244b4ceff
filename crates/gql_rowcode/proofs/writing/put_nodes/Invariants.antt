use Rattle.std.proofs.Common.{map, take}
use Rattle.gql_rowcode.specs.Records.{node}
use Rattle.gql_rowcode.specs.Machinery.Writing.{SayAlso}
use Rattle.gql_rowcode.proofs.writing.put_nodes.Given as goal

abbrev pub invariant-loop-element : goal.invariant-loop-element
invariant-loop-element l = SayAlso (map (node l.name) (take l.element-index l.nodes)) l.fn.out.items l.out.items
