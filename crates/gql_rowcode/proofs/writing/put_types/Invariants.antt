use Rattle.std.proofs.Common.{ℕ, List, map, take}
use Rattle.gql_graph.specs.declared.graph_type.GraphType.{GraphType}
use Rattle.gql_rowcode.specs.Records.{graph_type}
use Rattle.gql_rowcode.specs.Machinery.Writing.{SayAlso}
use Rattle.gql_rowcode.proofs.writing.put_types.Given as goal

abbrev pub invariant-loop-named : goal.invariant-loop-named
invariant-loop-named l = SayAlso (map (λ (t : List ℕ × GraphType). graph_type t.0 t.1) (take l.named-index l.types)) l.fn.out.items l.out.items
