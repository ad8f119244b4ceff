use Rattle.std.proofs.Common.{take}
use Rattle.std.specs.List.{flat_map}
use Rattle.gql_graph.specs.Bare.{bare}
use Rattle.gql_rowcode.specs.StandFor.{graph_forms}
use Rattle.gql_rowcode.specs.Machinery.Writing.{SayAlso}
use Rattle.gql_rowcode.proofs.writing.put_graphs.Given as goal

abbrev pub invariant-loop-named : goal.invariant-loop-named
invariant-loop-named l = SayAlso (flat_map (λ g. graph_forms (bare g)) (take l.named-index l.graphs)) l.fn.out.items l.out.items
