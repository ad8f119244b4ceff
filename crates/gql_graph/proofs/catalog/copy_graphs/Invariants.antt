use Rattle.std.proofs.Common.{◌≡◌, map, take}
use Rattle.gql_graph.specs.Bare.{bare}
use Rattle.gql_graph.proofs.catalog.copy_graphs.Given as goal

abbrev pub invariant-loop-name : goal.invariant-loop-name
invariant-loop-name l = map bare l.copies.items ≡ map bare (take l.name-index l.graphs)
