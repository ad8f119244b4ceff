use Rattle.std.proofs.Common.{◌≡◌, map, take}
use Rattle.gql_graph.specs.Machinery.Shown.{shown}
use Rattle.gql_graph.proofs.copies.copy_pairs.Given as goal

abbrev pub invariant-loop-name : goal.invariant-loop-name
invariant-loop-name l = map shown l.copies.items ≡ map shown (take l.name-index l.pairs)
