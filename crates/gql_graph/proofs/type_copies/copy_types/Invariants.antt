use Rattle.std.proofs.Common.{◌≡◌, take}
use Rattle.gql_graph.proofs.type_copies.copy_types.Given as goal

abbrev pub invariant-loop-name : goal.invariant-loop-name
invariant-loop-name l = l.copies.items ≡ take l.name-index l.types
