use Rattle.std.proofs.Common.{◌≡◌, ◌++◌, drop}
use Rattle.gql_type.specs.BodyMeaning.{node_types}
use Rattle.gql_type.proofs.meaning.node_types.Given as goal

abbrev pub invariant-loop-element : goal.invariant-loop-element
invariant-loop-element l = l.kinds.items ++ node_types (drop l.element-index l.elements) ≡ node_types l.elements
