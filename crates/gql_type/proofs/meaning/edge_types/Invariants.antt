use Rattle.std.proofs.Common.{◌≡◌, ◌++◌, drop}
use Rattle.gql_type.specs.BodyMeaning.{edge_types}
use Rattle.gql_type.proofs.meaning.edge_types.Given as goal

abbrev pub invariant-loop-element : goal.invariant-loop-element
invariant-loop-element l = l.kinds.items ++ edge_types l.elements (drop l.element-index l.elements) ≡ edge_types l.elements l.elements
