use Rattle.std.proofs.Common.{◌≡◌, drop}
use Rattle.gql_type.specs.BodyFaults.{repeated_names, first_name}
use Rattle.gql_type.proofs.repeated.first_repeated.Given as goal

abbrev pub invariant-loop-element : goal.invariant-loop-element
invariant-loop-element l = first_name (repeated_names (drop l.element-index l.elements)) ≡ first_name (repeated_names l.elements)
