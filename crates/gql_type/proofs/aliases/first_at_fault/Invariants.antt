use Rattle.std.proofs.Common.{◌≡◌, [], drop}
use Rattle.gql_type.specs.BodyFaults.{aliases_at_fault, first_name}
use Rattle.gql_type.proofs.aliases.first_at_fault.Given as goal

abbrev pub invariant-loop-element : goal.invariant-loop-element
invariant-loop-element l = first_name (aliases_at_fault l.known l.before (drop l.element-index l.elements)) ≡ first_name (aliases_at_fault l.known [] l.elements)
