use Rattle.std.proofs.Common.{◌≡◌, take, map}
use Rattle.gql_type.specs.BodyMeaning.{property_type}
use Rattle.gql_type.proofs.sets.property_types.Given as goal

abbrev pub invariant-loop-property : goal.invariant-loop-property
invariant-loop-property l = l.kinds.items ≡ map property_type (take l.property-index l.properties)
