use Rattle.std.proofs.Common.{◌≡◌, [], map, drop}
use Rattle.gql_type.specs.BodyFaults.{repeated, first_name}
use Rattle.gql_type.proofs.repeated.first_twice.Given as goal

abbrev pub invariant-loop-property : goal.invariant-loop-property
invariant-loop-property l = first_name (repeated l.before (map (λ p. p.name) (drop l.property-index l.properties))) ≡ first_name (repeated [] (map (λ p. p.name) l.properties))
