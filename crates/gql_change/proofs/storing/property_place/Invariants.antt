use Rattle.std.proofs.Common.{◌≡◌}
use Rattle.gql_change.proofs.PlaceLemmas.{name_of, place_from}
use Rattle.gql_change.proofs.storing.property_place.Given as goal

abbrev pub invariant-loop-i : goal.invariant-loop-i
invariant-loop-i l = place_from name_of l.name l.properties l.i ≡ place_from name_of l.name l.properties 0
