use Rattle.std.proofs.Common.{◌≡◌, ◌+◌, ◌≤◌, drop}
use Rattle.gql_type.specs.BodyMeaning.{place_of}
use Rattle.gql_type.proofs.places.place_of.Given as goal

abbrev pub invariant-loop-element : goal.invariant-loop-element
invariant-loop-element l = record {
  place : l.place + place_of l.name (drop l.element-index l.elements) ≡ place_of l.name l.elements;
  below : l.place ≤ l.element-index;
}
