use Rattle.std.proofs.Common.{◌≡◌, ◌-◌, map}
use Rattle.gql_fields.specs.Machinery.Reading.{items_at, property_at, pair_of}
use Rattle.gql_fields.proofs.LoopLemmas.{with_front}
use Rattle.gql_fields.proofs.properties.pairs_of.Given as goal

abbrev pub invariant-loop : goal.invariant-loop
invariant-loop l = with_front (map pair_of l.pairs) (items_at property_at (l.count - l.counter) l.rest) ≡ items_at property_at l.count l.bytes
