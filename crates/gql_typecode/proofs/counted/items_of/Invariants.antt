use Rattle.std.proofs.Common.{◌≡◌, ◌-◌}
use Rattle.gql_fields.specs.Machinery.Reading.{items_at}
use Rattle.gql_fields.proofs.LoopLemmas.{with_front}
use Rattle.gql_typecode.proofs.counted.items_of.Given as goal

abbrev pub invariant-loop : goal.invariant-loop
invariant-loop g l = with_front l.found (items_at g.T.Counted.at (l.count - l.counter) l.rest) ≡ items_at g.T.Counted.at l.count l.bytes
