use Rattle.std.proofs.Common.{◌≡◌, ◌-◌}
use Rattle.gql_fields.specs.Machinery.Reading.{items_at, text_at}
use Rattle.gql_fields.proofs.LoopLemmas.{with_front}
use Rattle.gql_fields.proofs.labels.texts_of.Given as goal

abbrev pub invariant-loop : goal.invariant-loop
invariant-loop l = with_front l.texts (items_at text_at (l.count - l.counter) l.rest) ≡ items_at text_at l.count l.bytes
