use Rattle.std.proofs.Common.{◌≡◌, ◌-◌, ◌+◌, ◌*◌}
use Rattle.gql_fields.specs.Machinery.Reading.{items_at, value_at}
use Rattle.gql_fields.proofs.LoopLemmas.{with_front}
use Rattle.gql_fields.proofs.values.+values.Given as goal

abbrev pub decreases-value_of : goal.decreases-value_of
decreases-value_of l = 3 * l.depth + 1

abbrev pub decreases-list_of : goal.decreases-list_of
decreases-list_of l = 3 * l.depth

abbrev pub decreases-items_of : goal.decreases-items_of
decreases-items_of l = 3 * l.depth + 2

abbrev pub invariant-items_of-loop : goal.invariant-items_of-loop
invariant-items_of-loop l = with_front l.items (items_at (value_at l.depth) (l.count - l.counter) l.rest) ≡ items_at (value_at l.depth) l.count l.bytes
