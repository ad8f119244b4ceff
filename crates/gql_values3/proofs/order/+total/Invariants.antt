use Rattle.std.proofs.Common.{◌≡◌, ◌+◌, ◌*◌, map}
use Rattle.gql_values3.specs.Nesting.{depth, depth_all}
use Rattle.gql_values3.specs.ValueOrder.{datum_cmp}
use Rattle.gql_values3.specs.Meaning.{datum_of}
use Rattle.gql_values3.proofs.ItemLemmas.{from}
use Rattle.gql_values3.proofs.order.+total.Given as goal

abbrev pub decreases-total_cmp : goal.decreases-total_cmp
decreases-total_cmp l = 2 * depth (datum_of l.a.now) + 1

abbrev pub decreases-items_cmp : goal.decreases-items_cmp
decreases-items_cmp l = 2 * depth_all (map datum_of l.a.now) + 2

abbrev pub invariant-items_cmp-loop-i : goal.invariant-items_cmp-loop-i
invariant-items_cmp-loop-i l = from datum_cmp datum_of l.a l.b l.i ≡ from datum_cmp datum_of l.a l.b 0
