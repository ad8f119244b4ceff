use Rattle.std.proofs.Common.{◌≡◌, ◌+◌, ◌*◌, map, Some}
use Rattle.gql_values3.specs.Nesting.{depth, depth_all}
use Rattle.gql_values3.specs.Comparison.{both_equalities}
use Rattle.gql_values3.specs.Meaning.{datum_of}
use Rattle.gql_values3.proofs.EqualityLemmas.{equal_from}
use Rattle.gql_values3.proofs.comparison.+equal.Given as goal

abbrev pub decreases-equal3 : goal.decreases-equal3
decreases-equal3 l = 2 * depth (datum_of l.a.now) + 1

abbrev pub decreases-items_equal3 : goal.decreases-items_equal3
decreases-items_equal3 l = 2 * depth_all (map datum_of l.a.now) + 2

abbrev pub invariant-items_equal3-loop-i : goal.invariant-items_equal3-loop-i
invariant-items_equal3-loop-i l = both_equalities (Some l.all) (equal_from datum_of l.a l.b l.i) ≡ equal_from datum_of l.a l.b 0
