use Rattle.std.proofs.Common.{◌≡◌, map, nat_le, drop, ◌+◌, ◌*◌}
use Rattle.gql_values3.specs.Nesting.{depth_all}
use Rattle.gql_values3.specs.Meaning.{datum_of}
use Rattle.gql_eval.proofs.making.+within.Given as goal

abbrev pub decreases-is_within : goal.decreases-is_within
decreases-is_within l = 2 * l.limit

abbrev pub decreases-are_within : goal.decreases-are_within
decreases-are_within l = 2 * l.limit + 1

abbrev pub invariant-are_within-loop-i : goal.invariant-are_within-loop-i
invariant-are_within-loop-i l =
    nat_le (depth_all (map datum_of (drop l.i l.items))) l.limit ≡ nat_le (depth_all (map datum_of l.items)) l.limit
