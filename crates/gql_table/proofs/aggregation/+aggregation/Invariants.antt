use Rattle.std.proofs.Common.{◌≡◌, map, ◌+◌, ◌*◌}
use Rattle.gql_ast.specs.Meaning.{tree_of, link_of}
use Rattle.gql_ast.specs.Machinery.Height.{height_of, highest, highest_link}
use Rattle.gql_table.proofs.AggregationLemmas.{some_in_parts, some_in_sides}
use Rattle.gql_table.proofs.aggregation.+aggregation.Given as goal

abbrev pub decreases-has_row_aggregate : goal.decreases-has_row_aggregate
decreases-has_row_aggregate l = 2 * height_of (tree_of l.expr.now)

abbrev pub decreases-part_has_one : goal.decreases-part_has_one
decreases-part_has_one l = 2 * highest (map tree_of l.parts.now) + 1

abbrev pub decreases-side_has_one : goal.decreases-side_has_one
decreases-side_has_one l = 2 * highest_link (map link_of l.steps.now) + 1

abbrev pub invariant-part_has_one-loop-i : goal.invariant-part_has_one-loop-i
invariant-part_has_one-loop-i l = some_in_parts l.columns l.parts l.i ≡ some_in_parts l.columns l.parts 0

abbrev pub invariant-side_has_one-loop-i : goal.invariant-side_has_one-loop-i
invariant-side_has_one-loop-i l = some_in_sides l.columns l.steps l.i ≡ some_in_sides l.columns l.steps 0
