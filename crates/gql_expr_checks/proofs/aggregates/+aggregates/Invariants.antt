use Rattle.std.proofs.Common.{◌≡◌, map, not, ◌+◌, ◌*◌}
use Rattle.gql_ast.specs.Projections.{has_none}
use Rattle.gql_ast.specs.RowAggregates.{row_aggregates_of, row_aggregates_in}
use Rattle.gql_ast.specs.Meaning.{tree_of, link_of}
use Rattle.gql_ast.specs.Machinery.Height.{height_of, highest, highest_link}
use Rattle.gql_ast.proofs.PartLemmas.{parts_from, sides_from}
use Rattle.gql_expr_checks.proofs.aggregates.+aggregates.Given as goal

abbrev pub decreases-has_aggregate : goal.decreases-has_aggregate
decreases-has_aggregate l = 2 * height_of (tree_of l.expr.now)

abbrev pub decreases-any_has_aggregate : goal.decreases-any_has_aggregate
decreases-any_has_aggregate l = 2 * highest (map tree_of l.parts.now) + 1

abbrev pub decreases-side_has_aggregate : goal.decreases-side_has_aggregate
decreases-side_has_aggregate l = 2 * highest_link (map link_of l.steps.now) + 1

abbrev pub invariant-any_has_aggregate-loop-i : goal.invariant-any_has_aggregate-loop-i
invariant-any_has_aggregate-loop-i l = not (has_none (row_aggregates_of l.scope (parts_from l.parts l.i))) ≡ not (has_none (row_aggregates_of l.scope (parts_from l.parts 0)))

abbrev pub invariant-side_has_aggregate-loop-i : goal.invariant-side_has_aggregate-loop-i
invariant-side_has_aggregate-loop-i l = not (has_none (row_aggregates_in l.scope (sides_from l.steps l.i))) ≡ not (has_none (row_aggregates_in l.scope (sides_from l.steps 0)))
