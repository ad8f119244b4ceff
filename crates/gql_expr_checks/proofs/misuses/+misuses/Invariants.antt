use Rattle.std.proofs.Common.{◌≡◌, map, ◌+◌, ◌*◌}
use Rattle.gql_expr_checks.specs.ExprMisuses.{misused_any, misused_side}
use Rattle.gql_expr_checks.specs.Machinery.Places.{columns_at, place_of}
use Rattle.gql_ast.specs.Meaning.{tree_of, link_of}
use Rattle.gql_ast.specs.Machinery.Height.{height_of, highest, highest_link}
use Rattle.gql_ast.proofs.PartLemmas.{parts_from, sides_from}
use Rattle.gql_expr_checks.proofs.misuses.+misuses.Given as goal

abbrev pub decreases-is_misused : goal.decreases-is_misused
decreases-is_misused l = 3 * height_of (tree_of l.expr.now)

abbrev pub decreases-any_is_misused : goal.decreases-any_is_misused
decreases-any_is_misused l = 3 * highest (map tree_of l.parts.now) + 1

abbrev pub decreases-side_is_misused : goal.decreases-side_is_misused
decreases-side_is_misused l = 3 * highest_link (map link_of l.steps.now) + 1

abbrev pub decreases-aggregate_is_misused : goal.decreases-aggregate_is_misused
decreases-aggregate_is_misused l = 3 * height_of (tree_of l.argument.now) + 2

abbrev pub decreases-argument_is_misused : goal.decreases-argument_is_misused
decreases-argument_is_misused l = 3 * height_of (tree_of l.argument.now) + 1

abbrev pub invariant-any_is_misused-loop-i : goal.invariant-any_is_misused-loop-i
invariant-any_is_misused-loop-i l = misused_any (columns_at l.scope l.place) (place_of l.place) (parts_from l.parts l.i) ≡ misused_any (columns_at l.scope l.place) (place_of l.place) (parts_from l.parts 0)

abbrev pub invariant-side_is_misused-loop-i : goal.invariant-side_is_misused-loop-i
invariant-side_is_misused-loop-i l = misused_side (columns_at l.scope l.place) (place_of l.place) (sides_from l.steps l.i) ≡ misused_side (columns_at l.scope l.place) (place_of l.place) (sides_from l.steps 0)
