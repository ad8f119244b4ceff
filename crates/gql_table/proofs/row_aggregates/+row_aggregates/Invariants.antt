use Rattle.std.proofs.Common.{◌≡◌, map, ◌+◌, ◌*◌}
use Rattle.gql_ast.specs.Meaning.{tree_of, link_of}
use Rattle.gql_ast.specs.Machinery.Height.{height_of, highest, highest_link}
use Rattle.gql_table.specs.Machinery.AggregateMeaning.{aggregate_meant}
use Rattle.gql_table.proofs.AroundLemmas.{found_parts, found_sides}
use Rattle.gql_table.proofs.row_aggregates.+row_aggregates.Given as goal

abbrev pub decreases-add_of_expr : goal.decreases-add_of_expr
decreases-add_of_expr l = 2 * height_of (tree_of l.expr.now)

abbrev pub decreases-add_of_parts : goal.decreases-add_of_parts
decreases-add_of_parts l = 2 * highest (map tree_of l.parts.now) + 1

abbrev pub decreases-add_of_steps : goal.decreases-add_of_steps
decreases-add_of_steps l = 2 * highest_link (map link_of l.steps.now) + 1

abbrev pub invariant-add_of_parts-loop-i : goal.invariant-add_of_parts-loop-i
invariant-add_of_parts-loop-i l =
    found_parts l.columns (map aggregate_meant l.found.items) l.parts l.i ≡ found_parts l.columns (map aggregate_meant l.fn.found.items) l.parts 0

abbrev pub invariant-add_of_steps-loop-i : goal.invariant-add_of_steps-loop-i
invariant-add_of_steps-loop-i l =
    found_sides l.columns (map aggregate_meant l.found.items) l.steps l.i ≡ found_sides l.columns (map aggregate_meant l.fn.found.items) l.steps 0
