use Rattle.std.proofs.Common.{◌≡◌, map, ◌+◌, ◌*◌}
use Rattle.std.specs.Prelude.{find}
use Rattle.gql_ast.specs.Meaning.{tree_of, link_of}
use Rattle.gql_ast.specs.Machinery.Height.{height_of, highest, highest_link}
use Rattle.gql_ast.specs.Scope.{names_in_trees, names_in_links}
use Rattle.gql_expr_checks.specs.Machinery.Sought.{is_sought}
use Rattle.gql_ast.proofs.PartLemmas.{parts_from, sides_from}
use Rattle.gql_expr_checks.proofs.names.+names.Given as goal

abbrev pub decreases-first_name : goal.decreases-first_name
decreases-first_name l = 2 * height_of (tree_of l.expr.now)

abbrev pub decreases-first_of_parts : goal.decreases-first_of_parts
decreases-first_of_parts l = 2 * highest (map tree_of l.parts.now) + 1

abbrev pub decreases-first_of_steps : goal.decreases-first_of_steps
decreases-first_of_steps l = 2 * highest_link (map link_of l.steps.now) + 1

abbrev pub invariant-first_of_parts-loop-i : goal.invariant-first_of_parts-loop-i
invariant-first_of_parts-loop-i l =
    find (is_sought l.scope l.sought) (names_in_trees (parts_from l.parts l.i)) ≡ find (is_sought l.scope l.sought) (names_in_trees (parts_from l.parts 0))

abbrev pub invariant-first_of_steps-loop-i : goal.invariant-first_of_steps-loop-i
invariant-first_of_steps-loop-i l =
    find (is_sought l.scope l.sought) (names_in_links (sides_from l.steps l.i)) ≡ find (is_sought l.scope l.sought) (names_in_links (sides_from l.steps 0))
