use Rattle.std.proofs.Common.{◌≡◌, map, ◌+◌, ◌*◌}
use Rattle.gql_expr_checks.specs.NamesOutside.{names_outside_each, names_outside_sides}
use Rattle.gql_expr_checks.specs.First.{first}
use Rattle.gql_ast.specs.Meaning.{tree_of, link_of}
use Rattle.gql_ast.specs.Machinery.Height.{height_of, highest, highest_link}
use Rattle.gql_ast.proofs.PartLemmas.{parts_from, sides_from}
use Rattle.gql_expr_checks.proofs.outside.+outside.Given as goal

abbrev pub decreases-name_outside : goal.decreases-name_outside
decreases-name_outside l = 2 * height_of (tree_of l.expr.now)

abbrev pub decreases-outside_parts : goal.decreases-outside_parts
decreases-outside_parts l = 2 * highest (map tree_of l.parts.now) + 1

abbrev pub decreases-outside_steps : goal.decreases-outside_steps
decreases-outside_steps l = 2 * highest_link (map link_of l.steps.now) + 1

abbrev pub invariant-outside_parts-loop-i : goal.invariant-outside_parts-loop-i
invariant-outside_parts-loop-i l = first (names_outside_each l.scope (parts_from l.parts l.i)) ≡ first (names_outside_each l.scope (parts_from l.parts 0))

abbrev pub invariant-outside_steps-loop-i : goal.invariant-outside_steps-loop-i
invariant-outside_steps-loop-i l = first (names_outside_sides l.scope (sides_from l.steps l.i)) ≡ first (names_outside_sides l.scope (sides_from l.steps 0))
