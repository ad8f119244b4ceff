use Rattle.std.proofs.Common.{◌≡◌, map, find, ◌+◌, ◌*◌}
use Rattle.gql_ast.specs.Meaning.{tree_of, link_of}
use Rattle.gql_ast.specs.Machinery.Height.{height_of, highest, highest_link}
use Rattle.gql_ast.specs.Scope.{names_in_trees, names_in_links}
use Rattle.gql_ast.proofs.PartLemmas.{parts_from, sides_from}
use Rattle.gql_term.specs.Machinery.BarredNames.{barred_by}
use Rattle.gql_term.proofs.names.+names.Given as goal

abbrev pub decreases-first_in_expr : goal.decreases-first_in_expr
decreases-first_in_expr l = 2 * height_of (tree_of l.expr.now)

abbrev pub decreases-first_in_parts : goal.decreases-first_in_parts
decreases-first_in_parts l = 2 * highest (map tree_of l.parts.now) + 1

abbrev pub decreases-first_in_steps : goal.decreases-first_in_steps
decreases-first_in_steps l = 2 * highest_link (map link_of l.steps.now) + 1

abbrev pub invariant-first_in_parts-loop-i : goal.invariant-first_in_parts-loop-i
invariant-first_in_parts-loop-i l = find (barred_by l.before) (names_in_trees (parts_from l.parts l.i)) ≡ find (barred_by l.before) (names_in_trees (parts_from l.parts 0))

abbrev pub invariant-first_in_steps-loop-i : goal.invariant-first_in_steps-loop-i
invariant-first_in_steps-loop-i l = find (barred_by l.before) (names_in_links (sides_from l.steps l.i)) ≡ find (barred_by l.before) (names_in_links (sides_from l.steps 0))
