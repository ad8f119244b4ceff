use Rattle.std.proofs.Common.{◌≡◌, map, ◌+◌, ◌*◌}
use Rattle.gql_expr_checks.specs.ExprParameters.{unset, parameters_in_each, parameters_in_sides}
use Rattle.gql_expr_checks.specs.First.{first}
use Rattle.gql_ast.specs.Meaning.{tree_of, link_of}
use Rattle.gql_ast.specs.Machinery.Height.{height_of, highest, highest_link}
use Rattle.gql_ast.proofs.PartLemmas.{parts_from, sides_from}
use Rattle.gql_expr_checks.proofs.parameters.+parameters.Given as goal

abbrev pub decreases-unset_parameter : goal.decreases-unset_parameter
decreases-unset_parameter l = 2 * height_of (tree_of l.expr.now)

abbrev pub decreases-unset_in_parts : goal.decreases-unset_in_parts
decreases-unset_in_parts l = 2 * highest (map tree_of l.parts.now) + 1

abbrev pub decreases-unset_in_steps : goal.decreases-unset_in_steps
decreases-unset_in_steps l = 2 * highest_link (map link_of l.steps.now) + 1

abbrev pub invariant-unset_in_parts-loop-i : goal.invariant-unset_in_parts-loop-i
invariant-unset_in_parts-loop-i l = first (unset l.params (parameters_in_each (parts_from l.parts l.i))) ≡ first (unset l.params (parameters_in_each (parts_from l.parts 0)))

abbrev pub invariant-unset_in_steps-loop-i : goal.invariant-unset_in_steps-loop-i
invariant-unset_in_steps-loop-i l = first (unset l.params (parameters_in_sides (sides_from l.steps l.i))) ≡ first (unset l.params (parameters_in_sides (sides_from l.steps 0)))
