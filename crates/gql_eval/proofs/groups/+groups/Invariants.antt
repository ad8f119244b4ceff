use Rattle.std.proofs.Common.{◌≡◌, map, ◌+◌, ◌*◌}
use Rattle.gql_ast.specs.Meaning.{tree_of, link_of}
use Rattle.gql_ast.specs.Machinery.Height.{height_of, highest, highest_link}
use Rattle.gql_ast.specs.Scope.{is_group_name}
use Rattle.gql_eval.specs.Machinery.ScopeMeaning.{scope_of}
use Rattle.gql_eval.proofs.PartLemmas.{found_in_parts, found_in_sides}
use Rattle.gql_eval.proofs.groups.+groups.Given as goal

abbrev pub decreases-group_name : goal.decreases-group_name
decreases-group_name l = 2 * height_of (tree_of l.expr.now)

abbrev pub decreases-group_of_parts : goal.decreases-group_of_parts
decreases-group_of_parts l = 2 * highest (map tree_of l.parts.now) + 1

abbrev pub decreases-group_of_steps : goal.decreases-group_of_steps
decreases-group_of_steps l = 2 * highest_link (map link_of l.steps.now) + 1

abbrev pub invariant-group_of_parts-loop-i : goal.invariant-group_of_parts-loop-i
invariant-group_of_parts-loop-i l =
    let test = is_group_name (scope_of l.scope) in
    found_in_parts test l.parts l.i ≡ found_in_parts test l.parts 0

abbrev pub invariant-group_of_steps-loop-i : goal.invariant-group_of_steps-loop-i
invariant-group_of_steps-loop-i l =
    let test = is_group_name (scope_of l.scope) in
    found_in_sides test l.steps l.i ≡ found_in_sides test l.steps 0
