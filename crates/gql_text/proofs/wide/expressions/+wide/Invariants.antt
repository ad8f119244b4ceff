use Rattle.std.proofs.Common.{◌≡◌, ◌+◌, ◌*◌, map}
use Rattle.gql_ast.specs.Machinery.Height.{height_of, highest, highest_link}
use Rattle.gql_ast.specs.Meaning.{tree_of, link_of}
use Rattle.gql_text.proofs.FindLemmas.{found_in_trees, found_in_links}
use Rattle.gql_text.proofs.wide.expressions.+wide.Given as goal

abbrev pub decreases-in_expr : goal.decreases-in_expr
decreases-in_expr l = 2 * height_of (tree_of l.expr.now)

abbrev pub decreases-in_exprs : goal.decreases-in_exprs
decreases-in_exprs l = 2 * highest (map tree_of l.exprs.now) + 1

abbrev pub decreases-in_steps : goal.decreases-in_steps
decreases-in_steps l = 2 * highest_link (map link_of l.steps.now) + 1

abbrev pub invariant-in_exprs-loop-i : goal.invariant-in_exprs-loop-i
invariant-in_exprs-loop-i l = found_in_trees l.exprs l.i ≡ found_in_trees l.exprs 0

abbrev pub invariant-in_steps-loop-i : goal.invariant-in_steps-loop-i
invariant-in_steps-loop-i l = found_in_links l.steps l.i ≡ found_in_links l.steps 0
