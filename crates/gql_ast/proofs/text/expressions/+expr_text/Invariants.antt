use Rattle.std.proofs.Common.{◌≡◌, ◌+◌, ◌*◌, ◌++◌, drop, map}
use Rattle.gql_ast.specs.Machinery.Height.{height_of, highest, highest_link}
use Rattle.gql_ast.specs.Tree.{trees_of, links_of}
use Rattle.gql_ast.specs.Meaning.{tree_of, link_of}
use Rattle.gql_ast.specs.ExprText.{more_exprs_text, links_text}
use Rattle.gql_ast.proofs.text.expressions.+expr_text.Given as goal

abbrev pub decreases-push_expr : goal.decreases-push_expr
decreases-push_expr l = 4 * height_of (tree_of l.expr.now)

abbrev pub decreases-push_between : goal.decreases-push_between
decreases-push_between l = 4 * height_of (tree_of l.expr.now) + 1

abbrev pub decreases-push_exprs : goal.decreases-push_exprs
decreases-push_exprs l = 4 * highest (map tree_of l.exprs.now) + 3

abbrev pub decreases-push_more_exprs : goal.decreases-push_more_exprs
decreases-push_more_exprs l = 4 * highest (map tree_of l.exprs.now) + 2

abbrev pub decreases-push_steps : goal.decreases-push_steps
decreases-push_steps l = 4 * highest_link (map link_of l.steps.now) + 2

abbrev pub invariant-push_more_exprs-loop-i : goal.invariant-push_more_exprs-loop-i
invariant-push_more_exprs-loop-i l =
    l.text ++ more_exprs_text (trees_of (map tree_of (drop l.i l.exprs))) ≡ l.fn.text ++ more_exprs_text (trees_of (map tree_of l.exprs))

abbrev pub invariant-push_steps-loop-i : goal.invariant-push_steps-loop-i
invariant-push_steps-loop-i l =
    l.text ++ links_text (links_of (map link_of (drop l.i l.steps))) ≡ l.fn.text ++ links_text (links_of (map link_of l.steps))
