-- What an expression means: its plain data.
use Rattle.gql_values3.specs.Meaning.{datum_of, as_value}
use Rattle.gql_ast.specs.LabelMeaning.{label_of, label_expr_of}
use Rattle.gql_ast.specs.Tree.{Tree, Link, trees_of, links_of, items_of_trees, items_of_links, constant, unknown, number, parameter, name, property, paren, listing, count_all, aggregate, call, modulo, coalesce, signed, product, sum, comparing, test, label_test, end_test, negation, conjunction, disjunction, link}
use Rattle.gql_ast.specs.declared.expr.Expr.{Expr}
use Rattle.gql_ast.specs.declared.expr.Step.{Step}
use Rattle.gql_ast.specs.declared.expr.Expr.TheVariants as expr

-- the tree that an expression means; its constants mean their data
abbrev pub tree_of : Expr → Tree
tree_of (expr.Constant d) = constant (datum_of d)
tree_of expr.Unknown = unknown
tree_of (expr.Number n) = number n
tree_of (expr.Parameter n) = parameter n
tree_of (expr.Name n) = name n
tree_of (expr.Property n p) = property n p
tree_of (expr.Paren e) = paren e
tree_of (expr.List es) = listing (trees_of es)
tree_of expr.CountAll = count_all
tree_of (expr.Aggregate g s e) = aggregate g s e
tree_of (expr.Call f e) = call f e
tree_of (expr.Mod a b) = modulo a b
tree_of (expr.Coalesce e es) = coalesce e (trees_of es)
tree_of (expr.Signed s e) = signed s e
tree_of (expr.Product e ls) = product e (links_of ls)
tree_of (expr.Sum e ls) = sum e (links_of ls)
tree_of (expr.Compare op a b) = comparing op a b
tree_of (expr.Is e s q) = test e s q
tree_of (expr.IsLabeled e s l) = label_test e s (label_of l)
tree_of (expr.IsEnd e s end n) = end_test e s end n
tree_of (expr.Not e) = negation e
tree_of (expr.And e ls) = conjunction e (links_of ls)
tree_of (expr.Or e ls) = disjunction e (links_of ls)

-- the same of a step
abbrev pub link_of : Step → Link
link_of s = link s.operator (tree_of s.operand)

-- the expression that means a tree
abbrev pub expr_of : Tree → Expr
expr_of (constant d) = expr.Constant (as_value d)
expr_of unknown = expr.Unknown
expr_of (number n) = expr.Number n
expr_of (parameter n) = expr.Parameter n
expr_of (name n) = expr.Name n
expr_of (property n p) = expr.Property n p
expr_of (paren e) = expr.Paren e
expr_of (listing es) = expr.List (items_of_trees es)
expr_of count_all = expr.CountAll
expr_of (aggregate g s e) = expr.Aggregate g s e
expr_of (call f e) = expr.Call f e
expr_of (modulo a b) = expr.Mod a b
expr_of (coalesce e es) = expr.Coalesce e (items_of_trees es)
expr_of (signed s e) = expr.Signed s e
expr_of (product e ls) = expr.Product e (items_of_links ls)
expr_of (sum e ls) = expr.Sum e (items_of_links ls)
expr_of (comparing op a b) = expr.Compare op a b
expr_of (test e s q) = expr.Is e s q
expr_of (label_test e s l) = expr.IsLabeled e s (label_expr_of l)
expr_of (end_test e s end n) = expr.IsEnd e s end n
expr_of (negation e) = expr.Not e
expr_of (conjunction e ls) = expr.And e (items_of_links ls)
expr_of (disjunction e ls) = expr.Or e (items_of_links ls)
