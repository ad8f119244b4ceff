-- How high an expression is: one more than its highest part.
use Rattle.std.specs.Prelude.{ℕ, ◌+◌, max, List}
use Rattle.gql_ast.specs.Tree.{Tree, Trees, Link, Links, trees_of, links_of, constant, unknown, number, parameter, name, property, paren, listing, count_all, aggregate, call, modulo, coalesce, signed, product, sum, comparing, test, label_test, end_test, negation, conjunction, disjunction, link, no_trees, more_trees, no_links, more_links}

abbrev mutual
  pub height_of : Tree → ℕ
  height_of (constant d) = 1
  height_of unknown = 1
  height_of (number n) = 1
  height_of (parameter n) = 1
  height_of (name n) = 1
  height_of (property n p) = 1
  height_of (paren e) = height_of e + 1
  height_of (listing es) = heights_of es + 1
  height_of count_all = 1
  height_of (aggregate g s e) = height_of e + 1
  height_of (call f e) = height_of e + 1
  height_of (modulo a b) = max (height_of a) (height_of b) + 1
  height_of (coalesce e es) = max (height_of e) (heights_of es) + 1
  height_of (signed s e) = height_of e + 1
  height_of (product e ls) = max (height_of e) (links_height_of ls) + 1
  height_of (sum e ls) = max (height_of e) (links_height_of ls) + 1
  height_of (comparing op a b) = max (height_of a) (height_of b) + 1
  height_of (test e s q) = height_of e + 1
  height_of (label_test e s l) = height_of e + 1
  height_of (end_test e s end n) = height_of e + 1
  height_of (negation e) = height_of e + 1
  height_of (conjunction e ls) = max (height_of e) (links_height_of ls) + 1
  height_of (disjunction e ls) = max (height_of e) (links_height_of ls) + 1

  -- the operand's height, and one more
  pub link_height_of : Link → ℕ
  link_height_of (link o e) = height_of e + 1

  -- the greatest height of the items of a list
  pub heights_of : Trees → ℕ
  heights_of no_trees = 0
  heights_of (more_trees e es) = max (height_of e) (heights_of es)

  pub links_height_of : Links → ℕ
  links_height_of no_links = 0
  links_height_of (more_links l ls) = max (link_height_of l) (links_height_of ls)

-- the same of a list
abbrev pub highest : List Tree → ℕ
highest es = heights_of (trees_of es)

abbrev pub highest_link : List Link → ℕ
highest_link ls = links_height_of (links_of ls)
