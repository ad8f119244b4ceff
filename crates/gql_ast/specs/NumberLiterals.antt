-- The number literals of a statement, and the first that is too large for an integer.
use Rattle.std.specs.Prelude.{ℕ, nat_lt, Bool, List, [], ◌∷◌, ◌++◌, find, Option, Some, None}
use Rattle.std.specs.List.{flat_map}
use Rattle.gql_values3.specs.Integers.{value_of_digits}
use Rattle.gql_ast.specs.Filler.{ConditionTree, FillerTree, properties, holds}
use Rattle.gql_ast.specs.Meaning.{tree_of}
use Rattle.gql_ast.specs.Pattern.{Pattern, Patterns, node, edge, paren as paren_pattern, repeated, optional, sequence, alternation, multiset_alternation, no_patterns, more_patterns}
use Rattle.gql_ast.specs.PatternMeaning.{pattern_of}
use Rattle.gql_ast.specs.Tree.{Tree, Trees, Link, Links, constant, unknown, number, parameter, name, property, paren, listing, count_all, aggregate, call, modulo, coalesce, signed, product, sum, comparing, test, label_test, end_test, negation, conjunction, disjunction, link, no_trees, more_trees, no_links, more_links}
use Rattle.gql_ast.specs.declared.change.ChangeClause.{ChangeClause}
use Rattle.gql_ast.specs.declared.change.ChangeClause.TheVariants as change
use Rattle.gql_ast.specs.declared.change.Fill.{Fill}
use Rattle.gql_ast.specs.declared.change.InsertPath.{InsertPath}
use Rattle.gql_ast.specs.declared.change.InsertStep.{InsertStep}
use Rattle.gql_ast.specs.declared.change.SetItem.{SetItem}
use Rattle.gql_ast.specs.declared.change.SetItem.TheVariants as set_item
use Rattle.gql_ast.specs.declared.clause.Clause.{Clause}
use Rattle.gql_ast.specs.declared.clause.Clause.TheVariants as clause
use Rattle.gql_ast.specs.declared.clause.LetItem.{LetItem}
use Rattle.gql_ast.specs.declared.expr.Expr.{Expr}
use Rattle.gql_ast.specs.declared.filler.MapItem.{MapItem}
use Rattle.gql_ast.specs.declared.page.Page.{Page}
use Rattle.gql_ast.specs.declared.page.Page.TheVariants as page
use Rattle.gql_ast.specs.declared.page.RowCount.{RowCount}
use Rattle.gql_ast.specs.declared.page.RowCount.TheVariants as row_count
use Rattle.gql_ast.specs.declared.page.SortItem.{SortItem}
use Rattle.gql_ast.specs.declared.path.GraphPattern.{GraphPattern}
use Rattle.gql_ast.specs.declared.path.PathPattern.{PathPattern}
use Rattle.gql_ast.specs.declared.path.Prefix.{Prefix}
use Rattle.gql_ast.specs.declared.path.Prefix.TheVariants as prefix
use Rattle.gql_ast.specs.declared.pattern.Quantifier.{Quantifier}
use Rattle.gql_ast.specs.declared.pattern.Quantifier.TheVariants as quantifier
use Rattle.gql_ast.specs.declared.projection.Return.{Return}
use Rattle.gql_ast.specs.declared.projection.ReturnItem.{ReturnItem}
use Rattle.gql_ast.specs.declared.projection.ReturnItems.{ReturnItems}
use Rattle.gql_ast.specs.declared.projection.ReturnItems.TheVariants as return_items
use Rattle.gql_ast.specs.declared.statement.SessionStatement.{SessionStatement}
use Rattle.gql_ast.specs.declared.statement.SessionStatement.TheVariants as session
use Rattle.gql_ast.specs.declared.statement.Statement.{Statement}
use Rattle.gql_ast.specs.declared.statement.Statement.TheVariants as statement

-- numbers by their digits, in the order of the text
abbrev pub Numerals : Type 0
Numerals = List (List ℕ)

-- those of an expression
abbrev mutual
  pub numbers_in : Tree → Numerals
  numbers_in (constant d) = []
  numbers_in unknown = []
  numbers_in (number digits) = digits ∷ []
  numbers_in (parameter p) = []
  numbers_in (name x) = []
  numbers_in (property x p) = []
  numbers_in (paren e) = numbers_in e
  numbers_in (listing es) = numbers_in_trees es
  numbers_in count_all = []
  numbers_in (aggregate g q e) = numbers_in e
  numbers_in (call f e) = numbers_in e
  numbers_in (modulo a b) = numbers_in a ++ numbers_in b
  numbers_in (coalesce e es) = numbers_in e ++ numbers_in_trees es
  numbers_in (signed s e) = numbers_in e
  numbers_in (product e ls) = numbers_in e ++ numbers_in_links ls
  numbers_in (sum e ls) = numbers_in e ++ numbers_in_links ls
  numbers_in (comparing op a b) = numbers_in a ++ numbers_in b
  numbers_in (test e s q) = numbers_in e
  numbers_in (label_test e s l) = numbers_in e
  numbers_in (end_test e s end x) = numbers_in e
  numbers_in (negation e) = numbers_in e
  numbers_in (conjunction e ls) = numbers_in e ++ numbers_in_links ls
  numbers_in (disjunction e ls) = numbers_in e ++ numbers_in_links ls

  pub numbers_in_link : Link → Numerals
  numbers_in_link (link op e) = numbers_in e

  pub numbers_in_trees : Trees → Numerals
  numbers_in_trees no_trees = []
  numbers_in_trees (more_trees e es) = numbers_in e ++ numbers_in_trees es

  pub numbers_in_links : Links → Numerals
  numbers_in_links no_links = []
  numbers_in_links (more_links l ls) = numbers_in_link l ++ numbers_in_links ls

-- those of what may be missing
abbrev pub within : {A : Type 0} → (A → Numerals) → Option A → Numerals
within f None = []
within f (Some x) = f x

-- a number that may be missing
abbrev pub numeral : Option (List ℕ) → Numerals
numeral None = []
numeral (Some digits) = digits ∷ []

-- the same of an expression of the code
abbrev pub numbers_in_expr : Expr → Numerals
numbers_in_expr e = numbers_in (tree_of e)

-- those of a path pattern
abbrev pub numbers_in_named : List ℕ × Tree → Numerals
numbers_in_named p = numbers_in p.1

-- those of the properties or the WHERE of a node or an edge
abbrev pub numbers_in_condition : ConditionTree → Numerals
numbers_in_condition (properties ps) = flat_map numbers_in_named ps
numbers_in_condition (holds e) = numbers_in e

-- those between the brackets of a node or an edge; labels have none
abbrev pub numbers_in_filler : FillerTree → Numerals
numbers_in_filler f = within numbers_in_condition f.condition

-- the numbers that say how often a part of a pattern stands
abbrev pub numbers_in_quantifier : Quantifier → Numerals
numbers_in_quantifier quantifier.Star = []
numbers_in_quantifier quantifier.Plus = []
numbers_in_quantifier (quantifier.Exactly n) = n ∷ []
numbers_in_quantifier (quantifier.Between m n) = numeral m ++ numeral n

-- those of a path pattern without its prefix, in the order of the text
abbrev mutual
  pub numbers_in_pattern : Pattern → Numerals
  numbers_in_pattern (node f) = numbers_in_filler f
  numbers_in_pattern (edge d f) = numbers_in_filler f
  numbers_in_pattern (paren_pattern m x c) = numbers_in_pattern x ++ within numbers_in c
  numbers_in_pattern (repeated x q) = numbers_in_pattern x ++ numbers_in_quantifier q
  numbers_in_pattern (optional x) = numbers_in_pattern x
  numbers_in_pattern (sequence x xs) = numbers_in_pattern x ++ numbers_in_patterns xs
  numbers_in_pattern (alternation x xs) = numbers_in_pattern x ++ numbers_in_patterns xs
  numbers_in_pattern (multiset_alternation x xs) = numbers_in_pattern x ++ numbers_in_patterns xs

  pub numbers_in_patterns : Patterns → Numerals
  numbers_in_patterns no_patterns = []
  numbers_in_patterns (more_patterns x xs) = numbers_in_pattern x ++ numbers_in_patterns xs

-- how many paths a selector keeps
abbrev pub numbers_in_prefix : Prefix → Numerals
numbers_in_prefix (prefix.Mode m) = []
numbers_in_prefix (prefix.All m) = []
numbers_in_prefix (prefix.Any n m) = numeral n
numbers_in_prefix (prefix.AllShortest m) = []
numbers_in_prefix (prefix.AnyShortest m) = []
numbers_in_prefix (prefix.Shortest n m) = n ∷ []
numbers_in_prefix (prefix.ShortestGroups n m) = numeral n

-- those of the prefix, and then those of the pattern
abbrev pub numbers_in_path : PathPattern → Numerals
numbers_in_path p = within numbers_in_prefix p.prefix ++ numbers_in_pattern (pattern_of p.expr)

-- those of the path patterns of a MATCH, and then those of its WHERE
abbrev pub numbers_in_graph_pattern : GraphPattern → Numerals
numbers_in_graph_pattern g = flat_map numbers_in_path g.paths ++ within numbers_in_expr g.condition

-- those of a number of rows, for OFFSET or LIMIT
abbrev pub numbers_in_count : RowCount → Numerals
numbers_in_count (row_count.Number digits) = digits ∷ []
numbers_in_count (row_count.Parameter p) = []

-- those of a key of ORDER BY
abbrev pub numbers_in_key : SortItem → Numerals
numbers_in_key i = numbers_in_expr i.key

-- those of ORDER BY
abbrev pub numbers_in_order : List SortItem → Numerals
numbers_in_order is = flat_map numbers_in_key is

-- those of OFFSET, and then those of LIMIT
abbrev pub numbers_in_range : Option RowCount → Option RowCount → Numerals
numbers_in_range skip limit = within numbers_in_count skip ++ within numbers_in_count limit

-- those of ORDER BY, OFFSET and LIMIT together
abbrev pub numbers_in_page : Page → Numerals
numbers_in_page (page.Order is skip limit) = numbers_in_order is ++ numbers_in_range skip limit
numbers_in_page (page.Skip skip limit) = numbers_in_count skip ++ within numbers_in_count limit
numbers_in_page (page.Limit limit) = numbers_in_count limit

-- those of the value of a map's entry
abbrev pub numbers_in_entry : MapItem → Numerals
numbers_in_entry i = numbers_in_expr i.value

-- those of a map
abbrev pub numbers_in_map : List MapItem → Numerals
numbers_in_map is = flat_map numbers_in_entry is

-- those of what fills a node or an edge of INSERT
abbrev pub numbers_in_fill : Fill → Numerals
numbers_in_fill f = within numbers_in_map f.map

-- those of an edge of INSERT, and then those of the node behind it
abbrev pub numbers_in_step : InsertStep → Numerals
numbers_in_step s = numbers_in_fill s.edge ++ numbers_in_fill s.node

-- those of a path of INSERT
abbrev pub numbers_in_insert : InsertPath → Numerals
numbers_in_insert p = numbers_in_fill p.start ++ flat_map numbers_in_step p.steps

-- those of an item of SET
abbrev pub numbers_in_set : SetItem → Numerals
numbers_in_set (set_item.Property x p e) = numbers_in_expr e
numbers_in_set (set_item.Label x l) = []

-- those of a change
abbrev pub numbers_in_change : ChangeClause → Numerals
numbers_in_change (change.Insert ps) = flat_map numbers_in_insert ps
numbers_in_change (change.Set is) = flat_map numbers_in_set is
numbers_in_change (change.Remove is) = []
numbers_in_change (change.Delete d xs) = []

-- those of a column of RETURN
abbrev pub numbers_in_column : ReturnItem → Numerals
numbers_in_column i = numbers_in_expr i.value

-- those of the columns of RETURN
abbrev pub numbers_in_columns : ReturnItems → Numerals
numbers_in_columns return_items.All = []
numbers_in_columns (return_items.Listed is) = flat_map numbers_in_column is

-- those of RETURN: its columns, and then its order, OFFSET and LIMIT
abbrev pub numbers_in_return : Return → Numerals
numbers_in_return r = numbers_in_columns r.items ++ within numbers_in_order r.order ++ numbers_in_range r.skip r.limit

-- those of the value that LET names
abbrev pub numbers_in_let : LetItem → Numerals
numbers_in_let i = numbers_in_expr i.value

-- those of a clause
abbrev pub numbers_in_clause : Clause → Numerals
numbers_in_clause (clause.Match m) = numbers_in_graph_pattern m.pattern
numbers_in_clause (clause.Let is) = flat_map numbers_in_let is
numbers_in_clause (clause.Filter e) = numbers_in_expr e
numbers_in_clause (clause.For f) = numbers_in_expr f.list
numbers_in_clause (clause.Page p) = numbers_in_page p
numbers_in_clause (clause.Change c) = numbers_in_change c
numbers_in_clause (clause.Return r) = numbers_in_return r

-- those of SESSION SET VALUE; other statements about the session have none
abbrev pub numbers_in_session : SessionStatement → Numerals
numbers_in_session (session.SetValue p e) = numbers_in_expr e
numbers_in_session _ = []

-- all number literals of a statement
abbrev pub numbers_in_statement : Statement → Numerals
numbers_in_statement (statement.Query q) = flat_map numbers_in_clause q.clauses
numbers_in_statement (statement.Session s) = numbers_in_session s
numbers_in_statement (statement.Transaction t) = []
numbers_in_statement (statement.Catalog c) = []

-- above the largest integer
abbrev pub is_wide : List ℕ → Bool
is_wide digits = nat_lt 9223372036854775807 (value_of_digits digits)

-- the first number literal that is above the largest integer
abbrev pub wide_number : Statement → Option (List ℕ)
wide_number s = find is_wide (numbers_in_statement s)
