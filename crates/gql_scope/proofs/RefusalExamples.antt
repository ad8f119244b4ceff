-- Examples of static refusals, computed: each was worked out by hand from the rules.
use Rattle.std.proofs.Common.{◌≡◌, ℕ, pos, true, false, List, [], ◌∷◌, codes, Option, Some, None, refl}
use Rattle.std.specs.Fmt.{digits}
use Rattle.std.specs.Str.{chars}
use Rattle.unicode_ident.specs.Ident.{is_xid_start, is_xid_continue}
use Rattle.ucd_table.specs.Rows.{in_ranges}
use Rattle.ucd_derived.specs.XidStartRanges.{xid_start_ranges}
use Rattle.ucd_derived.specs.XidContinueRanges.{xid_continue_ranges}
use Rattle.gql_values3.specs.Names.{reserved_words}
use Rattle.gql_values3.specs.Datum.{integer}
use Rattle.gql_values3.specs.declared.table.ColumnKind.TheVariants as kind
use Rattle.gql_expr_checks.specs.ExprMisuses.{misused, elsewhere, item}
use Rattle.gql_ast.specs.ExprText.{expr_text}
use Rattle.gql_ast.specs.RowAggregates.{row_aggregates}
use Rattle.gql_norm.specs.Places.{size}
use Rattle.gql_norm.specs.Declaration.{visible}
use Rattle.gql_norm.specs.PredicateSpot.{predicates_in}
use Rattle.gql_norm.specs.Termination.{least_length, has_empty_loop, unprotected}
use Rattle.gql_scope.specs.WholePatterns.{whole_refusal}
use Rattle.gql_ast.specs.Tree.{Tree, number, name, property, paren, listing, count_all, aggregate, sum, test, end_test, link, links_of, trees_of}
use Rattle.gql_ast.specs.declared.clause.Clause.{Clause}
use Rattle.gql_ast.specs.declared.clause.Clause.TheVariants as clause
use Rattle.gql_ast.specs.declared.clause.Counting.{Counting}
use Rattle.gql_ast.specs.declared.clause.Counting.TheVariants as counting
use Rattle.gql_ast.specs.declared.clause.LetItem.{LetItem}
use Rattle.gql_ast.specs.declared.expr.Expr.{Expr}
use Rattle.gql_ast.specs.declared.expr.Expr.TheVariants as expr
use Rattle.gql_ast.specs.declared.filler.Condition.{Condition}
use Rattle.gql_ast.specs.declared.filler.Condition.TheVariants as condition
use Rattle.gql_ast.specs.declared.filler.MapItem.{MapItem}
use Rattle.gql_ast.specs.declared.page.Page.TheVariants as page
use Rattle.gql_ast.specs.declared.page.RowCount.TheVariants as rows
use Rattle.gql_ast.specs.declared.page.SortDirection.TheVariants as direction
use Rattle.gql_ast.specs.declared.page.SortItem.{SortItem}
use Rattle.gql_ast.specs.declared.pattern.PathExpr.TheVariants as path
use Rattle.gql_ast.specs.declared.projection.ReturnItem.{ReturnItem}
use Rattle.gql_ast.specs.declared.projection.ReturnItems.{ReturnItems}
use Rattle.gql_ast.specs.declared.projection.ReturnItems.TheVariants as items
use Rattle.gql_ast.specs.declared.refusal.ColumnRef.TheVariants as column
use Rattle.gql_ast.specs.declared.refusal.Refusal.{Refusal}
use Rattle.gql_ast.specs.declared.refusal.Refusal.TheVariants as refusal
use Rattle.gql_ast.specs.declared.change.Arrow.TheVariants as arrow
use Rattle.gql_ast.specs.declared.graph_type.ElementBody.{ElementBody}
use Rattle.gql_ast.specs.declared.graph_type.TypeElement.{TypeElement}
use Rattle.gql_ast.specs.declared.graph_type.TypeElement.TheVariants as element
use Rattle.gql_values3.specs.declared.prop_kind.PropKind.TheVariants as of_type
use Rattle.gql_values3.specs.declared.prop_kind.Scalar.TheVariants as scalar
use Rattle.gql_ast.specs.declared.statement.CatalogStatement.TheVariants as catalog
use Rattle.gql_ast.specs.declared.statement.SessionStatement.TheVariants as session
use Rattle.gql_ast.specs.declared.statement.Statement.TheVariants as statement
use Rattle.gql_ast.specs.declared.words.Aggregate.TheVariants as aggregates
use Rattle.gql_ast.specs.declared.words.EdgeEnd.TheVariants as ends
use Rattle.gql_ast.specs.declared.words.Operator.TheVariants as operators
use Rattle.gql_ast.specs.declared.words.Quality.TheVariants as qualities
use Rattle.gql_ast.specs.declared.words.Sense.TheVariants as senses
use Rattle.gql_ast.specs.declared.words.SetQuantifier.{SetQuantifier}
use Rattle.gql_ast.specs.declared.words.SetQuantifier.TheVariants as quantifier

-- an element of a graph type without labels and properties
abbrev blank : ElementBody
blank = record { labels = None; properties = None }

-- expressions
abbrev one : Expr
one = expr.Number (codes "1")

abbrev var : List ℕ → Expr
var x = expr.Name x

abbrev set_of : Tree → Expr
set_of e = expr.List (e ∷ [])

-- an expression, and an aggregate over rows added to it
abbrev plus_count : Tree → Expr
plus_count e = expr.Sum e (link operators.Add count_all ∷ [])

-- clauses
abbrev node : List ℕ → Option Condition → Option Expr → Clause
node x c w = clause.Match (record {
  optional = false;
  pattern = record { different = false; paths = record { name = None; prefix = None; expr = path.Node (record { variable = Some x; labels = None; condition = c }) } ∷ []; condition = w };
})

abbrev match : List ℕ → Clause
match x = node x None None

abbrev has : List ℕ → Expr → MapItem
has x e = record { name = x; value = e }

abbrev to : List ℕ → Expr → LetItem
to x e = record { name = x; value = e }

abbrev give : List ℕ → Expr → Clause
give x e = clause.Let (to x e ∷ [])

abbrev loop : List ℕ → Expr → Option (Counting × List ℕ) → Clause
loop x e c = clause.For (record { name = x; list = e; counter = c })

abbrev key : Expr → SortItem
key e = record { key = e; direction = direction.Ascending; nulls = None }

abbrev plain : Expr → ReturnItem
plain e = record { value = e; name = None }

abbrev called : Expr → List ℕ → ReturnItem
called e x = record { value = e; name = Some x }

abbrev return : SetQuantifier → ReturnItems → Option (List (List ℕ)) → Option (List SortItem) → Clause
return q is g o = clause.Return (record { quantifier = q; items = is; grouping = g; order = o; skip = None; limit = None })

abbrev give_back : List ReturnItem → Clause
give_back is = return quantifier.All (items.Listed is) None None

-- RETURN 1
abbrev ends_so : Clause
ends_so = give_back (plain one ∷ [])

-- the refusal of a query where the parameter p alone is set
abbrev refused : List Clause → Option Refusal
refused cs = whole_refusal ((codes "p", integer (pos 1)) ∷ []) (statement.Query (record { clauses = cs }))

-- of SESSION SET VALUE $z = e
abbrev session_refused : Expr → Option Refusal
session_refused e = whole_refusal ((codes "p", integer (pos 1)) ∷ []) (statement.Session (session.SetValue (codes "z") e))

-- of CREATE GRAPH TYPE t with these elements
abbrev type_refused : List TypeElement → Option Refusal
type_refused es = whole_refusal [] (statement.Catalog (catalog.CreateType false (codes "t") (record { elements = es })))

-- {(a)-[]->(b), (a)}
an_unknown_end : type_refused (element.Edge (codes "a") arrow.Right blank (codes "b") ∷ element.Node (Some (codes "a")) blank ∷ []) ≡ Some (refusal.Variable (codes "b"))
an_unknown_end = refl

-- LET x = 1 LET x = 1 RETURN 1
a_let_name_that_is_a_column : refused (clause.Let (to (codes "x") one ∷ []) ∷ clause.Let (to (codes "x") one ∷ []) ∷ ends_so ∷ []) ≡ Some (refusal.Variable (codes "x"))
unfolding size visible predicates_in least_length has_empty_loop unprotected misused row_aggregates expr_text
a_let_name_that_is_a_column = refl

-- LET x = 1, y = x RETURN y
a_later_item_sees_an_earlier : refused (clause.Let (to (codes "x") one ∷ to (codes "y") (var (codes "x")) ∷ []) ∷ give_back (plain (var (codes "y")) ∷ []) ∷ []) ≡ None
unfolding size visible predicates_in least_length has_empty_loop unprotected misused row_aggregates expr_text
a_later_item_sees_an_earlier = refl

-- LET x = y, y = 1 RETURN 1
an_item_does_not_see_a_later : refused (clause.Let (to (codes "x") (var (codes "y")) ∷ to (codes "y") one ∷ []) ∷ ends_so ∷ []) ≡ Some (refusal.Variable (codes "y"))
unfolding size visible predicates_in least_length has_empty_loop unprotected misused row_aggregates expr_text
an_item_does_not_see_a_later = refl

-- LET x = 1, x = 1 RETURN 1
a_let_name_twice : refused (clause.Let (to (codes "x") one ∷ to (codes "x") one ∷ []) ∷ ends_so ∷ []) ≡ Some (refusal.Variable (codes "x"))
unfolding size visible predicates_in least_length has_empty_loop unprotected misused row_aggregates expr_text
a_let_name_twice = refl

-- LET x = 1, x = z RETURN 1
a_let_name_before_its_expression : refused (clause.Let (to (codes "x") one ∷ to (codes "x") (var (codes "z")) ∷ []) ∷ ends_so ∷ []) ≡ Some (refusal.Variable (codes "x"))
unfolding size visible predicates_in least_length has_empty_loop unprotected misused row_aggregates expr_text
a_let_name_before_its_expression = refl

-- LET x = x RETURN 1
a_let_name_is_not_seen_by_its_expression : refused (clause.Let (to (codes "x") (var (codes "x")) ∷ []) ∷ ends_so ∷ []) ≡ Some (refusal.Variable (codes "x"))
unfolding size visible predicates_in least_length has_empty_loop unprotected misused row_aggregates expr_text
a_let_name_is_not_seen_by_its_expression = refl

-- LET x = 1 FOR x IN [1] RETURN 1
a_for_name_that_is_a_column : refused (clause.Let (to (codes "x") one ∷ []) ∷ loop (codes "x") (set_of (number (codes "1"))) None ∷ ends_so ∷ []) ≡ Some (refusal.Variable (codes "x"))
unfolding size visible predicates_in least_length has_empty_loop unprotected misused row_aggregates expr_text
a_for_name_that_is_a_column = refl

-- FOR i IN [1] WITH OFFSET i RETURN 1
a_counter_with_the_name_of_the_item : refused (loop (codes "i") (set_of (number (codes "1"))) (Some (counting.Offset, codes "i")) ∷ ends_so ∷ []) ≡ Some (refusal.Variable (codes "i"))
unfolding size visible predicates_in least_length has_empty_loop unprotected misused row_aggregates expr_text
a_counter_with_the_name_of_the_item = refl

-- LET c = 1 FOR i IN [1] WITH ORDINALITY c RETURN 1
a_counter_that_is_a_column : refused (clause.Let (to (codes "c") one ∷ []) ∷ loop (codes "i") (set_of (number (codes "1"))) (Some (counting.Ordinality, codes "c")) ∷ ends_so ∷ []) ≡ Some (refusal.Variable (codes "c"))
unfolding size visible predicates_in least_length has_empty_loop unprotected misused row_aggregates expr_text
a_counter_that_is_a_column = refl

-- FOR i IN i RETURN 1
a_for_name_is_not_seen_by_its_list : refused (loop (codes "i") (var (codes "i")) None ∷ ends_so ∷ []) ≡ Some (refusal.Variable (codes "i"))
unfolding size visible predicates_in least_length has_empty_loop unprotected misused row_aggregates expr_text
a_for_name_is_not_seen_by_its_list = refl

-- FOR i IN y WITH OFFSET i RETURN 1
a_list_before_its_counter : refused (loop (codes "i") (var (codes "y")) (Some (counting.Offset, codes "i")) ∷ ends_so ∷ []) ≡ Some (refusal.Variable (codes "y"))
unfolding size visible predicates_in least_length has_empty_loop unprotected misused row_aggregates expr_text
a_list_before_its_counter = refl

-- FOR i IN [1] WITH OFFSET c RETURN i, c
a_counter_is_seen_behind : refused (loop (codes "i") (set_of (number (codes "1"))) (Some (counting.Offset, codes "c")) ∷ give_back (plain (var (codes "i")) ∷ plain (var (codes "c")) ∷ []) ∷ []) ≡ None
unfolding size visible predicates_in least_length has_empty_loop unprotected misused row_aggregates expr_text
a_counter_is_seen_behind = refl

-- MATCH (n WHERE n.a) RETURN n
a_node_sees_its_own_variable : refused (node (codes "n") (Some (condition.Where (expr.Property (codes "n") (codes "a")))) None ∷ give_back (plain (var (codes "n")) ∷ []) ∷ []) ≡ None
unfolding size visible predicates_in least_length has_empty_loop unprotected misused row_aggregates expr_text
a_node_sees_its_own_variable = refl

-- MATCH (n {a: m.b}) RETURN n
a_map_names_an_unknown : refused (node (codes "n") (Some (condition.Map (has (codes "a") (expr.Property (codes "m") (codes "b")) ∷ []))) None ∷ give_back (plain (var (codes "n")) ∷ []) ∷ []) ≡ Some (refusal.Variable (codes "m"))
unfolding size visible predicates_in least_length has_empty_loop unprotected misused row_aggregates expr_text
a_map_names_an_unknown = refl

-- MATCH (n) WHERE m RETURN n
the_condition_of_the_pattern : refused (node (codes "n") None (Some (var (codes "m"))) ∷ give_back (plain (var (codes "n")) ∷ []) ∷ []) ≡ Some (refusal.Variable (codes "m"))
unfolding size visible predicates_in least_length has_empty_loop unprotected misused row_aggregates expr_text
the_condition_of_the_pattern = refl

-- MATCH (n) ORDER BY m RETURN n
a_page_clause : refused (match (codes "n") ∷ clause.Page (page.Order (key (var (codes "m")) ∷ []) None None) ∷ give_back (plain (var (codes "n")) ∷ []) ∷ []) ≡ Some (refusal.Variable (codes "m"))
unfolding size visible predicates_in least_length has_empty_loop unprotected misused row_aggregates expr_text
a_page_clause = refl

-- MATCH (n) RETURN n AS m ORDER BY n
sort_keys_see_incoming_columns : refused (match (codes "n") ∷ return quantifier.All (items.Listed (called (var (codes "n")) (codes "m") ∷ [])) (None) (Some (key (var (codes "n")) ∷ [])) ∷ []) ≡ None
unfolding size visible predicates_in least_length has_empty_loop unprotected misused row_aggregates expr_text
sort_keys_see_incoming_columns = refl

-- MATCH (n) RETURN DISTINCT n AS m ORDER BY n
sort_keys_under_distinct : refused (match (codes "n") ∷ return quantifier.Distinct (items.Listed (called (var (codes "n")) (codes "m") ∷ [])) (None) (Some (key (var (codes "n")) ∷ [])) ∷ []) ≡ Some (refusal.Variable (codes "n"))
unfolding size visible predicates_in least_length has_empty_loop unprotected misused row_aggregates expr_text
sort_keys_under_distinct = refl

-- MATCH (n) RETURN DISTINCT n AS m ORDER BY m
sort_keys_see_outputs_under_distinct : refused (match (codes "n") ∷ return quantifier.Distinct (items.Listed (called (var (codes "n")) (codes "m") ∷ [])) (None) (Some (key (var (codes "m")) ∷ [])) ∷ []) ≡ None
unfolding size visible predicates_in least_length has_empty_loop unprotected misused row_aggregates expr_text
sort_keys_see_outputs_under_distinct = refl

-- MATCH (n) RETURN n AS m, COUNT(*) AS c ORDER BY n
sort_keys_under_grouping : refused (match (codes "n") ∷ return quantifier.All (items.Listed (called (var (codes "n")) (codes "m") ∷ called expr.CountAll (codes "c") ∷ [])) (None) (Some (key (var (codes "n")) ∷ [])) ∷ []) ≡ Some (refusal.Variable (codes "n"))
unfolding size visible predicates_in least_length has_empty_loop unprotected misused row_aggregates expr_text
sort_keys_under_grouping = refl

-- MATCH (n) RETURN n AS m GROUP BY m ORDER BY n
sort_keys_under_group_by : refused (match (codes "n") ∷ return quantifier.All (items.Listed (called (var (codes "n")) (codes "m") ∷ [])) (Some (codes "m" ∷ [])) (Some (key (var (codes "n")) ∷ [])) ∷ []) ≡ Some (refusal.Variable (codes "n"))
unfolding size visible predicates_in least_length has_empty_loop unprotected misused row_aggregates expr_text
sort_keys_under_group_by = refl

-- RETURN 1 AS a, a AS b
an_item_does_not_see_an_output : refused (give_back (called one (codes "a") ∷ called (var (codes "a")) (codes "b") ∷ []) ∷ []) ≡ Some (refusal.Variable (codes "a"))
unfolding size visible predicates_in least_length has_empty_loop unprotected misused row_aggregates expr_text
an_item_does_not_see_an_output = refl

-- MATCH (n) FILTER n IS SOURCE OF e RETURN n
an_edge_of_a_test : refused (match (codes "n") ∷ clause.Filter (expr.IsEnd (name (codes "n")) senses.Is ends.Source (codes "e")) ∷ give_back (plain (var (codes "n")) ∷ []) ∷ []) ≡ Some (refusal.Variable (codes "e"))
unfolding size visible predicates_in least_length has_empty_loop unprotected misused row_aggregates expr_text
an_edge_of_a_test = refl

-- SESSION SET VALUE $z = x
the_value_of_a_parameter_sees_no_columns : session_refused (var (codes "x")) ≡ Some (refusal.Variable (codes "x"))
unfolding size visible predicates_in least_length has_empty_loop unprotected misused row_aggregates expr_text
the_value_of_a_parameter_sees_no_columns = refl

-- LET n = 1 MATCH (n) RETURN n
a_node_that_is_a_plain_column : refused (clause.Let (to (codes "n") one ∷ []) ∷ match (codes "n") ∷ give_back (plain (var (codes "n")) ∷ []) ∷ []) ≡ Some (refusal.Kind (codes "n"))
unfolding size visible predicates_in least_length has_empty_loop unprotected misused row_aggregates expr_text
a_node_that_is_a_plain_column = refl

-- MATCH (n) MATCH (n) RETURN n
a_node_that_is_a_node : refused (match (codes "n") ∷ match (codes "n") ∷ give_back (plain (var (codes "n")) ∷ []) ∷ []) ≡ None
unfolding size visible predicates_in least_length has_empty_loop unprotected misused row_aggregates expr_text
a_node_that_is_a_node = refl

-- MATCH (n) LET m = n MATCH (m) RETURN m
a_bare_variable_keeps_its_kind : refused (match (codes "n") ∷ clause.Let (to (codes "m") (var (codes "n")) ∷ []) ∷ match (codes "m") ∷ give_back (plain (var (codes "m")) ∷ []) ∷ []) ≡ None
unfolding size visible predicates_in least_length has_empty_loop unprotected misused row_aggregates expr_text
a_bare_variable_keeps_its_kind = refl

-- MATCH (n) LET m = (n) MATCH (m) RETURN m
parentheses_make_a_value_plain : refused (match (codes "n") ∷ clause.Let (to (codes "m") (expr.Paren (name (codes "n"))) ∷ []) ∷ match (codes "m") ∷ give_back (plain (var (codes "m")) ∷ []) ∷ []) ≡ Some (refusal.Kind (codes "m"))
unfolding size visible predicates_in least_length has_empty_loop unprotected misused row_aggregates expr_text
parentheses_make_a_value_plain = refl

-- MATCH (n) FOR m IN [n] MATCH (m) RETURN m
an_item_of_a_list_is_plain : refused (match (codes "n") ∷ loop (codes "m") (set_of (name (codes "n"))) None ∷ match (codes "m") ∷ give_back (plain (var (codes "m")) ∷ []) ∷ []) ≡ Some (refusal.Kind (codes "m"))
unfolding size visible predicates_in least_length has_empty_loop unprotected misused row_aggregates expr_text
an_item_of_a_list_is_plain = refl

-- MATCH (n) FOR m IN n MATCH (m) RETURN m
an_item_of_a_node_is_plain : refused (match (codes "n") ∷ loop (codes "m") (var (codes "n")) None ∷ match (codes "m") ∷ give_back (plain (var (codes "m")) ∷ []) ∷ []) ≡ Some (refusal.Kind (codes "m"))
unfolding size visible predicates_in least_length has_empty_loop unprotected misused row_aggregates expr_text
an_item_of_a_node_is_plain = refl

-- MATCH (n) FOR m IN [n] WITH OFFSET c MATCH (c) RETURN c
a_counter_is_plain : refused (match (codes "n") ∷ loop (codes "m") (set_of (name (codes "n"))) (Some (counting.Offset, codes "c")) ∷ match (codes "c") ∷ give_back (plain (var (codes "c")) ∷ []) ∷ []) ≡ Some (refusal.Kind (codes "c"))
unfolding size visible predicates_in least_length has_empty_loop unprotected misused row_aggregates expr_text
a_counter_is_plain = refl

-- MATCH (n) LET m = n.a MATCH (m) RETURN m
a_property_is_plain : refused (match (codes "n") ∷ clause.Let (to (codes "m") (expr.Property (codes "n") (codes "a")) ∷ []) ∷ match (codes "m") ∷ give_back (plain (var (codes "m")) ∷ []) ∷ []) ≡ Some (refusal.Kind (codes "m"))
unfolding size visible predicates_in least_length has_empty_loop unprotected misused row_aggregates expr_text
a_property_is_plain = refl

-- LET n = 1, m = 2 MATCH (m) MATCH (n) RETURN 1
the_first_kind_in_the_text : refused (clause.Let (to (codes "n") one ∷ to (codes "m") one ∷ []) ∷ match (codes "m") ∷ match (codes "n") ∷ ends_so ∷ []) ≡ Some (refusal.Kind (codes "m"))
unfolding size visible predicates_in least_length has_empty_loop unprotected misused row_aggregates expr_text
the_first_kind_in_the_text = refl

-- LET n = 1 MATCH (n) RETURN z
an_unknown_name_before_a_kind : refused (clause.Let (to (codes "n") one ∷ []) ∷ match (codes "n") ∷ give_back (plain (var (codes "z")) ∷ []) ∷ []) ≡ Some (refusal.Variable (codes "z"))
unfolding size visible predicates_in least_length has_empty_loop unprotected misused row_aggregates expr_text
an_unknown_name_before_a_kind = refl

-- RETURN SUM(COUNT(*))
an_aggregate_in_an_aggregate : refused (give_back (plain (expr.Aggregate aggregates.Sum quantifier.All count_all) ∷ []) ∷ []) ≡ Some refusal.Misuse
unfolding size visible predicates_in least_length has_empty_loop unprotected misused row_aggregates expr_text
an_aggregate_in_an_aggregate = refl

-- RETURN SUM([MIN(1)])
an_aggregate_deep_in_an_aggregate : refused (give_back (plain (expr.Aggregate aggregates.Sum quantifier.All (listing (trees_of (aggregate aggregates.Min quantifier.All (number (codes "1")) ∷ [])))) ∷ []) ∷ []) ≡ Some refusal.Misuse
unfolding size visible predicates_in least_length has_empty_loop unprotected misused row_aggregates expr_text
an_aggregate_deep_in_an_aggregate = refl

-- RETURN COUNT(*) + COUNT(*) AS c
aggregates_side_by_side : refused (give_back (called (plus_count count_all) (codes "c") ∷ []) ∷ []) ≡ None
unfolding size visible predicates_in least_length has_empty_loop unprotected misused row_aggregates expr_text
aggregates_side_by_side = refl

-- MATCH (n WHERE COUNT(*)) RETURN 1
an_aggregate_in_a_node : refused (node (codes "n") (Some (condition.Where expr.CountAll)) None ∷ ends_so ∷ []) ≡ Some refusal.Misuse
unfolding size visible predicates_in least_length has_empty_loop unprotected misused row_aggregates expr_text
an_aggregate_in_a_node = refl

-- MATCH (n {a: COUNT(*)}) RETURN 1
an_aggregate_in_a_map : refused (node (codes "n") (Some (condition.Map (has (codes "a") expr.CountAll ∷ []))) None ∷ ends_so ∷ []) ≡ Some refusal.Misuse
unfolding size visible predicates_in least_length has_empty_loop unprotected misused row_aggregates expr_text
an_aggregate_in_a_map = refl

-- MATCH (n) WHERE COUNT(*) RETURN 1
an_aggregate_in_where : refused (node (codes "n") None (Some expr.CountAll) ∷ ends_so ∷ []) ≡ Some refusal.Misuse
unfolding size visible predicates_in least_length has_empty_loop unprotected misused row_aggregates expr_text
an_aggregate_in_where = refl

-- FILTER SUM(1) RETURN 1
an_aggregate_in_filter : refused (clause.Filter (expr.Aggregate aggregates.Sum quantifier.All (number (codes "1"))) ∷ ends_so ∷ []) ≡ Some refusal.Misuse
unfolding size visible predicates_in least_length has_empty_loop unprotected misused row_aggregates expr_text
an_aggregate_in_filter = refl

-- LET x = COUNT(*) RETURN 1
an_aggregate_in_let : refused (clause.Let (to (codes "x") expr.CountAll ∷ []) ∷ ends_so ∷ []) ≡ Some refusal.Misuse
unfolding size visible predicates_in least_length has_empty_loop unprotected misused row_aggregates expr_text
an_aggregate_in_let = refl

-- FOR x IN COLLECT_LIST(1) RETURN 1
an_aggregate_in_for : refused (loop (codes "x") (expr.Aggregate aggregates.CollectList quantifier.All (number (codes "1"))) None ∷ ends_so ∷ []) ≡ Some refusal.Misuse
unfolding size visible predicates_in least_length has_empty_loop unprotected misused row_aggregates expr_text
an_aggregate_in_for = refl

-- ORDER BY COUNT(*) RETURN 1
an_aggregate_in_a_page_clause : refused (clause.Page (page.Order (key expr.CountAll ∷ []) None None) ∷ ends_so ∷ []) ≡ Some refusal.Misuse
unfolding size visible predicates_in least_length has_empty_loop unprotected misused row_aggregates expr_text
an_aggregate_in_a_page_clause = refl

-- RETURN 1 AS a ORDER BY COUNT(*)
an_aggregate_in_a_sort_key : refused (return quantifier.All (items.Listed (called one (codes "a") ∷ [])) (None) (Some (key expr.CountAll ∷ [])) ∷ []) ≡ Some refusal.Misuse
unfolding size visible predicates_in least_length has_empty_loop unprotected misused row_aggregates expr_text
an_aggregate_in_a_sort_key = refl

-- SESSION SET VALUE $z = COUNT(*)
an_aggregate_in_a_parameter : session_refused expr.CountAll ≡ Some refusal.Misuse
unfolding size visible predicates_in least_length has_empty_loop unprotected misused row_aggregates expr_text
an_aggregate_in_a_parameter = refl

-- RETURN 1 AS a, 2 AS a ORDER BY COUNT(*)
a_misuse_before_a_column : refused (return quantifier.All (items.Listed (called one (codes "a") ∷ called one (codes "a") ∷ [])) (None) (Some (key expr.CountAll ∷ [])) ∷ []) ≡ Some refusal.Misuse
unfolding size visible predicates_in least_length has_empty_loop unprotected misused row_aggregates expr_text
a_misuse_before_a_column = refl

-- RETURN 1 AS a, 1 AS a
two_columns_of_one_name : refused (give_back (called one (codes "a") ∷ called one (codes "a") ∷ []) ∷ []) ≡ Some (refusal.Column (column.Name (codes "a")))
unfolding size visible predicates_in least_length has_empty_loop unprotected misused row_aggregates expr_text
two_columns_of_one_name = refl

-- LET x = 1 RETURN x, x
a_variable_twice : refused (clause.Let (to (codes "x") one ∷ []) ∷ give_back (plain (var (codes "x")) ∷ plain (var (codes "x")) ∷ []) ∷ []) ≡ Some (refusal.Column (column.Name (codes "x")))
unfolding size visible predicates_in least_length has_empty_loop unprotected misused row_aggregates expr_text
a_variable_twice = refl

-- LET x = 1 RETURN 1 AS x, x
a_name_and_a_variable : refused (clause.Let (to (codes "x") one ∷ []) ∷ give_back (called one (codes "x") ∷ plain (var (codes "x")) ∷ []) ∷ []) ≡ Some (refusal.Column (column.Name (codes "x")))
unfolding size visible predicates_in least_length has_empty_loop unprotected misused row_aggregates expr_text
a_name_and_a_variable = refl

-- RETURN 1, 1
one_canonical_text_twice : refused (give_back (plain one ∷ plain (expr.Number (codes "01")) ∷ []) ∷ []) ≡ Some (refusal.Column (column.Name (codes "1")))
unfolding size visible predicates_in least_length has_empty_loop unprotected misused row_aggregates expr_text
one_canonical_text_twice = refl

-- RETURN *
no_columns_for_all : refused (return quantifier.All (items.All) (None) (None) ∷ []) ≡ Some (refusal.Column column.All)
unfolding size visible predicates_in least_length has_empty_loop unprotected misused row_aggregates expr_text
no_columns_for_all = refl

-- LET x = 1 RETURN *
all_columns : refused (clause.Let (to (codes "x") one ∷ []) ∷ return quantifier.All (items.All) (None) (None) ∷ []) ≡ None
unfolding size visible predicates_in least_length has_empty_loop unprotected misused row_aggregates expr_text
all_columns = refl

-- MATCH (n {a: 1, b: 1, a: 1}) RETURN n
a_map_names_a_property_twice : refused (node (codes "n") (Some (condition.Map (has (codes "a") one ∷ has (codes "b") one ∷ has (codes "a") one ∷ []))) None ∷ give_back (plain (var (codes "n")) ∷ []) ∷ []) ≡ Some (refusal.Column (column.Property (codes "a")))
unfolding size visible predicates_in least_length has_empty_loop unprotected misused row_aggregates expr_text
a_map_names_a_property_twice = refl

-- MATCH (n) RETURN n.a + COUNT(*) AS c
a_column_outside_an_aggregate : refused (match (codes "n") ∷ give_back (called (plus_count (property (codes "n") (codes "a"))) (codes "c") ∷ []) ∷ []) ≡ Some (refusal.Column (column.Name (codes "n")))
unfolding size visible predicates_in least_length has_empty_loop unprotected misused row_aggregates expr_text
a_column_outside_an_aggregate = refl

-- MATCH (n) RETURN COUNT(n.a) AS c
a_column_within_an_aggregate : refused (match (codes "n") ∷ give_back (called (expr.Aggregate aggregates.Count quantifier.All (property (codes "n") (codes "a"))) (codes "c") ∷ []) ∷ []) ≡ None
unfolding size visible predicates_in least_length has_empty_loop unprotected misused row_aggregates expr_text
a_column_within_an_aggregate = refl

-- MATCH (n) RETURN n, COUNT(*) AS c
a_key_beside_an_aggregate : refused (match (codes "n") ∷ give_back (plain (var (codes "n")) ∷ called expr.CountAll (codes "c") ∷ []) ∷ []) ≡ None
unfolding size visible predicates_in least_length has_empty_loop unprotected misused row_aggregates expr_text
a_key_beside_an_aggregate = refl

-- LET x = 1, y = 1 RETURN x, y, COUNT(*) AS c GROUP BY x
group_by_omits_a_key : refused (clause.Let (to (codes "x") one ∷ to (codes "y") one ∷ []) ∷ return quantifier.All (items.Listed (plain (var (codes "x")) ∷ plain (var (codes "y")) ∷ called expr.CountAll (codes "c") ∷ [])) (Some (codes "x" ∷ [])) (None) ∷ []) ≡ Some (refusal.Column (column.Name (codes "y")))
unfolding size visible predicates_in least_length has_empty_loop unprotected misused row_aggregates expr_text
group_by_omits_a_key = refl

-- LET x = 1, y = 1 RETURN y, x, 1 AS z GROUP BY z
group_by_omits_two_keys : refused (clause.Let (to (codes "x") one ∷ to (codes "y") one ∷ []) ∷ return quantifier.All (items.Listed (plain (var (codes "y")) ∷ plain (var (codes "x")) ∷ called one (codes "z") ∷ [])) (Some (codes "z" ∷ [])) (None) ∷ []) ≡ Some (refusal.Column (column.Name (codes "y")))
unfolding size visible predicates_in least_length has_empty_loop unprotected misused row_aggregates expr_text
group_by_omits_two_keys = refl

-- LET x = 1 RETURN x, COUNT(*) AS c GROUP BY x, c
group_by_names_no_key : refused (clause.Let (to (codes "x") one ∷ []) ∷ return quantifier.All (items.Listed (plain (var (codes "x")) ∷ called expr.CountAll (codes "c") ∷ [])) (Some (codes "x" ∷ codes "c" ∷ [])) (None) ∷ []) ≡ Some (refusal.Column (column.Name (codes "c")))
unfolding size visible predicates_in least_length has_empty_loop unprotected misused row_aggregates expr_text
group_by_names_no_key = refl

-- LET x = 1 RETURN x GROUP BY z
group_by_names_an_unknown : refused (clause.Let (to (codes "x") one ∷ []) ∷ return quantifier.All (items.Listed (plain (var (codes "x")) ∷ [])) (Some (codes "z" ∷ [])) (None) ∷ []) ≡ Some (refusal.Column (column.Name (codes "z")))
unfolding size visible predicates_in least_length has_empty_loop unprotected misused row_aggregates expr_text
group_by_names_an_unknown = refl

-- LET x = 1 RETURN x AS y GROUP BY x
group_by_names_an_incoming_column : refused (clause.Let (to (codes "x") one ∷ []) ∷ return quantifier.All (items.Listed (called (var (codes "x")) (codes "y") ∷ [])) (Some (codes "x" ∷ [])) (None) ∷ []) ≡ Some (refusal.Column (column.Name (codes "x")))
unfolding size visible predicates_in least_length has_empty_loop unprotected misused row_aggregates expr_text
group_by_names_an_incoming_column = refl

-- LET x = 1 RETURN x GROUP BY x, x
group_by_names_a_key_twice : refused (clause.Let (to (codes "x") one ∷ []) ∷ return quantifier.All (items.Listed (plain (var (codes "x")) ∷ [])) (Some (codes "x" ∷ codes "x" ∷ [])) (None) ∷ []) ≡ Some (refusal.Column (column.Name (codes "x")))
unfolding size visible predicates_in least_length has_empty_loop unprotected misused row_aggregates expr_text
group_by_names_a_key_twice = refl

-- LET x = 1, y = 1 RETURN x, y GROUP BY y, x
group_by_in_any_order : refused (clause.Let (to (codes "x") one ∷ to (codes "y") one ∷ []) ∷ return quantifier.All (items.Listed (plain (var (codes "x")) ∷ plain (var (codes "y")) ∷ [])) (Some (codes "y" ∷ codes "x" ∷ [])) (None) ∷ []) ≡ None
unfolding size visible predicates_in least_length has_empty_loop unprotected misused row_aggregates expr_text
group_by_in_any_order = refl

-- LET x = 1 RETURN * GROUP BY x
all_columns_grouped : refused (clause.Let (to (codes "x") one ∷ []) ∷ return quantifier.All (items.All) (Some (codes "x" ∷ [])) (None) ∷ []) ≡ None
unfolding size visible predicates_in least_length has_empty_loop unprotected misused row_aggregates expr_text
all_columns_grouped = refl

-- LET x = 1, y = 1 RETURN * GROUP BY y
all_columns_grouped_by_one : refused (clause.Let (to (codes "x") one ∷ to (codes "y") one ∷ []) ∷ return quantifier.All (items.All) (Some (codes "y" ∷ [])) (None) ∷ []) ≡ Some (refusal.Column (column.Name (codes "x")))
unfolding size visible predicates_in least_length has_empty_loop unprotected misused row_aggregates expr_text
all_columns_grouped_by_one = refl

-- LET x = 1 RETURN 1 AS a, x + COUNT(*) AS a
the_first_column_in_the_text : refused (clause.Let (to (codes "x") one ∷ []) ∷ give_back (called one (codes "a") ∷ called (plus_count (name (codes "x"))) (codes "a") ∷ []) ∷ []) ≡ Some (refusal.Column (column.Name (codes "x")))
unfolding size visible predicates_in least_length has_empty_loop unprotected misused row_aggregates expr_text
the_first_column_in_the_text = refl

-- MATCH (n {a: 1, a: 1}) RETURN z
an_unknown_name_behind_before_a_column : refused (node (codes "n") (Some (condition.Map (has (codes "a") one ∷ has (codes "a") one ∷ []))) None ∷ give_back (plain (var (codes "z")) ∷ []) ∷ []) ≡ Some (refusal.Variable (codes "z"))
unfolding size visible predicates_in least_length has_empty_loop unprotected misused row_aggregates expr_text
an_unknown_name_behind_before_a_column = refl

-- RETURN $p AS a
a_parameter_that_is_set : refused (give_back (called (expr.Parameter (codes "p")) (codes "a") ∷ []) ∷ []) ≡ None
unfolding size visible predicates_in least_length has_empty_loop unprotected misused row_aggregates expr_text
a_parameter_that_is_set = refl

-- RETURN $q AS a
a_parameter_that_is_not_set : refused (give_back (called (expr.Parameter (codes "q")) (codes "a") ∷ []) ∷ []) ≡ Some (refusal.Parameter (codes "q"))
unfolding size visible predicates_in least_length has_empty_loop unprotected misused row_aggregates expr_text
a_parameter_that_is_not_set = refl

-- RETURN 1 AS a OFFSET $q
a_parameter_of_offset : refused (clause.Return (record { quantifier = quantifier.All; items = items.Listed (called one (codes "a") ∷ []); grouping = None; order = None; skip = Some (rows.Parameter (codes "q")); limit = None }) ∷ []) ≡ Some (refusal.Parameter (codes "q"))
unfolding size visible predicates_in least_length has_empty_loop unprotected misused row_aggregates expr_text
a_parameter_of_offset = refl

-- RETURN 1 AS a OFFSET $p LIMIT $q
a_parameter_of_limit : refused (clause.Return (record { quantifier = quantifier.All; items = items.Listed (called one (codes "a") ∷ []); grouping = None; order = None; skip = Some (rows.Parameter (codes "p")); limit = Some (rows.Parameter (codes "q")) }) ∷ []) ≡ Some (refusal.Parameter (codes "q"))
unfolding size visible predicates_in least_length has_empty_loop unprotected misused row_aggregates expr_text
a_parameter_of_limit = refl

-- RETURN 1 AS a OFFSET $q LIMIT $r
the_first_parameter_in_the_text : refused (clause.Return (record { quantifier = quantifier.All; items = items.Listed (called one (codes "a") ∷ []); grouping = None; order = None; skip = Some (rows.Parameter (codes "q")); limit = Some (rows.Parameter (codes "r")) }) ∷ []) ≡ Some (refusal.Parameter (codes "q"))
unfolding size visible predicates_in least_length has_empty_loop unprotected misused row_aggregates expr_text
the_first_parameter_in_the_text = refl

-- LIMIT $q RETURN $r AS a
a_parameter_of_a_page_clause : refused (clause.Page (page.Limit (rows.Parameter (codes "q"))) ∷ give_back (called (expr.Parameter (codes "r")) (codes "a") ∷ []) ∷ []) ≡ Some (refusal.Parameter (codes "q"))
unfolding size visible predicates_in least_length has_empty_loop unprotected misused row_aggregates expr_text
a_parameter_of_a_page_clause = refl

-- ORDER BY $q OFFSET $r RETURN 1
sort_keys_before_offset : refused (clause.Page (page.Order (key (expr.Parameter (codes "q")) ∷ []) (Some (rows.Parameter (codes "r"))) None) ∷ ends_so ∷ []) ≡ Some (refusal.Parameter (codes "q"))
unfolding size visible predicates_in least_length has_empty_loop unprotected misused row_aggregates expr_text
sort_keys_before_offset = refl

-- MATCH (n {a: $q}) RETURN n
a_parameter_of_a_map : refused (node (codes "n") (Some (condition.Map (has (codes "a") (expr.Parameter (codes "q")) ∷ []))) None ∷ give_back (plain (var (codes "n")) ∷ []) ∷ []) ≡ Some (refusal.Parameter (codes "q"))
unfolding size visible predicates_in least_length has_empty_loop unprotected misused row_aggregates expr_text
a_parameter_of_a_map = refl

-- FOR x IN $q RETURN x
a_parameter_of_for : refused (loop (codes "x") (expr.Parameter (codes "q")) None ∷ give_back (plain (var (codes "x")) ∷ []) ∷ []) ≡ Some (refusal.Parameter (codes "q"))
unfolding size visible predicates_in least_length has_empty_loop unprotected misused row_aggregates expr_text
a_parameter_of_for = refl

-- LET x = $q RETURN x
a_parameter_of_let : refused (clause.Let (to (codes "x") (expr.Parameter (codes "q")) ∷ []) ∷ give_back (plain (var (codes "x")) ∷ []) ∷ []) ≡ Some (refusal.Parameter (codes "q"))
unfolding size visible predicates_in least_length has_empty_loop unprotected misused row_aggregates expr_text
a_parameter_of_let = refl

-- SESSION SET VALUE $z = $p
the_parameter_that_is_given_a_value : session_refused (expr.Parameter (codes "p")) ≡ None
unfolding size visible predicates_in least_length has_empty_loop unprotected misused row_aggregates expr_text
the_parameter_that_is_given_a_value = refl

-- SESSION SET VALUE $z = $z
a_parameter_of_a_parameter : session_refused (expr.Parameter (codes "z")) ≡ Some (refusal.Parameter (codes "z"))
unfolding size visible predicates_in least_length has_empty_loop unprotected misused row_aggregates expr_text
a_parameter_of_a_parameter = refl

-- FILTER $q RETURN *
a_column_before_a_parameter : refused (clause.Filter (expr.Parameter (codes "q")) ∷ return quantifier.All (items.All) (None) (None) ∷ []) ≡ Some (refusal.Column column.All)
unfolding size visible predicates_in least_length has_empty_loop unprotected misused row_aggregates expr_text
a_column_before_a_parameter = refl

-- e.w, of a group e
a_property_of_a_group : misused ((codes "e", kind.Edges) ∷ []) item (property (codes "e") (codes "w")) ≡ true
unfolding size visible predicates_in least_length has_empty_loop unprotected misused
a_property_of_a_group = refl

-- SUM(e.w)
a_property_in_an_aggregate_over_the_group : misused ((codes "e", kind.Edges) ∷ []) elsewhere (aggregate aggregates.Sum quantifier.All (property (codes "e") (codes "w"))) ≡ false
unfolding size visible predicates_in least_length has_empty_loop unprotected misused
a_property_in_an_aggregate_over_the_group = refl

-- SUM(e.w + f.w)
an_argument_of_two_groups : misused ((codes "e", kind.Edges) ∷ (codes "f", kind.Edges) ∷ []) item (aggregate aggregates.Sum quantifier.All (sum (property (codes "e") (codes "w")) (links_of (link operators.Add (property (codes "f") (codes "w")) ∷ [])))) ≡ true
unfolding size visible predicates_in least_length has_empty_loop unprotected misused
an_argument_of_two_groups = refl

-- SUM(e.w + e.w)
an_argument_that_names_a_group_twice : misused ((codes "e", kind.Edges) ∷ (codes "f", kind.Edges) ∷ []) elsewhere (aggregate aggregates.Sum quantifier.All (sum (property (codes "e") (codes "w")) (links_of (link operators.Add (property (codes "e") (codes "w")) ∷ [])))) ≡ false
unfolding size visible predicates_in least_length has_empty_loop unprotected misused
an_argument_that_names_a_group_twice = refl

-- (e) IS NULL
a_test_of_a_group : misused ((codes "e", kind.Edges) ∷ []) item (test (paren (name (codes "e"))) senses.Is qualities.Null) ≡ true
unfolding size visible predicates_in least_length has_empty_loop unprotected misused
a_test_of_a_group = refl

-- [e] IS NULL
a_test_of_a_list_of_a_group : misused ((codes "e", kind.Edges) ∷ []) item (test (listing (trees_of (name (codes "e") ∷ []))) senses.Is qualities.Null) ≡ false
unfolding size visible predicates_in least_length has_empty_loop unprotected misused
a_test_of_a_list_of_a_group = refl

-- n IS SOURCE OF e
an_end_of_a_group : misused ((codes "e", kind.Edges) ∷ []) item (end_test (name (codes "n")) senses.Is ends.Source (codes "e")) ≡ true
unfolding size visible predicates_in least_length has_empty_loop unprotected misused
an_end_of_a_group = refl

-- e
a_group_by_its_name : misused ((codes "e", kind.Edges) ∷ []) elsewhere (name (codes "e")) ≡ false
unfolding size visible predicates_in least_length has_empty_loop unprotected misused
a_group_by_its_name = refl

-- SUM(e.w + COUNT(*))
an_aggregate_in_one_over_a_group : misused ((codes "e", kind.Edges) ∷ []) item (aggregate aggregates.Sum quantifier.All (sum (property (codes "e") (codes "w")) (links_of (link operators.Add count_all ∷ [])))) ≡ true
unfolding size visible predicates_in least_length has_empty_loop unprotected misused
an_aggregate_in_one_over_a_group = refl

-- MATCH (x) RETURN DISTINCT x.n ORDER BY x.n
a_sort_key_by_its_expression : refused (match (codes "x") ∷ return quantifier.Distinct (items.Listed (plain (expr.Property (codes "x") (codes "n")) ∷ [])) (None) (Some (key (expr.Property (codes "x") (codes "n")) ∷ [])) ∷ []) ≡ Some (refusal.Variable (codes "x"))
unfolding size visible predicates_in least_length has_empty_loop unprotected misused row_aggregates expr_text digits chars is_xid_start is_xid_continue in_ranges xid_start_ranges xid_continue_ranges reserved_words
a_sort_key_by_its_expression = refl

-- MATCH (x) RETURN DISTINCT x.n ORDER BY `x.n`
a_sort_key_by_its_column : refused (match (codes "x") ∷ return quantifier.Distinct (items.Listed (plain (expr.Property (codes "x") (codes "n")) ∷ [])) (None) (Some (key (var (codes "x.n")) ∷ [])) ∷ []) ≡ None
unfolding size visible predicates_in least_length has_empty_loop unprotected misused row_aggregates expr_text digits chars is_xid_start is_xid_continue in_ranges xid_start_ranges xid_continue_ranges reserved_words
a_sort_key_by_its_column = refl

-- MATCH (x) RETURN x.n, x.n
two_columns_of_one_text : refused (match (codes "x") ∷ give_back (plain (expr.Property (codes "x") (codes "n")) ∷ plain (expr.Property (codes "x") (codes "n")) ∷ []) ∷ []) ≡ Some (refusal.Column (column.Name (codes "x.n")))
unfolding size visible predicates_in least_length has_empty_loop unprotected misused row_aggregates expr_text digits chars is_xid_start is_xid_continue in_ranges xid_start_ranges xid_continue_ranges reserved_words
two_columns_of_one_text = refl

-- LET x = 1 RETURN 1 AS `COUNT(*) + x`, COUNT(*) + x
a_repeated_name_without_as_begins_its_item : refused (clause.Let (to (codes "x") one ∷ []) ∷ give_back (called one (codes "COUNT(*) + x") ∷ plain (expr.Sum count_all (link operators.Add (name (codes "x")) ∷ [])) ∷ []) ∷ []) ≡ Some (refusal.Column (column.Name (codes "COUNT(*) + x")))
unfolding size visible predicates_in least_length has_empty_loop unprotected misused row_aggregates expr_text digits chars is_xid_start is_xid_continue in_ranges xid_start_ranges xid_continue_ranges reserved_words
a_repeated_name_without_as_begins_its_item = refl

-- MATCH (x) RETURN 1 AS `COUNT(*) + x.n`, COUNT(*) + x.n
a_repeated_text_without_as_begins_its_item : refused (match (codes "x") ∷ give_back (called one (codes "COUNT(*) + x.n") ∷ plain (expr.Sum count_all (link operators.Add (property (codes "x") (codes "n")) ∷ [])) ∷ []) ∷ []) ≡ Some (refusal.Column (column.Name (codes "COUNT(*) + x.n")))
unfolding size visible predicates_in least_length has_empty_loop unprotected misused row_aggregates expr_text digits chars is_xid_start is_xid_continue in_ranges xid_start_ranges xid_continue_ranges reserved_words
a_repeated_text_without_as_begins_its_item = refl
