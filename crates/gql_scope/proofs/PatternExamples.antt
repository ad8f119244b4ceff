-- Examples of static refusals of statements over whole patterns, computed: each was worked out by hand from the rules.
use Rattle.std.proofs.Common.{◌≡◌, ℕ, pos, false, List, [], ◌∷◌, codes, Option, Some, None, refl}
use Rattle.gql_values3.specs.Datum.{integer}
use Rattle.gql_ast.specs.ExprText.{expr_text}
use Rattle.gql_ast.specs.Filler.{FillerTree, properties}
use Rattle.gql_ast.specs.Pattern.{node, edge, paren, repeated, optional, sequence, patterns_of}
use Rattle.gql_ast.specs.RowAggregates.{row_aggregates}
use Rattle.gql_ast.specs.Tree.{Tree, number, name, property, parameter}
use Rattle.gql_ast.specs.declared.clause.Clause.{Clause}
use Rattle.gql_ast.specs.declared.clause.Clause.TheVariants as clause
use Rattle.gql_ast.specs.declared.expr.Expr.{Expr}
use Rattle.gql_ast.specs.declared.expr.Expr.TheVariants as expr
use Rattle.gql_ast.specs.declared.filler.Condition.TheVariants as condition
use Rattle.gql_ast.specs.declared.pattern.Direction.TheVariants as direction
use Rattle.gql_ast.specs.declared.pattern.PathExpr.{PathExpr}
use Rattle.gql_ast.specs.declared.pattern.PathExpr.TheVariants as path
use Rattle.gql_ast.specs.declared.pattern.Quantifier.{Quantifier}
use Rattle.gql_ast.specs.declared.pattern.Quantifier.TheVariants as quantifier
use Rattle.gql_ast.specs.declared.projection.ReturnItems.TheVariants as items
use Rattle.gql_ast.specs.declared.refusal.ColumnRef.TheVariants as column
use Rattle.gql_ast.specs.declared.refusal.Refusal.{Refusal}
use Rattle.gql_ast.specs.declared.refusal.Refusal.TheVariants as refusal
use Rattle.gql_ast.specs.declared.statement.Statement.TheVariants as statement
use Rattle.gql_ast.specs.declared.words.SetQuantifier.TheVariants as quantifiers
use Rattle.gql_expr_checks.specs.ExprMisuses.{misused}
use Rattle.gql_norm.specs.Places.{size}
use Rattle.gql_norm.specs.Declaration.{visible}
use Rattle.gql_norm.specs.PredicateSpot.{predicates_in}
use Rattle.gql_norm.specs.Termination.{least_length, has_empty_loop, unprotected}
use Rattle.gql_scope.specs.StatementBounds.{first_bound}
use Rattle.gql_scope.specs.WholePatterns.{whole_refusal}

-- the refusal of a query where the parameter p alone is set
abbrev refused : List Clause → Option Refusal
refused cs = whole_refusal ((codes "p", integer (pos 1)) ∷ []) (statement.Query (record { clauses = cs }))

abbrev one : Expr
one = expr.Number (codes "1")

abbrev give_back : Expr → Clause
give_back e = clause.Return (record { quantifier = quantifiers.All; items = items.Listed (record { value = e; name = None } ∷ []); grouping = None; order = None; skip = None; limit = None })

-- fillers: `x`, and `x {n: e}`
abbrev called : List ℕ → FillerTree
called x = record { variable = Some x; labels = None; condition = None }

abbrev with_n : List ℕ → Tree → FillerTree
with_n x e = record { variable = Some x; labels = None; condition = Some (properties ((codes "n", e) ∷ [])) }

abbrev match : PathExpr → Clause
match e = clause.Match (record { optional = false; pattern = record { different = false; paths = record { name = None; prefix = None; expr = e } ∷ []; condition = None } })

-- (a)-[f]->(b), and with a quantifier behind the edge
abbrev step_from : FillerTree → FillerTree → FillerTree → PathExpr
step_from a f b = path.Concat (node a) (edge direction.Right f ∷ node b ∷ [])

abbrev steps_from : FillerTree → FillerTree → Quantifier → FillerTree → PathExpr
steps_from a f q b = path.Concat (node a) (repeated (edge direction.Right f) q ∷ node b ∷ [])

abbrev up_to_two : Quantifier
up_to_two = quantifier.Between (Some (codes "1")) (Some (codes "2"))

-- (x)(-[f]->(y))?
abbrev perhaps : List ℕ → List ℕ → List ℕ → PathExpr
perhaps x f y = path.Concat (node (called x)) (optional (paren None (sequence (edge direction.Right (called f)) (patterns_of (node (called y) ∷ []))) None) ∷ [])

-- MATCH (x)-[e]->(y) RETURN e
an_edge_is_a_column : refused (match (step_from (called (codes "x")) (called (codes "e")) (called (codes "y"))) ∷ give_back (expr.Name (codes "e")) ∷ []) ≡ None
unfolding size visible predicates_in least_length has_empty_loop unprotected misused row_aggregates expr_text
an_edge_is_a_column = refl

-- MATCH (x)-[e]->(y) RETURN z
a_name_that_no_element_has : refused (match (step_from (called (codes "x")) (called (codes "e")) (called (codes "y"))) ∷ give_back (expr.Name (codes "z")) ∷ []) ≡ Some (refusal.Variable (codes "z"))
unfolding size visible predicates_in least_length has_empty_loop unprotected misused row_aggregates expr_text
a_name_that_no_element_has = refl

-- MATCH (x {n: e.n})-[e]->(y) RETURN 1
a_name_before_its_element : refused (match (step_from (with_n (codes "x") (property (codes "e") (codes "n"))) (called (codes "e")) (called (codes "y"))) ∷ give_back one ∷ []) ≡ Some (refusal.Variable (codes "e"))
unfolding size visible predicates_in least_length has_empty_loop unprotected misused row_aggregates expr_text
a_name_before_its_element = refl

-- MATCH (x)-[x]->(y) RETURN 1
one_name_for_a_node_and_an_edge : refused (match (step_from (called (codes "x")) (called (codes "x")) (called (codes "y"))) ∷ give_back one ∷ []) ≡ Some (refusal.Kind (codes "x"))
unfolding size visible predicates_in least_length has_empty_loop unprotected misused row_aggregates expr_text
one_name_for_a_node_and_an_edge = refl

-- MATCH (x)-[e]->(y) MATCH (e) RETURN 1
a_column_of_an_edge_is_no_node : refused (match (step_from (called (codes "x")) (called (codes "e")) (called (codes "y"))) ∷ match (path.Node (record { variable = Some (codes "e"); labels = None; condition = None })) ∷ give_back one ∷ []) ≡ Some (refusal.Kind (codes "e"))
unfolding size visible predicates_in least_length has_empty_loop unprotected misused row_aggregates expr_text
a_column_of_an_edge_is_no_node = refl

-- MATCH (x)-[e]->{1,2}(y) MATCH (y)-[e]->(z) RETURN 1
a_group_of_an_earlier_clause_is_joined : refused (match (steps_from (called (codes "x")) (called (codes "e")) up_to_two (called (codes "y"))) ∷ match (step_from (called (codes "y")) (called (codes "e")) (called (codes "z"))) ∷ give_back one ∷ []) ≡ Some (refusal.GroupJoin (codes "e"))
unfolding size visible predicates_in least_length has_empty_loop unprotected misused row_aggregates expr_text
a_group_of_an_earlier_clause_is_joined = refl

-- MATCH (x)-[e]->(y) MATCH (z)(-[f]->(y))? RETURN 1
a_conditional_is_joined_with_a_column : refused (match (step_from (called (codes "x")) (called (codes "e")) (called (codes "y"))) ∷ match (perhaps (codes "z") (codes "f") (codes "y")) ∷ give_back one ∷ []) ≡ Some (refusal.CondJoin (codes "y"))
unfolding size visible predicates_in least_length has_empty_loop unprotected misused row_aggregates expr_text
a_conditional_is_joined_with_a_column = refl

-- MATCH (x){2,} RETURN 1
a_loop_without_an_edge : refused ((match (path.Repeat (node (called (codes "x"))) (quantifier.Between (Some (codes "2")) None))) ∷ give_back one ∷ []) ≡ Some refusal.EmptyLoop
unfolding size visible predicates_in least_length has_empty_loop unprotected misused row_aggregates expr_text
a_loop_without_an_edge = refl

-- MATCH (x){2,} RETURN z: the codes come before the clauses
a_later_clause_with_an_earlier_code : refused ((match (path.Repeat (node (called (codes "x"))) (quantifier.Between (Some (codes "2")) None))) ∷ give_back (expr.Name (codes "z")) ∷ []) ≡ Some (refusal.Variable (codes "z"))
unfolding size visible predicates_in least_length has_empty_loop unprotected misused row_aggregates expr_text
a_later_clause_with_an_earlier_code = refl

-- MATCH (x)-[e]->*(y) RETURN 1
a_star_is_unbounded : refused (match (steps_from (called (codes "x")) (called (codes "e")) quantifier.Star (called (codes "y"))) ∷ give_back one ∷ []) ≡ Some refusal.Unbounded
unfolding size visible predicates_in least_length has_empty_loop unprotected misused row_aggregates expr_text
a_star_is_unbounded = refl

-- MATCH (x)-[e]->{1,2}(y) RETURN e.n
a_property_of_a_group : refused (match (steps_from (called (codes "x")) (called (codes "e")) up_to_two (called (codes "y"))) ∷ give_back (expr.Property (codes "e") (codes "n")) ∷ []) ≡ Some refusal.Misuse
unfolding size visible predicates_in least_length has_empty_loop unprotected misused row_aggregates expr_text
a_property_of_a_group = refl

-- MATCH (x)-[e {n: 1, n: 1}]->(y) RETURN 1
a_property_twice_at_an_edge : refused (match (step_from (called (codes "x")) (record { variable = Some (codes "e"); labels = None; condition = Some (properties ((codes "n", number (codes "1")) ∷ (codes "n", number (codes "1")) ∷ [])) }) (called (codes "y"))) ∷ give_back one ∷ []) ≡ Some (refusal.Column (column.Property (codes "n")))
unfolding size visible predicates_in least_length has_empty_loop unprotected misused row_aggregates expr_text
a_property_twice_at_an_edge = refl

-- MATCH (x)-[e {n: $q}]->(y) RETURN 1
a_parameter_at_an_edge : refused (match (step_from (called (codes "x")) (with_n (codes "e") (parameter (codes "q"))) (called (codes "y"))) ∷ give_back one ∷ []) ≡ Some (refusal.Parameter (codes "q"))
unfolding size visible predicates_in least_length has_empty_loop unprotected misused row_aggregates expr_text
a_parameter_at_an_edge = refl

-- a node by itself
abbrev alone : Expr → Clause
alone e = match (path.Node (record { variable = Some (codes "x"); labels = None; condition = Some (condition.Map (record { name = codes "n"; value = e } ∷ [])) }))

-- MATCH (x {n: x.n}) RETURN x
a_node_sees_itself : refused (alone (expr.Property (codes "x") (codes "n")) ∷ give_back (expr.Name (codes "x")) ∷ []) ≡ None
unfolding size visible predicates_in least_length has_empty_loop unprotected misused row_aggregates expr_text
a_node_sees_itself = refl

-- MATCH (x {n: z}) RETURN x
a_node_sees_no_other : refused (alone (expr.Name (codes "z")) ∷ give_back (expr.Name (codes "x")) ∷ []) ≡ Some (refusal.Variable (codes "z"))
unfolding size visible predicates_in least_length has_empty_loop unprotected misused row_aggregates expr_text
a_node_sees_no_other = refl

-- MATCH (x {n: COUNT(*)}) RETURN x
no_aggregate_in_a_node : refused (alone expr.CountAll ∷ give_back (expr.Name (codes "x")) ∷ []) ≡ Some refusal.Misuse
unfolding size visible predicates_in least_length has_empty_loop unprotected misused row_aggregates expr_text
no_aggregate_in_a_node = refl

-- MATCH (x {n: $q}) RETURN x
a_parameter_in_a_node : refused (alone (expr.Parameter (codes "q")) ∷ give_back (expr.Name (codes "x")) ∷ []) ≡ Some (refusal.Parameter (codes "q"))
unfolding size visible predicates_in least_length has_empty_loop unprotected misused row_aggregates expr_text
a_parameter_in_a_node = refl

-- LET x = 1 MATCH (x {n: 1}) RETURN x
a_plain_column_is_no_node : refused (clause.Let (record { name = codes "x"; value = one } ∷ []) ∷ alone one ∷ give_back (expr.Name (codes "x")) ∷ []) ≡ Some (refusal.Kind (codes "x"))
unfolding size visible predicates_in least_length has_empty_loop unprotected misused row_aggregates expr_text
a_plain_column_is_no_node = refl

-- MATCH (x)-[e]->(y) MATCH (x)-[e]->{3,2}(y) RETURN 1
a_bound_of_a_later_clause : first_bound (match (step_from (called (codes "x")) (called (codes "e")) (called (codes "y"))) ∷ match (steps_from (called (codes "x")) (called (codes "e")) (quantifier.Between (Some (codes "3")) (Some (codes "2"))) (called (codes "y"))) ∷ give_back one ∷ []) ≡ Some (pos 3)
a_bound_of_a_later_clause = refl
