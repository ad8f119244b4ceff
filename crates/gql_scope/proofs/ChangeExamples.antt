-- Examples of static refusals of clauses that change data, computed: each was worked out by hand from the rules.
use Rattle.std.proofs.Common.{◌≡◌, ℕ, false, List, [], ◌∷◌, codes, Option, Some, None, refl}
use Rattle.gql_expr_checks.specs.ExprMisuses.{misused}
use Rattle.gql_ast.specs.ExprText.{expr_text}
use Rattle.gql_ast.specs.RowAggregates.{row_aggregates}
use Rattle.gql_norm.specs.Places.{size}
use Rattle.gql_norm.specs.Declaration.{visible}
use Rattle.gql_norm.specs.PredicateSpot.{predicates_in}
use Rattle.gql_norm.specs.Termination.{least_length, has_empty_loop, unprotected}
use Rattle.gql_scope.specs.WholePatterns.{whole_refusal}
use Rattle.gql_ast.specs.declared.change.Arrow.TheVariants as arrow
use Rattle.gql_ast.specs.declared.change.ChangeClause.TheVariants as change
use Rattle.gql_ast.specs.declared.change.Detachment.TheVariants as detachment
use Rattle.gql_ast.specs.declared.change.Fill.{Fill}
use Rattle.gql_ast.specs.declared.change.InsertPath.{InsertPath}
use Rattle.gql_ast.specs.declared.change.RemoveItem.TheVariants as remove_item
use Rattle.gql_ast.specs.declared.change.SetItem.TheVariants as set_item
use Rattle.gql_ast.specs.declared.clause.Clause.{Clause}
use Rattle.gql_ast.specs.declared.clause.Clause.TheVariants as clause
use Rattle.gql_ast.specs.declared.expr.Expr.{Expr}
use Rattle.gql_ast.specs.declared.expr.Expr.TheVariants as expr
use Rattle.gql_ast.specs.declared.filler.MapItem.{MapItem}
use Rattle.gql_ast.specs.declared.pattern.PathExpr.TheVariants as path
use Rattle.gql_ast.specs.declared.projection.ReturnItems.TheVariants as items
use Rattle.gql_ast.specs.declared.refusal.ColumnRef.TheVariants as column
use Rattle.gql_ast.specs.declared.refusal.Refusal.{Refusal}
use Rattle.gql_ast.specs.declared.refusal.Refusal.TheVariants as refusal
use Rattle.gql_ast.specs.declared.statement.Statement.TheVariants as statement
use Rattle.gql_ast.specs.declared.words.SetQuantifier.TheVariants as quantifier

abbrev one : Expr
one = expr.Number (codes "1")

abbrev of : List ℕ → List ℕ → Expr
of x p = expr.Property x p

abbrev has : List ℕ → Expr → MapItem
has p e = record { name = p; value = e }

-- (x)
abbrev bare : List ℕ → Fill
bare x = record { variable = Some x; labels = None; map = None }

-- (x:l)
abbrev labelled : List ℕ → List ℕ → Fill
labelled x l = record { variable = Some x; labels = Some (l ∷ []); map = None }

-- (x {..})
abbrev mapped : List ℕ → List MapItem → Fill
mapped x is = record { variable = Some x; labels = None; map = Some is }

abbrev lone : Fill → InsertPath
lone f = record { start = f; steps = [] }

-- (x)-[e]->(y)
abbrev to : List ℕ → List ℕ → List ℕ → InsertPath
to x e y = record { start = bare x; steps = record { arrow = arrow.Right; edge = bare e; node = bare y } ∷ [] }

abbrev insert : List InsertPath → Clause
insert ps = clause.Change (change.Insert ps)

-- MATCH (x)
abbrev match : List ℕ → Clause
match x = clause.Match (record {
  optional = false;
  pattern = record { different = false; paths = record { name = None; prefix = None; expr = path.Node (record { variable = Some x; labels = None; condition = None }) } ∷ []; condition = None };
})

-- LET x = 1
abbrev give : List ℕ → Clause
give x = clause.Let (record { name = x; value = one } ∷ [])

-- RETURN x
abbrev return : List ℕ → Clause
return x = clause.Return (record { quantifier = quantifier.All; items = items.Listed (record { value = expr.Name x; name = None } ∷ []); grouping = None; order = None; skip = None; limit = None })

-- the refusal of a query where no parameter is set
abbrev refused : List Clause → Option Refusal
refused cs = whole_refusal [] (statement.Query (record { clauses = cs }))

-- INSERT (a)-[e]->(b) RETURN e
an_insert_gives_its_variables : refused (insert (to (codes "a") (codes "e") (codes "b") ∷ []) ∷ return (codes "e") ∷ []) ≡ None
unfolding size visible predicates_in least_length has_empty_loop unprotected misused row_aggregates expr_text
an_insert_gives_its_variables = refl

-- INSERT (b)-[b]->(c)
an_edge_takes_a_name : refused (insert (to (codes "b") (codes "b") (codes "c") ∷ []) ∷ []) ≡ Some (refusal.Variable (codes "b"))
unfolding size visible predicates_in least_length has_empty_loop unprotected misused row_aggregates expr_text
an_edge_takes_a_name = refl

-- INSERT (a)-[e]->(b), (e)
an_edge_is_no_endpoint : refused (insert (to (codes "a") (codes "e") (codes "b") ∷ lone (bare (codes "e")) ∷ []) ∷ []) ≡ Some (refusal.Kind (codes "e"))
unfolding size visible predicates_in least_length has_empty_loop unprotected misused row_aggregates expr_text
an_edge_is_no_endpoint = refl

-- LET a = 1 INSERT (a)
a_plain_endpoint : refused (give (codes "a") ∷ insert (lone (bare (codes "a")) ∷ []) ∷ []) ≡ Some (refusal.Kind (codes "a"))
unfolding size visible predicates_in least_length has_empty_loop unprotected misused row_aggregates expr_text
a_plain_endpoint = refl

-- MATCH (a) INSERT (a)-[e]->(b)
a_column_is_an_endpoint : refused (match (codes "a") ∷ insert (to (codes "a") (codes "e") (codes "b") ∷ []) ∷ []) ≡ None
unfolding size visible predicates_in least_length has_empty_loop unprotected misused row_aggregates expr_text
a_column_is_an_endpoint = refl

-- INSERT (a), (a:B)
a_reference_with_a_label : refused (insert (lone (bare (codes "a")) ∷ lone (labelled (codes "a") (codes "B")) ∷ []) ∷ []) ≡ Some (refusal.Variable (codes "a"))
unfolding size visible predicates_in least_length has_empty_loop unprotected misused row_aggregates expr_text
a_reference_with_a_label = refl

-- INSERT (a), (a {})
a_reference_with_an_empty_map : refused (insert (lone (bare (codes "a")) ∷ lone (mapped (codes "a") []) ∷ []) ∷ []) ≡ Some (refusal.Variable (codes "a"))
unfolding size visible predicates_in least_length has_empty_loop unprotected misused row_aggregates expr_text
a_reference_with_an_empty_map = refl

-- INSERT (a {n: 1}), (b {n: a.n})
a_map_sees_no_new_variable : refused (insert (lone (mapped (codes "a") (has (codes "n") one ∷ [])) ∷ lone (mapped (codes "b") (has (codes "n") (of (codes "a") (codes "n")) ∷ [])) ∷ []) ∷ []) ≡ Some (refusal.Variable (codes "a"))
unfolding size visible predicates_in least_length has_empty_loop unprotected misused row_aggregates expr_text
a_map_sees_no_new_variable = refl

-- INSERT (a {n: 1, n: 1})
a_property_twice : refused (insert (lone (mapped (codes "a") (has (codes "n") one ∷ has (codes "n") one ∷ [])) ∷ []) ∷ []) ≡ Some (refusal.Column (column.Property (codes "n")))
unfolding size visible predicates_in least_length has_empty_loop unprotected misused row_aggregates expr_text
a_property_twice = refl

-- INSERT (a {n: COUNT(*)})
an_aggregate_in_a_map : refused (insert (lone (mapped (codes "a") (has (codes "n") expr.CountAll ∷ [])) ∷ []) ∷ []) ≡ Some refusal.Misuse
unfolding size visible predicates_in least_length has_empty_loop unprotected misused row_aggregates expr_text
an_aggregate_in_a_map = refl

-- INSERT (a {n: $p})
a_parameter_in_a_map : refused (insert (lone (mapped (codes "a") (has (codes "n") (expr.Parameter (codes "p")) ∷ [])) ∷ []) ∷ []) ≡ Some (refusal.Parameter (codes "p"))
unfolding size visible predicates_in least_length has_empty_loop unprotected misused row_aggregates expr_text
a_parameter_in_a_map = refl

-- MATCH (x) SET y.n = 1
an_unknown_target : refused (match (codes "x") ∷ clause.Change (change.Set (set_item.Property (codes "y") (codes "n") one ∷ [])) ∷ []) ≡ Some (refusal.Variable (codes "y"))
unfolding size visible predicates_in least_length has_empty_loop unprotected misused row_aggregates expr_text
an_unknown_target = refl

-- LET y = 1 REMOVE y:B
a_plain_target : refused (give (codes "y") ∷ clause.Change (change.Remove (remove_item.Label (codes "y") (codes "B") ∷ [])) ∷ []) ≡ Some (refusal.Kind (codes "y"))
unfolding size visible predicates_in least_length has_empty_loop unprotected misused row_aggregates expr_text
a_plain_target = refl

-- MATCH (x) DELETE x, z
an_unknown_name_in_delete : refused (match (codes "x") ∷ clause.Change (change.Delete detachment.NoDetach (codes "x" ∷ codes "z" ∷ [])) ∷ []) ≡ Some (refusal.Variable (codes "z"))
unfolding size visible predicates_in least_length has_empty_loop unprotected misused row_aggregates expr_text
an_unknown_name_in_delete = refl
