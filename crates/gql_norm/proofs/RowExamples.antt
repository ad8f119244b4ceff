-- Examples of the rows and the refusals of MATCH on the example graph, computed from the bindings of its path patterns.
use Rattle.std.proofs.Common.{◌≡◌, ℕ, pos, true, false, Bool, List, [], ◌∷◌, codes, Option, Some, None, Result, Ok, Err, refl}
use Rattle.gql_values3.specs.Datum.{Datum, integer, null, list, node as a_node, edge as an_edge, path as a_path, data_of}
use Rattle.gql_values3.specs.declared.comparison.Comparison.TheVariants as op
use Rattle.gql_values3.specs.declared.table.ColumnKind.TheVariants as kind
use Rattle.gql_ast.specs.Tree.{Tree, number, property, aggregate, comparing, product, links_of, link}
use Rattle.gql_ast.specs.Evaluation.{value_of}
use Rattle.gql_ast.specs.ClauseColumns.{ColumnList}
use Rattle.gql_ast.specs.Scope.{row_scope}
use Rattle.gql_ast.specs.Pattern.{edge, paren, repeated, optional, sequence, patterns_of}
use Rattle.gql_ast.specs.Label.{name as label_name}
use Rattle.gql_expr_checks.specs.ExprMisuses.{misused}
use Rattle.gql_ast.specs.declared.fault.DataFault.{DataFault}
use Rattle.gql_ast.specs.declared.fault.DataFault.TheVariants as fault
use Rattle.gql_ast.specs.declared.mode.Mode.TheVariants as mode
use Rattle.gql_ast.specs.declared.pattern.Direction.TheVariants as direction
use Rattle.gql_ast.specs.declared.pattern.Quantifier.TheVariants as quantifier
use Rattle.gql_ast.specs.declared.refusal.Refusal.{Refusal}
use Rattle.gql_ast.specs.declared.refusal.Refusal.TheVariants as refusal
use Rattle.gql_ast.specs.declared.words.Aggregate.TheVariants as aggregates
use Rattle.gql_ast.specs.declared.words.Operator.TheVariants as operator
use Rattle.gql_ast.specs.declared.words.SetQuantifier.TheVariants as quantifiers
use Rattle.gql_norm.specs.NormalPattern.{Part, NormalPath, NormalPattern}
use Rattle.gql_norm.specs.NormalForm.{part_of, under_mode}
use Rattle.gql_norm.specs.Places.{size}
use Rattle.gql_norm.specs.Declaration.{visible}
use Rattle.gql_norm.specs.PredicateSpot.{predicates_in}
use Rattle.gql_norm.specs.Termination.{least_length, has_empty_loop, unprotected}
use Rattle.gql_norm.specs.NewColumns.{columns_after}
use Rattle.gql_norm.specs.Bounds.{bounds_at_fault}
use Rattle.gql_norm.specs.PatternRefusal.{pattern_refusal}
use Rattle.gql_norm.specs.Machinery.Listing.{expansions, layings, listed_rows}
use Rattle.gql_norm.proofs.ExampleGraph.{g0, n_is, blank, bare, node_where, node_with_n, t_right}
use Rattle.gql_norm.proofs.BindingExamples.{from_one_to_one, nested}
use Rattle.gql_norm.proofs.MoreBindingExamples.{one_of_two, one_of_two_told}

-- a path pattern without a name and a selector
abbrev pub plain : Part → NormalPath
plain p = record { name = None; selector = None; body = p }

abbrev pub matched : List NormalPath → Option Tree → NormalPattern
matched ps e = record { paths = ps; condition = e }

-- what MATCH gives for these rows, where each path pattern keeps all its bindings with at most k copies
abbrev pub rows : ℕ → ColumnList → NormalPattern → Bool → List (List Datum) → Result (List (List Datum)) DataFault
rows k columns p opt given = listed_rows g0 k columns p opt given

-- (a)-[:T]->(b)
abbrev pub t_between : List ℕ → List ℕ → NormalPath
t_between a b = plain (part_of (sequence (bare a) (patterns_of (t_right None ∷ bare b ∷ []))))

-- MATCH (x)-[:T]->(y), (y)-[:T]->(x)
abbrev pub both_ways : NormalPattern
both_ways = matched (t_between (codes "x") (codes "y") ∷ t_between (codes "y") (codes "x") ∷ []) None

pub shared_names_join : rows 0 [] both_ways false ([] ∷ [])
    ≡ Ok ((a_node 1 ∷ a_node 2 ∷ []) ∷ (a_node 2 ∷ a_node 1 ∷ []) ∷ [])
unfolding size visible expansions layings value_of
shared_names_join = refl

-- MATCH TRAIL (x WHERE x.n=1)((()-[e:T]->()){1,2}){1,2}(y WHERE y.n=3): x, e and y
abbrev pub under_trail : NormalPattern
under_trail = matched (plain (under_mode (Some mode.Trail) (part_of nested)) ∷ []) None

its_columns : columns_after [] under_trail ≡ (codes "x", kind.Node) ∷ (codes "e", kind.Edges) ∷ (codes "y", kind.Node) ∷ []
unfolding size visible
its_columns = refl

pub a_group_is_a_list : rows 0 [] under_trail false ([] ∷ []) ≡ Ok ((a_node 1 ∷ list (data_of (an_edge 1 ∷ an_edge 3 ∷ [])) ∷ a_node 3 ∷ []) ∷ [])
unfolding size visible expansions layings value_of
a_group_is_a_list = refl

-- MATCH TRAIL (x {n: 1})-[e:T]->{3}(y), and SUM(e.w) over its row
abbrev pub three_edges_body : Part
three_edges_body = under_mode (Some mode.Trail) (part_of (sequence (node_with_n (codes "x") (codes "1"))
    (patterns_of (repeated (t_right (Some (codes "e"))) (quantifier.Exactly (codes "3")) ∷ bare (codes "y") ∷ []))))

abbrev pub three_edges : NormalPattern
three_edges = matched (plain three_edges_body ∷ []) None

abbrev pub row_of_three : List Datum
row_of_three = a_node 1 ∷ list (data_of (an_edge 1 ∷ an_edge 3 ∷ an_edge 4 ∷ [])) ∷ a_node 1 ∷ []

pub three_edges_in_a_row : rows 0 [] three_edges false ([] ∷ []) ≡ Ok (row_of_three ∷ [])
unfolding size visible expansions layings value_of
three_edges_in_a_row = refl

their_sum : value_of g0 [] (row_scope (columns_after [] three_edges) row_of_three) (aggregate aggregates.Sum quantifiers.All (property (codes "e") (codes "w"))) ≡ Ok (integer (pos 10))
unfolding size visible value_of
their_sum = refl

-- MATCH p = (x {n: 3})-[:T]->(y): a path name
a_path_name_is_the_path : rows 0 [] (matched (record { name = Some (codes "p"); selector = None; body = part_of (sequence (node_with_n (codes "x") (codes "3")) (patterns_of (t_right None ∷ bare (codes "y") ∷ []))) } ∷ []) None) false ([] ∷ [])
    ≡ Ok ((a_path (record { start = 3; steps = (4, 1) ∷ [] }) ∷ a_node 3 ∷ a_node 1 ∷ []) ∷ [])
unfolding size visible expansions layings value_of
a_path_name_is_the_path = refl

-- MATCH (x WHERE x.n=1)(-[:T]-> | -[:T]->)(y): the row stands once, and with `|+|` twice
abbrev pub untold : NormalPattern
untold = matched (plain (part_of one_of_two) ∷ []) None

abbrev pub told : NormalPattern
told = matched (plain (part_of one_of_two_told) ∷ []) None

pub the_row_stands_once : rows 0 [] untold false ([] ∷ []) ≡ Ok ((a_node 1 ∷ a_node 2 ∷ []) ∷ [])
unfolding size visible expansions layings value_of
the_row_stands_once = refl

pub the_row_stands_twice : rows 0 [] told false ([] ∷ []) ≡ Ok ((a_node 1 ∷ a_node 2 ∷ []) ∷ (a_node 1 ∷ a_node 2 ∷ []) ∷ [])
unfolding size visible expansions layings value_of
the_row_stands_twice = refl

-- OPTIONAL MATCH (x)-[:Z]->(y) behind x, and MATCH (y)-[:T]->(z) behind y that is NULL
abbrev pub x_column : ColumnList
x_column = (codes "x", kind.Node) ∷ []

abbrev pub z_between : NormalPath
z_between = plain (part_of (sequence (bare (codes "x")) (patterns_of (edge direction.Right (record { variable = None; labels = Some (label_name (codes "Z")); condition = None }) ∷ bare (codes "y") ∷ []))))

pub optional_keeps_the_row : rows 0 x_column (matched (z_between ∷ []) None) true ((a_node 1 ∷ []) ∷ []) ≡ Ok ((a_node 1 ∷ null ∷ []) ∷ [])
unfolding size visible expansions layings value_of
optional_keeps_the_row = refl

abbrev pub x_and_y_columns : ColumnList
x_and_y_columns = (codes "x", kind.Node) ∷ (codes "y", kind.Node) ∷ []

pub null_agrees_with_nothing : rows 0 x_and_y_columns (matched (t_between (codes "y") (codes "z") ∷ []) None) false ((a_node 1 ∷ null ∷ []) ∷ []) ≡ Ok []
unfolding size visible expansions layings value_of
null_agrees_with_nothing = refl

a_column_has_its_element : rows 0 x_column (matched (t_between (codes "x") (codes "y") ∷ []) None) false ((a_node 2 ∷ []) ∷ (a_node 3 ∷ []) ∷ [])
    ≡ Ok ((a_node 2 ∷ a_node 1 ∷ []) ∷ (a_node 2 ∷ a_node 3 ∷ []) ∷ (a_node 3 ∷ a_node 1 ∷ []) ∷ [])
unfolding size visible expansions layings value_of
a_column_has_its_element = refl

-- MATCH (x)-[:T]->(y) WHERE 1 / (x.n - 1) = ..: the first row's fault
abbrev by_zero : Tree
by_zero = comparing op.Eq (product (number (codes "1")) (links_of (link operator.Divide (number (codes "0")) ∷ []))) (number (codes "1"))

the_final_where_faults : rows 0 [] (matched (t_between (codes "x") (codes "y") ∷ []) (Some by_zero)) true ([] ∷ []) ≡ Err fault.DivideByZero
unfolding size visible expansions layings value_of
the_final_where_faults = refl

-- refusals
abbrev pub refused : NormalPattern → Option Refusal
refused p = pattern_refusal [] [] p

an_open_star_is_unbounded : refused (matched (plain (part_of from_one_to_one) ∷ []) None) ≡ Some refusal.Unbounded
unfolding size visible predicates_in least_length has_empty_loop unprotected misused
an_open_star_is_unbounded = refl

a_trail_is_not : refused (matched (plain (under_mode (Some mode.Trail) (part_of from_one_to_one)) ∷ []) None) ≡ None
unfolding size visible predicates_in least_length has_empty_loop unprotected misused
a_trail_is_not = refl

-- (x){2,}
an_empty_loop : refused (matched (plain (part_of (repeated (bare (codes "x")) (quantifier.Between (Some (codes "2")) None))) ∷ []) None) ≡ Some refusal.EmptyLoop
unfolding size visible predicates_in least_length has_empty_loop unprotected misused
an_empty_loop = refl

-- (x)->{3,2}(y)
bounds_the_wrong_way : bounds_at_fault (matched (plain (part_of (sequence (bare (codes "x")) (patterns_of (repeated (edge direction.Right blank) (quantifier.Between (Some (codes "3")) (Some (codes "2"))) ∷ bare (codes "y") ∷ [])))) ∷ []) None) ≡ 3 ∷ []
bounds_the_wrong_way = refl

-- (x)-[e:T]->{1,2}(y), (y)-[e:T]->(z)
a_group_is_joined : refused (matched (plain (part_of (sequence (bare (codes "x")) (patterns_of (repeated (t_right (Some (codes "e"))) (quantifier.Between (Some (codes "1")) (Some (codes "2"))) ∷ bare (codes "y") ∷ []))))
    ∷ plain (part_of (sequence (bare (codes "y")) (patterns_of (t_right (Some (codes "e")) ∷ bare (codes "z") ∷ [])))) ∷ []) None) ≡ Some (refusal.GroupJoin (codes "e"))
unfolding size visible predicates_in least_length has_empty_loop unprotected misused
a_group_is_joined = refl

-- (x)(-[:T]->(y))?, (y)
a_conditional_is_joined : refused (matched (plain (part_of (sequence (bare (codes "x")) (patterns_of (optional (paren None (sequence (t_right None) (patterns_of (bare (codes "y") ∷ []))) None) ∷ []))))
    ∷ plain (part_of (bare (codes "y"))) ∷ []) None) ≡ Some (refusal.CondJoin (codes "y"))
unfolding size visible predicates_in least_length has_empty_loop unprotected misused
a_conditional_is_joined = refl

-- MATCH p = TRAIL (x WHERE x.n = 1)-[e:T]->{1,2}(y), the pattern of docs/patterns.md
abbrev through_all_stages : NormalPattern
through_all_stages = matched (record {
  name = Some (codes "p");
  selector = None;
  body = under_mode (Some mode.Trail) (part_of (sequence (node_where (codes "x") (n_is (codes "x") (codes "1")))
      (patterns_of (repeated (t_right (Some (codes "e"))) (quantifier.Between (Some (codes "1")) (Some (codes "2"))) ∷ bare (codes "y") ∷ []))));
} ∷ []) None

one_pattern_through_all_stages : rows 0 [] through_all_stages false ([] ∷ [])
    ≡ Ok ((a_path (record { start = 1; steps = (1, 2) ∷ [] }) ∷ a_node 1 ∷ list (data_of (an_edge 1 ∷ [])) ∷ a_node 2 ∷ [])
    ∷ (a_path (record { start = 1; steps = (1, 2) ∷ (2, 1) ∷ [] }) ∷ a_node 1 ∷ list (data_of (an_edge 1 ∷ an_edge 2 ∷ [])) ∷ a_node 1 ∷ [])
    ∷ (a_path (record { start = 1; steps = (1, 2) ∷ (3, 3) ∷ [] }) ∷ a_node 1 ∷ list (data_of (an_edge 1 ∷ an_edge 3 ∷ [])) ∷ a_node 3 ∷ []) ∷ [])
unfolding size visible expansions layings value_of
one_pattern_through_all_stages = refl

-- (x)->{1,65536}(y), and (x)->{0,65535}(y) is within the limit
abbrev pub right_between : List ℕ → List ℕ → NormalPattern
right_between m n = matched (plain (part_of (sequence (bare (codes "x")) (patterns_of (repeated (edge direction.Right blank) (quantifier.Between (Some m) (Some n)) ∷ bare (codes "y") ∷ [])))) ∷ []) None

a_bound_above_the_limit : bounds_at_fault (right_between (codes "1") (codes "65536")) ≡ 65536 ∷ []
a_bound_above_the_limit = refl

the_greatest_bound : bounds_at_fault (right_between (codes "0") (codes "65535")) ≡ []
the_greatest_bound = refl
