-- Near misses of match tables: rows that stand close to those of an example and that no match table has, and lists of rows that
-- are no match table. Without a selector there is one table, so that what it leaves out stands in none.
use Rattle.std.proofs.Common.{◌≡◌, ℕ, true, false, Bool, List, [], ◌∷◌, codes, Some, None, Ok, refl}
use Prim.{⊥}
use Rattle.gql_values3.specs.Datum.{Datum, null, list, node as a_node, edge as an_edge, data_of}
use Rattle.gql_ast.specs.ClauseColumns.{ColumnList}
use Rattle.gql_ast.specs.Evaluation.{value_of}
use Rattle.gql_ast.specs.declared.mode.Mode.TheVariants as mode
use Rattle.gql_ast.specs.declared.pattern.Direction.{Direction}
use Rattle.gql_ast.specs.declared.pattern.Direction.TheVariants as direction
use Rattle.gql_norm.specs.NormalPattern.{NormalPattern}
use Rattle.gql_norm.specs.NormalForm.{part_of, under_mode}
use Rattle.gql_norm.specs.Places.{size}
use Rattle.gql_norm.specs.Declaration.{visible}
use Rattle.gql_norm.specs.Termination.{least_length, has_empty_loop, unprotected}
use Rattle.gql_norm.specs.Selection.{Each, Among}
use Rattle.gql_norm.specs.MatchTable.{IsMatchTable}
use Rattle.gql_norm.specs.Machinery.Listing.{expansions, layings, listed_rows}
use Rattle.gql_norm.proofs.ExpansionLemmas.{IsBounded}
use Rattle.gql_norm.specs.MostEdges.{most_edges}
use Rattle.gql_norm.proofs.Finiteness.{finitely_many}
use Rattle.gql_norm.proofs.ExampleGraph.{g0}
use Rattle.gql_norm.proofs.BindingExamples.{trail_within, nested}
use Rattle.gql_norm.proofs.MoreBindingExamples.{one_of_two, one_of_two_told, loop, over_the_loop, from_two}
use Rattle.gql_norm.proofs.RowExamples.{rows, plain, matched, t_between, both_ways, shared_names_join, under_trail, a_group_is_a_list, three_edges_body, three_edges, three_edges_in_a_row, untold, the_row_stands_once, told, the_row_stands_twice, x_column, z_between, optional_keeps_the_row, x_and_y_columns, null_agrees_with_nothing}
use Rattle.gql_norm.proofs.LegalExamples.{p_under, row_of_path, three_rows, the_rows, the_simple_rows, the_acyclic_row}
use Rattle.gql_norm.proofs.OneTable.{IsListed, bounded_is_listed, in_no_table, left_out, other_rows}

-- the rows T are those of a match table behind these rows, on the example graph and without parameters
abbrev IsTable : ColumnList → NormalPattern → Bool → List (List Datum) → List (List Datum) → Type 0
IsTable columns pattern optional given T = IsMatchTable g0 [] columns pattern optional given (Ok T)

-- MATCH (x)-[:T]->(y), (y)-[:T]->(x): no edge leads from node 3 to node 2
both_are_listed : Each (IsListed g0 0 []) both_ways.paths
unfolding IsBounded
both_are_listed = (bounded_is_listed g0 0 [] (t_between (codes "x") (codes "y")) refl (tt, (tt, tt)), (bounded_is_listed g0 0 [] (t_between (codes "y") (codes "x")) refl (tt, (tt, tt)), tt))

no_table_has_a_way_back : (T : List (List Datum)) → IsTable [] both_ways false ([] ∷ []) T → Among (a_node 2 ∷ a_node 3 ∷ []) T → ⊥
no_table_has_a_way_back = left_out g0 0 [] both_ways false both_are_listed ([] ∷ []) _ shared_names_join (a_node 2 ∷ a_node 3 ∷ []) refl

-- MATCH p = TRAIL (x WHERE x.n = 1)-[:T]->*(y WHERE y.n = 1): there and back twice, under SIMPLE too; under ACYCLIC there and back
abbrev back_twice : List Datum
back_twice = row_of_path ((1, 2) ∷ (2, 1) ∷ (1, 2) ∷ (2, 1) ∷ [])

no_trail_goes_back_twice : (T : List (List Datum)) → IsTable [] (p_under mode.Trail) false ([] ∷ []) T → Among back_twice T → ⊥
no_trail_goes_back_twice = in_no_table g0 [] [] (p_under mode.Trail) false ([] ∷ []) three_rows (tt, tt) the_rows back_twice refl

no_simple_path_goes_back_twice : (T : List (List Datum)) → IsTable [] (p_under mode.Simple) false ([] ∷ []) T → Among back_twice T → ⊥
no_simple_path_goes_back_twice = in_no_table g0 [] [] (p_under mode.Simple) false ([] ∷ []) three_rows (tt, tt) the_simple_rows back_twice refl

no_acyclic_path_goes_back : (T : List (List Datum)) → IsTable [] (p_under mode.Acyclic) false ([] ∷ []) T → Among (row_of_path ((1, 2) ∷ (2, 1) ∷ [])) T → ⊥
no_acyclic_path_goes_back = in_no_table g0 [] [] (p_under mode.Acyclic) false ([] ∷ []) (row_of_path [] ∷ []) (tt, tt) the_acyclic_row (row_of_path ((1, 2) ∷ (2, 1) ∷ [])) refl

-- MATCH p = (x WHERE x.n = 1)(TRAIL -[:T]->*)(y WHERE y.n = 1): the mode of a part
abbrev p_within : NormalPattern
p_within = matched (record { name = Some (codes "p"); selector = None; body = part_of trail_within } ∷ []) None

within_is_listed : Each (IsListed g0 5 []) p_within.paths
unfolding least_length has_empty_loop unprotected most_edges
within_is_listed = ((refl, λ row x b. finitely_many g0 [] [] row (part_of trail_within) refl refl x b), tt)

rows_within : rows 5 [] p_within false ([] ∷ []) ≡ Ok three_rows
unfolding size visible expansions layings value_of
rows_within = refl

no_part_goes_back_twice : (T : List (List Datum)) → IsTable [] p_within false ([] ∷ []) T → Among back_twice T → ⊥
no_part_goes_back_twice = left_out g0 5 [] p_within false within_is_listed ([] ∷ []) _ rows_within back_twice refl

-- MATCH TRAIL (x WHERE x.n = 1)((()-[e:T]->()){1,2}){1,2}(y WHERE y.n = 3): the way that crosses edge 1 twice; and the row twice
group_is_listed : Each (IsListed g0 0 []) under_trail.paths
unfolding IsBounded
group_is_listed = (bounded_is_listed g0 0 [] (plain (under_mode (Some mode.Trail) (part_of nested))) refl (tt, ((tt, (tt, (tt, (tt, tt)))), tt)), tt)

no_edge_is_crossed_twice : (T : List (List Datum)) → IsTable [] under_trail false ([] ∷ []) T → Among (a_node 1 ∷ list (data_of (an_edge 1 ∷ an_edge 2 ∷ an_edge 1 ∷ an_edge 3 ∷ [])) ∷ a_node 3 ∷ []) T → ⊥
no_edge_is_crossed_twice = left_out g0 0 [] under_trail false group_is_listed ([] ∷ []) _ a_group_is_a_list (a_node 1 ∷ list (data_of (an_edge 1 ∷ an_edge 2 ∷ an_edge 1 ∷ an_edge 3 ∷ [])) ∷ a_node 3 ∷ []) refl

abbrev group_row : List Datum
group_row = a_node 1 ∷ list (data_of (an_edge 1 ∷ an_edge 3 ∷ [])) ∷ a_node 3 ∷ []

two_expansions_are_one_row : IsTable [] under_trail false ([] ∷ []) (group_row ∷ group_row ∷ []) → ⊥
two_expansions_are_one_row = other_rows g0 0 [] under_trail false group_is_listed ([] ∷ []) _ a_group_is_a_list (group_row ∷ group_row ∷ []) refl

-- MATCH TRAIL (x {n: 1})-[e:T]->{3}(y): there, back and there again
three_are_listed : Each (IsListed g0 0 []) three_edges.paths
unfolding IsBounded
three_are_listed = (bounded_is_listed g0 0 [] (plain three_edges_body) refl (tt, ((tt, (tt, (tt, tt))), tt)), tt)

no_trail_goes_there_again : (T : List (List Datum)) → IsTable [] three_edges false ([] ∷ []) T → Among (a_node 1 ∷ list (data_of (an_edge 1 ∷ an_edge 2 ∷ an_edge 1 ∷ [])) ∷ a_node 2 ∷ []) T → ⊥
no_trail_goes_there_again = left_out g0 0 [] three_edges false three_are_listed ([] ∷ []) _ three_edges_in_a_row (a_node 1 ∷ list (data_of (an_edge 1 ∷ an_edge 2 ∷ an_edge 1 ∷ [])) ∷ a_node 2 ∷ []) refl

-- MATCH (x WHERE x.n = 1)(-[:T]-> | -[:T]->)(y): the row twice; and with `|+|` once
abbrev one_to_two : List Datum
one_to_two = a_node 1 ∷ a_node 2 ∷ []

untold_is_listed : Each (IsListed g0 0 []) untold.paths
unfolding IsBounded
untold_is_listed = (bounded_is_listed g0 0 [] (plain (part_of one_of_two)) refl (tt, ((tt, tt), tt)), tt)

untold_sides_are_one_row : IsTable [] untold false ([] ∷ []) (one_to_two ∷ one_to_two ∷ []) → ⊥
untold_sides_are_one_row = other_rows g0 0 [] untold false untold_is_listed ([] ∷ []) _ the_row_stands_once (one_to_two ∷ one_to_two ∷ []) refl

told_is_listed : Each (IsListed g0 0 []) told.paths
unfolding IsBounded
told_is_listed = (bounded_is_listed g0 0 [] (plain (part_of one_of_two_told)) refl (tt, ((tt, (tt, tt)), tt)), tt)

told_sides_are_two_rows : IsTable [] told false ([] ∷ []) (one_to_two ∷ []) → ⊥
told_sides_are_two_rows = other_rows g0 0 [] told false told_is_listed ([] ∷ []) _ the_row_stands_twice (one_to_two ∷ []) refl

-- MATCH (s)-[]-(t) over a loop: the row twice, once for each direction
abbrev on_the_loop : NormalPattern
on_the_loop = matched (plain (part_of over_the_loop) ∷ []) None

abbrev loop_row : List Datum
loop_row = a_node 1 ∷ a_node 1 ∷ []

loop_is_listed : Each (IsListed loop 0 []) on_the_loop.paths
unfolding IsBounded
loop_is_listed = (bounded_is_listed loop 0 [] (plain (part_of over_the_loop)) refl (tt, (tt, tt)), tt)

a_loop_is_one_row : listed_rows loop 0 [] on_the_loop false ([] ∷ []) ≡ Ok (loop_row ∷ [])
unfolding size visible expansions layings value_of
a_loop_is_one_row = refl

a_loop_is_not_two_rows : IsMatchTable loop [] [] on_the_loop false ([] ∷ []) (Ok (loop_row ∷ loop_row ∷ [])) → ⊥
a_loop_is_not_two_rows = other_rows loop 0 [] on_the_loop false loop_is_listed ([] ∷ []) _ a_loop_is_one_row (loop_row ∷ loop_row ∷ []) refl

-- MATCH (x {n: 2})~>(y) and (x {n: 2})<~(y): both edges to node 3 give a row with ~>, and one does with <~
abbrev to_both : Direction → NormalPattern
to_both d = matched (plain (part_of (from_two d)) ∷ []) None

abbrev from_node_two : ℕ → List Datum
from_node_two v = a_node 2 ∷ a_node v ∷ []

both_directions_are_listed : (d : Direction) → Each (IsListed g0 0 []) (to_both d).paths
unfolding IsBounded
both_directions_are_listed d = (bounded_is_listed g0 0 [] (plain (part_of (from_two d))) refl (tt, (tt, tt)), tt)

undirected_or_right_rows : rows 0 [] (to_both direction.UndirectedOrRight) false ([] ∷ []) ≡ Ok (from_node_two 1 ∷ from_node_two 3 ∷ from_node_two 3 ∷ [])
unfolding size visible expansions layings value_of
undirected_or_right_rows = refl

each_edge_gives_a_row : IsTable [] (to_both direction.UndirectedOrRight) false ([] ∷ []) (from_node_two 1 ∷ from_node_two 3 ∷ []) → ⊥
each_edge_gives_a_row = other_rows g0 0 [] (to_both direction.UndirectedOrRight) false (both_directions_are_listed direction.UndirectedOrRight) ([] ∷ []) _ undirected_or_right_rows (from_node_two 1 ∷ from_node_two 3 ∷ []) refl

left_or_undirected_rows : rows 0 [] (to_both direction.LeftOrUndirected) false ([] ∷ []) ≡ Ok (from_node_two 1 ∷ from_node_two 3 ∷ [])
unfolding size visible expansions layings value_of
left_or_undirected_rows = refl

none_leads_along : IsTable [] (to_both direction.LeftOrUndirected) false ([] ∷ []) (from_node_two 1 ∷ from_node_two 3 ∷ from_node_two 3 ∷ []) → ⊥
none_leads_along = other_rows g0 0 [] (to_both direction.LeftOrUndirected) false (both_directions_are_listed direction.LeftOrUndirected) ([] ∷ []) _ left_or_undirected_rows (from_node_two 1 ∷ from_node_two 3 ∷ from_node_two 3 ∷ []) refl

-- OPTIONAL MATCH (x)-[:Z]->(y) behind x: no row at all; and MATCH (y)-[:T]->(z) behind y that is NULL: a row with a z
z_is_listed : Each (IsListed g0 0 x_column) (z_between ∷ [])
unfolding IsBounded
z_is_listed = (bounded_is_listed g0 0 x_column z_between refl (tt, (tt, tt)), tt)

optional_loses_no_row : IsTable x_column (matched (z_between ∷ []) None) true ((a_node 1 ∷ []) ∷ []) [] → ⊥
optional_loses_no_row = other_rows g0 0 x_column (matched (z_between ∷ []) None) true z_is_listed ((a_node 1 ∷ []) ∷ []) _ optional_keeps_the_row [] refl

y_is_listed : Each (IsListed g0 0 x_and_y_columns) (t_between (codes "y") (codes "z") ∷ [])
unfolding IsBounded
y_is_listed = (bounded_is_listed g0 0 x_and_y_columns (t_between (codes "y") (codes "z")) refl (tt, (tt, tt)), tt)

null_has_no_z : (T : List (List Datum)) → IsTable x_and_y_columns (matched (t_between (codes "y") (codes "z") ∷ []) None) false ((a_node 1 ∷ null ∷ []) ∷ []) T → Among (a_node 1 ∷ null ∷ a_node 2 ∷ []) T → ⊥
null_has_no_z = left_out g0 0 x_and_y_columns (matched (t_between (codes "y") (codes "z") ∷ []) None) false y_is_listed ((a_node 1 ∷ null ∷ []) ∷ []) _ null_agrees_with_nothing (a_node 1 ∷ null ∷ a_node 2 ∷ []) refl
