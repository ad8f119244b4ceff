-- Near misses: what stands close to an example, and is no member. The examples list all members, so a member would be listed.
use Rattle.std.proofs.Common.{◌≡◌, ℕ, true, false, List, [], ◌∷◌, codes, Some, None, Ok, refl, subst}
use Prim.{⊥}
use Rattle.gql_values3.specs.Datum.{node as a_node}
use Rattle.gql_values3.specs.PropertyGraph.{PropertyGraph}
use Rattle.gql_ast.specs.Evaluation.{value_of}
use Rattle.gql_ast.specs.Pattern.{Pattern, paren, repeated, optional, sequence, patterns_of}
use Rattle.gql_ast.specs.declared.pattern.Direction.TheVariants as direction
use Rattle.gql_ast.specs.declared.pattern.Quantifier.TheVariants as quantifier
use Rattle.gql_expr_checks.specs.ExprMisuses.{misused}
use Rattle.gql_ast.specs.declared.mode.Mode.TheVariants as mode
use Rattle.gql_norm.specs.NormalForm.{part_of, under_mode}
use Rattle.gql_norm.specs.Places.{size}
use Rattle.gql_norm.specs.Declaration.{visible}
use Rattle.gql_norm.specs.PredicateSpot.{predicates_in}
use Rattle.gql_norm.specs.Termination.{least_length, has_empty_loop, unprotected}
use Rattle.gql_norm.specs.Bounds.{bounds_at_fault}
use Rattle.gql_norm.specs.ReducedBinding.{Reduced, reduced_cmp, IsBindingOf}
use Rattle.gql_norm.specs.Selection.{Among}
use Rattle.gql_norm.specs.Machinery.Listing.{expansions, layings, bindings}
use Rattle.gql_norm.proofs.ExpansionLemmas.{IsBounded}
use Rattle.gql_norm.proofs.ListedBindings.{binding_is_listed}
use Rattle.gql_norm.specs.MostEdges.{most_edges}
use Rattle.gql_norm.proofs.Finiteness.{finitely_many}
use Rattle.gql_norm.proofs.OneTable.{differs_from_all, no_binding_of}
use Rattle.gql_norm.proofs.ExampleGraph.{g0, bare, t_right}
use Rattle.gql_norm.proofs.BindingExamples.{binding, trail_within, stays, there_and_back, round, nested, long_way, short_way, nested_quantifiers, nested_quantifiers_under_trail}
use Rattle.gql_norm.proofs.MoreBindingExamples.{x_and_y, one_of_two, one_side_or_the_other, one_of_two_told, the_side_is_told, count_behind, group_behind_a_quantifier, through_m, both_are_one, from_two, undirected_or_right, left_or_undirected, loop, over_the_loop, a_loop_is_one_segment, between_two_and_three, both_edges_between}
use Rattle.gql_norm.proofs.RowExamples.{rows, plain, matched, x_column, z_between, refused, right_between}

-- what is not listed is no member
unlisted : (g : PropertyGraph) (p : Pattern) (S : List Reduced) (x : Reduced) → IsBounded (part_of p) → bindings g [] [] [] (part_of p) 0 ≡ S → differs_from_all reduced_cmp x S ≡ true → IsBindingOf g [] [] [] (part_of p) x → ⊥
unlisted g p S x h e differs b = no_binding_of x S differs (subst (Among x) e (binding_is_listed g [] [] [] (part_of p) 0 x h b))

-- (x WHERE x.n = 1)(TRAIL -[:T]->*)(y WHERE y.n = 1): there and back twice
abbrev back_twice : Reduced
back_twice = binding 1 ((1, 2) ∷ (2, 1) ∷ (1, 2) ∷ (2, 1) ∷ []) ((codes "x", 0) ∷ (codes "y", 8) ∷ []) []

five_edges_at_most : bindings g0 [] [] [] (part_of trail_within) 5 ≡ stays ∷ there_and_back ∷ round ∷ []
unfolding size visible expansions layings value_of
five_edges_at_most = refl

no_trail_goes_back_twice : IsBindingOf g0 [] [] [] (part_of trail_within) back_twice → ⊥
unfolding least_length has_empty_loop unprotected most_edges
no_trail_goes_back_twice b = no_binding_of back_twice (stays ∷ there_and_back ∷ round ∷ []) refl (subst (Among back_twice) five_edges_at_most (finitely_many g0 [] [] [] (part_of trail_within) refl refl back_twice b))

-- (x WHERE x.n = 1)((()-[e:T]->()){1,2}){1,2}(y WHERE y.n = 3): a second edge that begins at node 3, where the first copy did
-- not end; the last edge at the position of a node; and, under TRAIL, the way that crosses edge 1 twice
abbrev four_names : List (List ℕ × ℕ)
four_names = (codes "x", 0) ∷ (codes "e", 1) ∷ (codes "e", 3) ∷ (codes "e", 5) ∷ (codes "e", 7) ∷ (codes "y", 8) ∷ []

a_copy_begins_where_one_ends : IsBindingOf g0 [] [] [] (part_of nested) (binding 1 ((1, 2) ∷ (4, 1) ∷ (1, 2) ∷ (3, 3) ∷ []) four_names []) → ⊥
unfolding IsBounded
a_copy_begins_where_one_ends b = unlisted g0 nested _ _ (tt, ((tt, (tt, (tt, (tt, tt)))), tt)) nested_quantifiers refl b

an_edge_stands_at_its_position : IsBindingOf g0 [] [] [] (part_of nested) (binding 1 ((1, 2) ∷ (3, 3) ∷ []) ((codes "x", 0) ∷ (codes "e", 1) ∷ (codes "e", 2) ∷ (codes "y", 4) ∷ []) []) → ⊥
unfolding IsBounded
an_edge_stands_at_its_position b = unlisted g0 nested _ _ (tt, ((tt, (tt, (tt, (tt, tt)))), tt)) nested_quantifiers refl b

the_long_way_is_no_trail : IsBindingOf g0 [] [] [] (under_mode (Some mode.Trail) (part_of nested)) long_way → ⊥
unfolding IsBounded
the_long_way_is_no_trail b =
    no_binding_of long_way (short_way ∷ []) refl
    (subst (Among long_way) nested_quantifiers_under_trail (binding_is_listed g0 [] [] [] (under_mode (Some mode.Trail) (part_of nested)) 0 long_way (tt, ((tt, (tt, (tt, (tt, tt)))), tt)) b))

-- (x WHERE x.n = 1)(-[:T]-> | -[:T]->)(y): with the number of a side; and with `|+|` without one
one_of_two_tells_no_side : IsBindingOf g0 [] [] [] (part_of one_of_two) (binding 1 ((1, 2) ∷ []) x_and_y (1 ∷ [])) → ⊥
unfolding IsBounded
one_of_two_tells_no_side b = unlisted g0 one_of_two _ _ (tt, ((tt, tt), tt)) one_side_or_the_other refl b

a_told_side_is_told : IsBindingOf g0 [] [] [] (part_of one_of_two_told) (binding 1 ((1, 2) ∷ []) x_and_y []) → ⊥
unfolding IsBounded
a_told_side_is_told b = unlisted g0 one_of_two_told _ _ (tt, ((tt, (tt, tt)), tt)) the_side_is_told refl b

-- (s)-[]-(t) over a loop: no edge at all
a_loop_is_crossed : IsBindingOf loop [] [] [] (part_of over_the_loop) (binding 1 [] ((codes "s", 0) ∷ (codes "t", 0) ∷ []) []) → ⊥
unfolding IsBounded
a_loop_is_crossed b = unlisted loop over_the_loop _ _ (tt, (tt, tt)) a_loop_is_one_segment refl b

-- (x {n: 2})~>(y): edge 1 leads to node 2; and (x {n: 2})<~(y): edge 3 leads away
not_against_the_edge : IsBindingOf g0 [] [] [] (part_of (from_two direction.UndirectedOrRight)) (binding 2 ((1, 1) ∷ []) x_and_y []) → ⊥
unfolding IsBounded
not_against_the_edge b = unlisted g0 (from_two direction.UndirectedOrRight) _ _ (tt, (tt, tt)) undirected_or_right refl b

not_along_the_edge : IsBindingOf g0 [] [] [] (part_of (from_two direction.LeftOrUndirected)) (binding 2 ((3, 3) ∷ []) x_and_y []) → ⊥
unfolding IsBounded
not_along_the_edge b = unlisted g0 (from_two direction.LeftOrUndirected) _ _ (tt, (tt, tt)) left_or_undirected refl b

-- ((x WHERE x.n = 1)-[e:T]->{1,4}(y WHERE y.n = 1) WHERE COUNT(e) > 2): two edges are too few
abbrev two_edges : Reduced
two_edges = binding 1 ((1, 2) ∷ (2, 1) ∷ []) ((codes "x", 0) ∷ (codes "e", 1) ∷ (codes "e", 3) ∷ (codes "y", 4) ∷ []) []

two_are_not_more_than_two : IsBindingOf g0 [] [] [] (part_of count_behind) two_edges → ⊥
unfolding IsBounded
two_are_not_more_than_two b = unlisted g0 count_behind _ _ (tt, ((tt, (tt, (tt, tt))), tt)) group_behind_a_quantifier refl b

-- through m whose n is that of z: the shorter walk through node 3 is none
abbrev through_three : Reduced
through_three = binding 2 ((3, 3) ∷ (4, 1) ∷ []) ((codes "x", 0) ∷ (codes "m", 2) ∷ (codes "z", 4) ∷ []) []

node_three_is_not_node_one : IsBindingOf g0 [] [] [] (part_of through_m) through_three → ⊥
unfolding IsBounded
node_three_is_not_node_one b = unlisted g0 through_m _ _ (tt, (tt, (tt, ((tt, (tt, (tt, tt))), tt)))) both_are_one refl b

-- (x {n: 2})-[]-(y {n: 3}): edge 4 touches node 3 alone
edge_four_is_elsewhere : IsBindingOf g0 [] [] [] (part_of between_two_and_three) (binding 2 ((4, 3) ∷ []) x_and_y []) → ⊥
unfolding IsBounded
edge_four_is_elsewhere b = unlisted g0 between_two_and_three _ _ (tt, (tt, tt)) both_edges_between refl b

-- (x)->{2,3}(y) has its bounds the right way, and ((x)-[:T]->(y)){2,3} is no empty loop
bounds_the_right_way : bounds_at_fault (right_between (codes "2") (codes "3")) ≡ []
bounds_the_right_way = refl

a_loop_with_an_edge : refused (matched (plain (part_of (repeated (paren None (sequence (bare (codes "x")) (patterns_of (t_right None ∷ bare (codes "y") ∷ []))) None) (quantifier.Between (Some (codes "2")) (Some (codes "3"))))) ∷ []) None) ≡ None
unfolding size visible predicates_in least_length has_empty_loop unprotected misused
a_loop_with_an_edge = refl

-- (x)-[e:T]->{1,2}(y), (y)-[f:T]->(z) and (x)(-[:T]->(y))?, (z): no group and no conditional is joined
other_names_are_not_joined : refused (matched (plain (part_of (sequence (bare (codes "x")) (patterns_of (repeated (t_right (Some (codes "e"))) (quantifier.Between (Some (codes "1")) (Some (codes "2"))) ∷ bare (codes "y") ∷ []))))
    ∷ plain (part_of (sequence (bare (codes "y")) (patterns_of (t_right (Some (codes "f")) ∷ bare (codes "z") ∷ [])))) ∷ []) None) ≡ None
unfolding size visible predicates_in least_length has_empty_loop unprotected misused
other_names_are_not_joined = refl

another_name_is_not_joined : refused (matched (plain (part_of (sequence (bare (codes "x")) (patterns_of (optional (paren None (sequence (t_right None) (patterns_of (bare (codes "y") ∷ []))) None) ∷ []))))
    ∷ plain (part_of (bare (codes "z"))) ∷ []) None) ≡ None
unfolding size visible predicates_in least_length has_empty_loop unprotected misused
another_name_is_not_joined = refl

-- (x)-[:Z]->(y) behind x without OPTIONAL: no row stays
without_optional_none_stays : rows 0 x_column (matched (z_between ∷ []) None) false ((a_node 1 ∷ []) ∷ []) ≡ Ok []
unfolding size visible expansions layings value_of
without_optional_none_stays = refl
