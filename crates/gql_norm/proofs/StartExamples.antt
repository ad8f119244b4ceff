-- Examples of the bindings that begin at one node, with near misses: of (x)(-[:T]-> | -[:T]->)(y) one begins at node 1, since both
-- sides give the same, and with `|+|` two do, which tell their side.
use Rattle.std.proofs.Common.{◌≡◌, inl, inr, ℕ, ◌==◌, true, List, [], ◌∷◌, codes, filter, None, refl, sym, subst}
use Rattle.std.proofs.lemmas.Bool.{eq-eqb}
use Prim.{⊥}
use Rattle.gql_ast.specs.Evaluation.{value_of}
use Rattle.gql_ast.specs.Pattern.{Pattern, paren, sequence, alternation, multiset_alternation, patterns_of}
use Rattle.gql_norm.specs.NormalForm.{part_of}
use Rattle.gql_norm.specs.Places.{size}
use Rattle.gql_norm.specs.Declaration.{visible}
use Rattle.gql_norm.specs.ReducedBinding.{Reduced, reduced_cmp, IsBindingFrom}
use Rattle.gql_norm.specs.Selection.{Among}
use Rattle.gql_norm.proofs.AmongLemmas.{among_filter, of_filter}
use Rattle.gql_norm.specs.Machinery.Listing.{expansions, layings, bindings}
use Rattle.gql_norm.proofs.ExpansionLemmas.{IsBounded}
use Rattle.gql_norm.proofs.ListedBindings.{listed_is_binding, binding_is_listed}
use Rattle.gql_norm.proofs.OneTable.{differs_from_all, no_binding_of}
use Rattle.gql_norm.proofs.ExampleGraph.{g0, bare, t_right}
use Rattle.gql_norm.proofs.BindingExamples.{binding}
use Rattle.gql_norm.proofs.MoreBindingExamples.{x_and_y}

-- the listed bindings that begin at node 1, where there are no columns
abbrev begin_at_one : Pattern → List Reduced
begin_at_one p = filter (λ (x : Reduced). x.path.start == 1) (bindings g0 [] [] [] (part_of p) 0)

abbrev FromOne : Pattern → Reduced → Type 0
FromOne p x = IsBindingFrom g0 [] [] [] (part_of p) 1 x

all_from_one : (p : Pattern) (S : List Reduced) (x : Reduced) → IsBounded (part_of p) → begin_at_one p ≡ S → FromOne p x → Among x S
all_from_one p S x h e b =
    subst (Among x) e (among_filter (λ (z : Reduced). z.path.start == 1) x (bindings g0 [] [] [] (part_of p) 0) (binding_is_listed g0 [] [] [] (part_of p) 0 x h b.0) (eq-eqb x.path.start 1 b.1))

none_from_one : (p : Pattern) (S : List Reduced) (x : Reduced) → IsBounded (part_of p) → begin_at_one p ≡ S → differs_from_all reduced_cmp x S ≡ true → FromOne p x → ⊥
none_from_one p S x h e differs b = no_binding_of x S differs (all_from_one p S x h e b)

is_from_one : (p : Pattern) (S : List Reduced) (x : Reduced) → begin_at_one p ≡ S → x.path.start ≡ 1 → Among x S → FromOne p x
is_from_one p S x e start i =
    (listed_is_binding g0 [] [] [] (part_of p) 0 x (of_filter (λ (z : Reduced). z.path.start == 1) x (bindings g0 [] [] [] (part_of p) 0) (subst (Among x) (sym e) i)).0, start)

abbrev to_two : List ℕ → Reduced
to_two tags = binding 1 ((1, 2) ∷ []) x_and_y tags

-- (x)(-[:T]-> | -[:T]->)(y)
abbrev untold_sides : Pattern
untold_sides = sequence (bare (codes "x")) (patterns_of (paren None (alternation (t_right None) (patterns_of (t_right None ∷ []))) None ∷ bare (codes "y") ∷ []))

one_begins_there : begin_at_one untold_sides ≡ to_two [] ∷ []
unfolding size visible expansions layings value_of
one_begins_there = refl

it_is_a_binding : FromOne untold_sides (to_two [])
it_is_a_binding = is_from_one untold_sides _ (to_two []) one_begins_there refl (inl refl)

no_other_begins_there : (x : Reduced) → FromOne untold_sides x → Among x (to_two [] ∷ [])
unfolding IsBounded
no_other_begins_there x b = all_from_one untold_sides _ x (tt, ((tt, tt), tt)) one_begins_there b

-- nor one that tells its side
no_side_is_told : FromOne untold_sides (to_two (2 ∷ [])) → ⊥
unfolding IsBounded
no_side_is_told b = none_from_one untold_sides _ _ (tt, ((tt, tt), tt)) one_begins_there refl b

-- (x)(-[:T]-> |+| -[:T]->)(y)
abbrev told_sides : Pattern
told_sides = sequence (bare (codes "x")) (patterns_of (paren None (multiset_alternation (t_right None) (patterns_of (t_right None ∷ []))) None ∷ bare (codes "y") ∷ []))

two_begin_there : begin_at_one told_sides ≡ to_two (1 ∷ []) ∷ to_two (2 ∷ []) ∷ []
unfolding size visible expansions layings value_of
two_begin_there = refl

the_first_is_a_binding : FromOne told_sides (to_two (1 ∷ []))
the_first_is_a_binding = is_from_one told_sides _ (to_two (1 ∷ [])) two_begin_there refl (inl refl)

the_second_is_a_binding : FromOne told_sides (to_two (2 ∷ []))
the_second_is_a_binding = is_from_one told_sides _ (to_two (2 ∷ [])) two_begin_there refl (inr (inl refl))

no_third_begins_there : (x : Reduced) → FromOne told_sides x → Among x (to_two (1 ∷ []) ∷ to_two (2 ∷ []) ∷ [])
unfolding IsBounded
no_third_begins_there x b = all_from_one told_sides _ x (tt, ((tt, (tt, tt)), tt)) two_begin_there b

-- there is no third side, and a side is told
there_is_no_third_side : FromOne told_sides (to_two (3 ∷ [])) → ⊥
unfolding IsBounded
there_is_no_third_side b = none_from_one told_sides _ _ (tt, ((tt, (tt, tt)), tt)) two_begin_there refl b

a_side_is_told : FromOne told_sides (to_two []) → ⊥
unfolding IsBounded
a_side_is_told b = none_from_one told_sides _ _ (tt, ((tt, (tt, tt)), tt)) two_begin_there refl b
