-- Examples of selectors: of the four walks of at most four edges from node 1 to itself, SHORTEST 2 GROUP keeps those of the
-- two least lengths, and ANY SHORTEST the one of no edge.
use Rattle.std.proofs.Common.{◌≡◌, ◌⊎◌, ◌↔◌, inl, inr, ℕ, ◌<◌, ◌≤◌, List, [], ◌∷◌, codes, Some, None, refl, sym, ap, ◌∙◌, subst, arith, lit<, lit≤}
use Prim.{⊥}
use Rattle.gql_ast.specs.Evaluation.{value_of}
use Rattle.gql_ast.specs.Pattern.{sequence, repeated, patterns_of}
use Rattle.gql_ast.specs.declared.pattern.Quantifier.TheVariants as quantifier
use Rattle.gql_norm.specs.NormalPattern.{Part, Shortest, Groups}
use Rattle.gql_norm.specs.NormalForm.{part_of}
use Rattle.gql_norm.specs.Places.{size}
use Rattle.gql_norm.specs.Declaration.{visible}
use Rattle.gql_norm.specs.ReducedBinding.{Reduced, IsBindingOf}
use Rattle.gql_norm.specs.Selection.{Among, IsLegal, IsLengthBelow, FewBelow, AtMostPerPair, KeepsShortest, pair_of, length_of}
use Rattle.gql_norm.specs.Machinery.Listing.{expansions, layings, bindings}
use Rattle.gql_norm.proofs.ExpansionLemmas.{IsBounded}
use Rattle.gql_norm.proofs.ListedBindings.{listed_is_binding, binding_is_listed}
use Rattle.gql_norm.proofs.ExampleGraph.{g0, n_is, node_where, t_right}
use Rattle.gql_norm.proofs.BindingExamples.{binding}

-- (x WHERE x.n = 1)-[:T]->{0,4}(y WHERE y.n = 1)
abbrev body : Part
body = part_of (sequence (node_where (codes "x") (n_is (codes "x") (codes "1")))
    (patterns_of (repeated (t_right None) (quantifier.Between (Some (codes "0")) (Some (codes "4"))) ∷ node_where (codes "y") (n_is (codes "y") (codes "1")) ∷ [])))

abbrev In : Reduced → Type 0
In x = IsBindingOf g0 [] [] [] body x

abbrev stays : Reduced
stays = binding 1 [] ((codes "x", 0) ∷ (codes "y", 0) ∷ []) []

abbrev once : Reduced
once = binding 1 ((1, 2) ∷ (2, 1) ∷ []) ((codes "x", 0) ∷ (codes "y", 4) ∷ []) []

abbrev twice : Reduced
twice = binding 1 ((1, 2) ∷ (2, 1) ∷ (1, 2) ∷ (2, 1) ∷ []) ((codes "x", 0) ∷ (codes "y", 8) ∷ []) []

abbrev round : Reduced
round = binding 1 ((1, 2) ∷ (3, 3) ∷ (4, 1) ∷ []) ((codes "x", 0) ∷ (codes "y", 6) ∷ []) []

abbrev all : List Reduced
all = stays ∷ once ∷ twice ∷ round ∷ []

these_are_all : bindings g0 [] [] [] body 0 ≡ all
unfolding size visible expansions layings value_of
these_are_all = refl

-- a member is one of the four, and these are members
one_of_four : (x : Reduced) → In x → Among x all
unfolding IsBounded
one_of_four x b = subst (Among x) these_are_all (binding_is_listed g0 [] [] [] body 0 x (tt, ((tt, (tt, (tt, tt))), tt)) b)

member : (x : Reduced) → Among x all → In x
member x i = listed_is_binding g0 [] [] [] body 0 x (subst (Among x) (sym these_are_all) i)

in_stays : In stays
in_stays = member stays (inl refl)

in_once : In once
in_once = member once (inr (inl refl))

-- no member has one edge
no_edge_or_two : (y : Reduced) → In y → (length_of y ≡ 0) ⊎ (2 ≤ length_of y)
no_edge_or_two y b = go (one_of_four y b)
  where
    go : Among y all → (length_of y ≡ 0) ⊎ (2 ≤ length_of y)
    go (inl e) = inl (ap length_of e)
    go (inr (inl e)) = inr (let h = ap length_of e in omega (arith, h))
    go (inr (inr (inl e))) = inr (let h = ap length_of e in omega (arith, h))
    go (inr (inr (inr (inl e)))) = inr (let h = ap length_of e in omega (arith, h))
    go (inr (inr (inr (inr i)))) = elim i [ ]

-- SHORTEST 2 GROUP
two : List Reduced
two = stays ∷ once ∷ []

few_stays : FewBelow 2 In stays
few_stays [] p e = lit< tt
few_stays (l ∷ ls) p e = let h = e.0.4 in absurd (omega (arith, h))

few_once : FewBelow 2 In once
few_once [] p e = lit< tt
few_once (l ∷ []) p e = lit< tt
few_once (l ∷ m ∷ ls) p e = absurd (p.0.0 (none l e.0 ∙ sym (none m e.1.0)))
  where
    none : (k : ℕ) → IsLengthBelow In once k → k ≡ 0
    none k b = go (no_edge_or_two b.0 b.1)
      where
        go : (length_of b.0 ≡ 0) ⊎ (2 ≤ length_of b.0) → k ≡ 0
        go (inl e) = sym b.3 ∙ e
        go (inr h) = let e = b.3 in let lt = b.4 in absurd (omega (arith, e, lt, h))

-- a member of more than two edges has both lengths below it
not_few : (x : Reduced) → pair_of x ≡ (1, 1) → 2 < length_of x → FewBelow 2 In x → ⊥
not_few x pair long few =
    let h : 2 < 2 = few (0 ∷ 2 ∷ []) (((λ e. let h : 0 ≡ 2 = e in absurd (omega (arith, h))), tt), (tt, tt))
    ((stays, in_stays, sym pair, refl, omega (arith, long)), ((once, in_once, sym pair, refl, long), tt)) in
    omega (arith, h)

not_among_two : (x : Reduced) → 2 < length_of x → Among x two → ⊥
unfolding two
not_among_two x long (inl e) = let h = ap length_of e in omega (arith, long, h)
not_among_two x long (inr (inl e)) = let h = ap length_of e in omega (arith, long, h)
not_among_two x long (inr (inr i)) = elim i [ ]

groups_rule : (x : Reduced) → In x → (Among x two ↔ FewBelow 2 In x)
unfolding two
groups_rule x b = go (one_of_four x b)
  where
    go : Among x all → (Among x two ↔ FewBelow 2 In x)
    go (inl e) = ((λ i. subst (FewBelow 2 In) (sym e) few_stays), λ f. inl e)
    go (inr (inl e)) = ((λ i. subst (FewBelow 2 In) (sym e) few_once), λ f. inr (inl e))
    go (inr (inr (inl e))) =
        let h = ap length_of e in
        ((λ i. absurd (not_among_two x (omega (arith, h)) i)), λ f. absurd (not_few x (ap pair_of e) (omega (arith, h)) f))
    go (inr (inr (inr (inl e)))) =
        let h = ap length_of e in
        ((λ i. absurd (not_among_two x (omega (arith, h)) i)), λ f. absurd (not_few x (ap pair_of e) (omega (arith, h)) f))
    go (inr (inr (inr (inr i)))) = elim i [ ]

two_least_lengths : IsLegal (Some (Groups 2)) In two
unfolding two
two_least_lengths = record { members = (in_stays, (in_once, tt)); ordered = refl; rule = groups_rule }

-- ANY SHORTEST
pair_of_all : (x : Reduced) → In x → pair_of x ≡ (1, 1)
pair_of_all x b = go (one_of_four x b)
  where
    go : Among x all → pair_of x ≡ (1, 1)
    go (inl e) = ap pair_of e
    go (inr (inl e)) = ap pair_of e
    go (inr (inr (inl e))) = ap pair_of e
    go (inr (inr (inr (inl e)))) = ap pair_of e
    go (inr (inr (inr (inr i)))) = elim i [ ]

only : (y : Reduced) → Among y (stays ∷ []) → y ≡ stays
only y (inl e) = e
only y (inr i) = elim i [ ]

at_most_one : AtMostPerPair 1 (stays ∷ [])
at_most_one pair [] p e = lit≤ tt
at_most_one pair (y ∷ []) p e = lit≤ tt
at_most_one pair (y ∷ z ∷ ys) p e = absurd (p.0.0 (only y e.0.0 ∙ sym (only z e.1.0.0)))

least_of_all : KeepsShortest In (stays ∷ [])
least_of_all x y b out i pair = let h = ap length_of (only y i) in omega (arith, h)

one_shortest : IsLegal (Some (Shortest 1)) In (stays ∷ [])
one_shortest = record {
  members = (in_stays, tt);
  ordered = refl;
  rule = (at_most_one, (λ x b out. (stays ∷ [], refl, (tt, tt), ((inl refl, sym (pair_of_all x b)), tt))), least_of_all);
}

-- and not the one of two edges
not_the_longer : IsLegal (Some (Shortest 1)) In (once ∷ []) → ⊥
not_the_longer l =
    let h : length_of once ≤ length_of stays = l.rule.2 stays once in_stays (λ i. left_out i) (inl refl) refl in
    omega (arith, h)
  where
    left_out : Among stays (once ∷ []) → ⊥
    left_out (inl e) = let h = ap length_of e in omega (arith, h)
    left_out (inr i) = elim i [ ]
