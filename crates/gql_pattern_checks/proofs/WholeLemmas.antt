-- A question by the places of predicates, and by a walk that gathers what may be named: the same.
use Rattle.std.proofs.Common.{◌≡◌, ℕ, ◌+◌, ◌≤◌, ◌<◌, false, List, [], ◌∷◌, ◌++◌, Option, None, refl, sym, ap, subst, ◌∙◌, arith, append_assoc}
use Rattle.std.specs.Prelude.{if◌then◌else◌}
use Rattle.std.specs.Option.{option_or}
use Rattle.std.proofs.lemmas.List.{append-nil}
use Rattle.gql_values3.specs.declared.table.ColumnKind.TheVariants as kind
use Rattle.gql_ast.specs.ClauseColumns.{ColumnList}
use Rattle.gql_ast.specs.declared.refusal.Refusal.{Refusal}
use Rattle.gql_norm.specs.NormalPattern.{Part, Node, Edge, Concat, Union, Alt, Quant, Opt, ModeScope, Sides, NoSide, Side}
use Rattle.gql_norm.specs.Places.{size, size_all}
use Rattle.gql_norm.specs.Declaration.{Declared, visible, visible_sides}
use Rattle.gql_norm.specs.PredicateSpot.{PredicateSpot, predicates_in, predicates_in_sides, predicates_of_element, predicates_of_scope}
use Rattle.gql_pattern_checks.specs.Machinery.Scopes.{with_variable_of, with_part}
use Rattle.gql_pattern_checks.specs.Machinery.ScopeWalk.{refused_of, refused_in, refused_in_sides}
use Rattle.gql_pattern_checks.specs.declared.scope.Names.{Names}
use Rattle.gql_pattern_checks.specs.declared.scoped.ScopeQuestion.{ScopeQuestion}
use Rattle.gql_pattern_checks.proofs.HoldLemmas.{Holds, holds_variable, holds_part}
use Rattle.gql_pattern_checks.proofs.PlaceLemmas.{Entries, entry_of, entries_of, seen_by, Agree, Below, agree_itself, agree_less, below_on, below_more, seen_behind, seen_here, both_seen, agree_below}
use Rattle.gql_norm.proofs.VisibleLemmas.{not_entered, within, unseen, unseen_sides}

-- What is said of a list of predicates is the first refusal of what is asked of each, under names that hold what is seen there.
pub record IsAskedAt (q : ScopeQuestion) (columns : ColumnList) (seen : ℕ → List Declared) (said : List PredicateSpot → Option Refusal) : Type 0 where
  pub nothing : said [] ≡ None
  pub both : (xs ys : List PredicateSpot) → said (xs ++ ys) ≡ option_or (said xs) (said ys)
  pub at_spot : (t : PredicateSpot) (s : Names) → Holds [] s (seen_by t.quants (seen t.place)) → said (t ∷ []) ≡ refused_of q columns s t.trees

-- At the places of a part that is entered at a place, these entries are seen, and then what the part shows.
abbrev pub Sees : (ℕ → List Declared) → Entries → Part → ℕ → List ℕ → Type 0
Sees seen es p a qs = (x : ℕ) (around : List ℕ) → a ≤ x → x < a + size p → Agree around qs a → seen_by around (seen x) ≡ es ++ seen_by around (visible p a qs x)

abbrev pub SeesSides : (ℕ → List Declared) → Entries → Sides → ℕ → List ℕ → Type 0
SeesSides seen es ss b qs = (x : ℕ) (around : List ℕ) → b ≤ x → x < b + size_all ss → Agree around qs b → seen_by around (seen x) ≡ es ++ seen_by around (visible_sides ss b qs x)

sees_first : (seen : ℕ → List Declared) (es : Entries) (p r : Part) (a : ℕ) (qs : List ℕ) → Sees seen es (Concat p r) a qs → Sees seen es p a qs
unfolding size visible
sees_first seen es p r a qs v = λ x around l h ag.
    v x around l (omega (arith, h)) ag
    ∙ ap (λ ds. es ++ seen_by around (visible p a qs x ++ ds)) (unseen r (a + size p) qs x h)
    ∙ ap (λ ds. es ++ seen_by around ds) (append-nil (visible p a qs x))

sees_second : (seen : ℕ → List Declared) (es : Entries) (p r : Part) (a : ℕ) (qs : List ℕ) → Below qs a → Sees seen es (Concat p r) a qs → Sees seen (es ++ entries_of false p) r (a + size p) qs
unfolding size visible
sees_second seen es p r a qs bl v = λ x around l h ag.
    v x around (omega (arith, l)) (omega (arith, h)) (agree_below around qs a (a + size p) (omega arith) ag)
    ∙ ap (λ ds. es ++ ds) (both_seen around (visible p a qs x) (visible r (a + size p) qs x) (entries_of false p) (seen_by around (visible r (a + size p) qs x)) (seen_behind p a qs x around l ag bl) refl)
    ∙ sym (append_assoc es (entries_of false p) (seen_by around (visible r (a + size p) qs x)))

sees_left : (seen : ℕ → List Declared) (es : Entries) (p r : Part) (a : ℕ) (qs : List ℕ) → Sees seen es (Union p r) a qs → Sees seen es p (a + 1) qs
unfolding size visible
sees_left seen es p r a qs v = λ x around l h ag.
    v x around (omega (arith, l)) (omega (arith, h)) (agree_below around qs a (a + 1) (omega arith) ag)
    ∙ ap (λ b. es ++ seen_by around (if b then visible r (a + size p + 2) qs x else visible p (a + 1) qs x ++ visible r (a + size p + 2) qs x)) (not_entered (a + size p + 2) (size r) x (omega (arith, h)))
    ∙ ap (λ ds. es ++ seen_by around (visible p (a + 1) qs x ++ ds)) (unseen r (a + size p + 2) qs x (omega (arith, h)))
    ∙ ap (λ ds. es ++ seen_by around ds) (append-nil (visible p (a + 1) qs x))

sees_right : (seen : ℕ → List Declared) (es : Entries) (p r : Part) (a : ℕ) (qs : List ℕ) → Sees seen es (Union p r) a qs → Sees seen es r (a + size p + 2) qs
unfolding size visible
sees_right seen es p r a qs v = λ x around l h ag.
    v x around (omega (arith, l)) (omega (arith, h)) (agree_below around qs a (a + size p + 2) (omega arith) ag)
    ∙ ap (λ b. es ++ seen_by around (if b then visible r (a + size p + 2) qs x else visible p (a + 1) qs x ++ visible r (a + size p + 2) qs x)) (within (a + size p + 2) (size r) x l h)

sees_side : (seen : ℕ → List Declared) (es : Entries) (p : Part) (ss : Sides) (b : ℕ) (qs : List ℕ) → SeesSides seen es (Side p ss) b qs → Sees seen es p b qs
unfolding size visible
sees_side seen es p ss b qs v = λ x around l h ag.
    v x around l (omega (arith, h)) ag
    ∙ ap (λ c. es ++ seen_by around (if c then visible_sides ss (b + size p + 1) qs x else visible p b qs x ++ visible_sides ss (b + size p + 1) qs x)) (not_entered (b + size p + 1) (size_all ss) x (omega (arith, h)))
    ∙ ap (λ ds. es ++ seen_by around (visible p b qs x ++ ds)) (unseen_sides ss (b + size p + 1) qs x (omega (arith, h)))
    ∙ ap (λ ds. es ++ seen_by around ds) (append-nil (visible p b qs x))

sees_other_sides : (seen : ℕ → List Declared) (es : Entries) (p : Part) (ss : Sides) (b : ℕ) (qs : List ℕ) → SeesSides seen es (Side p ss) b qs → SeesSides seen es ss (b + size p + 1) qs
unfolding size visible
sees_other_sides seen es p ss b qs v = λ x around l h ag.
    v x around (omega (arith, l)) (omega (arith, h)) (agree_below around qs b (b + size p + 1) (omega arith) ag)
    ∙ ap (λ c. es ++ seen_by around (if c then visible_sides ss (b + size p + 1) qs x else visible p b qs x ++ visible_sides ss (b + size p + 1) qs x)) (within (b + size p + 1) (size_all ss) x l h)

-- at an element its own variable is seen too
element_holds : (seen : List Declared) (s : Names) (es : Entries) (v : Option (List ℕ)) (qs : List ℕ) → Holds [] s es → seen_by qs seen ≡ es ++ entry_of false v → Holds [] (with_variable_of false s v) (seen_by qs seen)
element_holds seen s es v qs h e = subst (λ ds. Holds [] (with_variable_of false s v) ds) (sym e) (holds_variable false [] s es v h)

module _ (q : ScopeQuestion) (columns : ColumnList) (seen : ℕ → List Declared) (said : List PredicateSpot → Option Refusal) (f : IsAskedAt q columns seen said) where
  mutual
    unfolding size visible predicates_in

    pub asked_at : (p : Part) (a : ℕ) (qs : List ℕ) (s : Names) (es : Entries) → Below qs a → Holds [] s es → Sees seen es p a qs → said (predicates_in p a qs) ≡ refused_in q columns s p
    asked_at (Node w) a qs s es bl h v =
        f.at_spot (predicates_of_element a qs w) (with_variable_of false s w.variable)
        (element_holds (seen a) s es w.variable qs h (v a qs (omega arith) (omega arith) (agree_itself qs a) ∙ ap (λ ds. es ++ ds) (seen_here kind.Node a qs w.variable bl)))
    asked_at (Edge d w) a qs s es bl h v =
        f.at_spot (predicates_of_element a qs w) (with_variable_of false s w.variable)
        (element_holds (seen a) s es w.variable qs h (v a qs (omega arith) (omega arith) (agree_itself qs a) ∙ ap (λ ds. es ++ ds) (seen_here kind.Edge a qs w.variable bl)))
    asked_at (Concat p r) a qs s es bl h v =
        f.both (predicates_in p a qs) (predicates_in r (a + size p) qs)
        ∙ (λ i. option_or (asked_at p a qs s es bl h (sees_first seen es p r a qs v) i)
        (asked_at r (a + size p) qs (with_part false s p) (es ++ entries_of false p) (below_on qs a (a + size p) (omega arith) bl) (holds_part false [] s es p h) (sees_second seen es p r a qs bl v) i))
    asked_at (Union p r) a qs s es bl h v =
        f.both (predicates_in p (a + 1) qs) (predicates_in r (a + size p + 2) qs)
        ∙ (λ i. option_or (asked_at p (a + 1) qs s es (below_on qs a (a + 1) (omega arith) bl) h (sees_left seen es p r a qs v) i)
        (asked_at r (a + size p + 2) qs s es (below_on qs a (a + size p + 2) (omega arith) bl) h (sees_right seen es p r a qs v) i))
    asked_at (Alt ss) a qs s es bl h v =
        asked_at_sides ss (a + 1) qs s es (below_on qs a (a + 1) (omega arith) bl) h
        (λ x around l k ag. v x around (omega (arith, l)) (omega (arith, k)) (agree_below around qs a (a + 1) (omega arith) ag))
    asked_at (Quant b l n) a qs s es bl h v =
        asked_at b (a + 2) (a ∷ qs) s es (below_more qs a bl) h
        (λ x around l k ag. v x around (omega (arith, l)) (omega (arith, k)) (agree_less around qs a ag))
    asked_at (Opt b) a qs s es bl h v =
        asked_at b (a + 1) qs s es (below_on qs a (a + 1) (omega arith) bl) h
        (λ x around l k ag. v x around (omega (arith, l)) (omega (arith, k)) (agree_below around qs a (a + 1) (omega arith) ag))
    asked_at (ModeScope m b c) a qs s es bl h v =
        f.both (predicates_in b (a + 1) qs) (predicates_of_scope (a + size b + 1) qs c ∷ [])
        ∙ (λ i. option_or
        (asked_at b (a + 1) qs s es (below_on qs a (a + 1) (omega arith) bl) h (λ x around l k ag. v x around (omega (arith, l)) (omega (arith, k)) (agree_below around qs a (a + 1) (omega arith) ag)) i)
        (f.at_spot (predicates_of_scope (a + size b + 1) qs c) (with_part false s b)
        (subst (λ ds. Holds [] (with_part false s b) ds)
        (sym (v (a + size b + 1) qs (omega arith) (omega arith) (agree_itself qs a)
        ∙ ap (λ ds. es ++ ds) (seen_behind b (a + 1) qs (a + size b + 1) qs (omega arith) (agree_itself qs (a + 1 + size b)) (below_on qs a (a + 1) (omega arith) bl))))
        (holds_part false [] s es b h)) i))

    asked_at_sides : (ss : Sides) (b : ℕ) (qs : List ℕ) (s : Names) (es : Entries) → Below qs b → Holds [] s es → SeesSides seen es ss b qs → said (predicates_in_sides ss b qs) ≡ refused_in_sides q columns s ss
    asked_at_sides NoSide b qs s es bl h v = f.nothing
    asked_at_sides (Side p ss) b qs s es bl h v =
        f.both (predicates_in p b qs) (predicates_in_sides ss (b + size p + 1) qs)
        ∙ (λ i. option_or (asked_at p b qs s es bl h (sees_side seen es p ss b qs v) i)
        (asked_at_sides ss (b + size p + 1) qs s es (below_on qs b (b + size p + 1) (omega arith) bl) h (sees_other_sides seen es p ss b qs v) i))
