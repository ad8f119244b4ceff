-- The order of assignments is total, so a stable sort by it is the definition's.
use Rattle.std.proofs.Common.{◌≡◌, ℕ, zero, suc, ◌+◌, ◌<◌, ◌≤◌, Bool, true, false, not, List, [], ◌∷◌, length, map, drop, get_or, refl, sym, ap, subst, ◌∙◌, arith, Some, None, Bor}
use Rattle.std.proofs.lemmas.List.{get_or-map, length-map}
use Rattle.std.specs.declared.cmp.Ordering.{Ordering}
use Rattle.std.specs.declared.cmp.Ordering.TheVariants.{Less, Equal, Greater}
use Rattle.std.specs.Prelude.{◌&&◌, ◌==◌, if◌then◌else◌}
use Rattle.std.specs.Ordering.{ordering_then, ordering_index, nat_cmp, on, then_cmp}
use Rattle.std.specs.Cmp.{IsTotalOrder, IsStrictWeakOrder}
use Rattle.std.specs.Cmp.Lexicographic.{slice_cmp}
use Rattle.std.proofs.lemmas.Cmp.{nat_cmp_total, nat_list_cmp_total, on_total, then_total}
use Rattle.std.proofs.lemmas.List.Sorted.{ranks_by}
use Rattle.gql_values3.specs.declared.element.Elem.{Elem}
use Rattle.gql_values3.specs.declared.element.Elem.TheVariants as elem
use Rattle.gql_ast.specs.declared.refusal.Refusal.{Refusal}
use Rattle.std.specs.Option.{option_or}
use Rattle.gql_change.specs.Conflicts.{elem_cmp, act_cmp, assignment_cmp, comes_before, in_order, conflict_of, neighbours_conflict, are_same}
use Rattle.gql_change.specs.declared.assignment.Act.{Act}
use Rattle.gql_change.specs.declared.assignment.Act.TheVariants as act
use Rattle.gql_change.specs.declared.assignment.Assignment.{Assignment}
use Rattle.gql_eval.specs.StableSort.{stably_sorted}
use Rattle.gql_eval.proofs.StableSort.{map_sorted}
use Rattle.gql_eval.proofs.EachSteps.{drop_here}

abbrev elem_kind : Elem → ℕ
elem_kind (elem.Node n) = 0
elem_kind (elem.Edge e) = 1

abbrev elem_number : Elem → ℕ
elem_number (elem.Node n) = n.0
elem_number (elem.Edge e) = e.0

elem_ranked : (a b : Elem) → ordering_then (nat_cmp (elem_kind a) (elem_kind b)) (nat_cmp (elem_number a) (elem_number b)) ≡ elem_cmp a b
elem_ranked (elem.Node m) (elem.Node n) = refl
elem_ranked (elem.Node m) (elem.Edge n) = refl
elem_ranked (elem.Edge m) (elem.Node n) = refl
elem_ranked (elem.Edge m) (elem.Edge n) = refl

pub elem_total : IsTotalOrder elem_cmp
elem_total =
    let ranked : then_cmp (on elem_kind nat_cmp) (on elem_number nat_cmp) ≡ elem_cmp = λ i a b. elem_ranked a b i in
    subst (λ (R : Elem → Elem → Ordering). IsTotalOrder R) ranked (then_total (on_total elem_kind nat_cmp_total) (on_total elem_number nat_cmp_total))

abbrev act_kind : Act → ℕ
act_kind (act.Property x a) = 0
act_kind (act.Label l) = 1
act_kind (act.NoLabel l) = 1

abbrev act_name : Act → List ℕ
act_name (act.Property x a) = x
act_name (act.Label l) = []
act_name (act.NoLabel l) = []

act_ranked : (a b : Act) → ordering_then (nat_cmp (act_kind a) (act_kind b)) (slice_cmp nat_cmp (act_name a) (act_name b)) ≡ act_cmp a b
act_ranked (act.Property x a) (act.Property y b) = refl
act_ranked (act.Property x a) (act.Label l) = refl
act_ranked (act.Property x a) (act.NoLabel l) = refl
act_ranked (act.Label l) (act.Property y b) = refl
act_ranked (act.Label l) (act.Label m) = refl
act_ranked (act.Label l) (act.NoLabel m) = refl
act_ranked (act.NoLabel l) (act.Property y b) = refl
act_ranked (act.NoLabel l) (act.Label m) = refl
act_ranked (act.NoLabel l) (act.NoLabel m) = refl

pub act_total : IsTotalOrder act_cmp
act_total =
    let ranked : then_cmp (on act_kind nat_cmp) (on act_name (slice_cmp nat_cmp)) ≡ act_cmp = λ i a b. act_ranked a b i in
    subst (λ (R : Act → Act → Ordering). IsTotalOrder R) ranked (then_total (on_total act_kind nat_cmp_total) (on_total act_name nat_list_cmp_total))

pub assignment_total : IsTotalOrder assignment_cmp
assignment_total = then_total (on_total (λ (a : Assignment). a.target) elem_total) (on_total (λ (a : Assignment). a.act) act_total)

pub assignments_ordered : IsStrictWeakOrder comes_before
assignments_ordered = ranks_by assignment_total (λ (a : Assignment). a)

-- the same for references to assignments
pub references_ordered : IsStrictWeakOrder (λ (a b : Bor Assignment). comes_before a.now b.now)
references_ordered = ranks_by assignment_total (λ (a : Bor Assignment). a.now)

abbrev pub seen : List (Bor Assignment) → List Assignment
seen rs = map (λ (r : Bor Assignment). r.now) rs

pub references_sorted : (rs : List (Bor Assignment)) → seen (stably_sorted (λ (a b : Bor Assignment). comes_before a.now b.now) rs) ≡ in_order (seen rs)
references_sorted rs = map_sorted (λ (r : Bor Assignment). r.now) comes_before rs

-- neighbours, one after the other
neighbours_step : (xs : List Assignment) (i : ℕ) (a b : Assignment) → i + 1 < length xs → a ≡ get_or xs i a → b ≡ get_or xs (i + 1) b
    → neighbours_conflict (drop i xs) ≡ option_or (conflict_of a b) (neighbours_conflict (drop (i + 1) xs))
neighbours_step xs i a b h p q =
    let one : drop i xs ≡ a ∷ drop (i + 1) xs = drop_here xs i a (omega arith) p in
    let two : drop (i + 1) xs ≡ b ∷ drop ((i + 1) + 1) xs = drop_here xs (i + 1) b h q in
    ap neighbours_conflict one ∙ ap (λ (l : List Assignment). neighbours_conflict (a ∷ l)) two
    ∙ ap (λ (l : List Assignment). option_or (conflict_of a b) (neighbours_conflict l)) (sym two)

short_none : (xs : List Assignment) → length xs ≤ 1 → neighbours_conflict xs ≡ None
short_none [] h = refl
short_none (a ∷ []) h = refl
short_none (a ∷ b ∷ bs) h = absurd (omega arith)

pub neighbours_end : (xs : List Assignment) (i : ℕ) → length xs ≤ i + 1 → neighbours_conflict (drop i xs) ≡ None
neighbours_end [] zero h = refl
neighbours_end [] (suc i) h = refl
neighbours_end (a ∷ xs) zero h = short_none (a ∷ xs) (omega arith)
neighbours_end (a ∷ xs) (suc i) h = neighbours_end xs i (omega arith)

-- two values of one property that differ
pub differ : (t : Bool) (o : Ordering) (r : Refusal) → t ≡ true → are_same o ≡ false → Some r ≡ (if t && not (are_same o) then Some r else None)
differ true o r p q = ap (λ b. if not b then Some r else None) (sym q)
differ false o r p q = absurd (cc)

pub not_equal_index : (o : Ordering) → false ≡ (ordering_index o == 1) → are_same o ≡ false
not_equal_index Less p = refl
not_equal_index Equal p = sym p
not_equal_index Greater p = refl

-- a reference of a place
seen_at : (rs : List (Bor Assignment)) (i : ℕ) (r : Bor Assignment) → i < length rs → r ≡ get_or rs i r → r.now ≡ get_or (seen rs) i r.now
seen_at rs i r h p = ap (λ (s : Bor Assignment). s.now) p ∙ sym (get_or-map (λ (s : Bor Assignment). s.now) rs i r r.now h)

-- neighbours among references
pub seen_step : (rs : List (Bor Assignment)) (i : ℕ) (a b : Bor Assignment) → i + 1 < length rs → a ≡ get_or rs i a → b ≡ get_or rs (i + 1) b
    → neighbours_conflict (drop i (seen rs)) ≡ option_or (conflict_of a.now b.now) (neighbours_conflict (drop (i + 1) (seen rs)))
seen_step rs i a b next p q =
    neighbours_step (seen rs) i a.now b.now (omega (arith, length-map rs (λ (r : Bor Assignment). r.now))) (seen_at rs i a (omega arith) p) (seen_at rs (i + 1) b next q)
