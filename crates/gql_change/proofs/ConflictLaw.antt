-- Where there is no conflict, any two assignments of one property of one element have the same value: in the order of
-- elements and properties whatever stands between the two is of that property, so the values of neighbours are the same.
use Rattle.std.proofs.Common.{◌≡◌, ℕ, suc, zero, ◌<◌, Bool, true, false, cond, not, List, [], ◌∷◌, length, get_or, refl, sym, ap, subst, ◌∙◌, arith, Option, Some, None}
use Rattle.std.specs.Prelude.{◌&&◌, if◌then◌else◌}
use Rattle.std.specs.List.{AllByRecursion, Contains}
use Rattle.std.specs.declared.cmp.Ordering.{Ordering}
use Rattle.std.specs.declared.cmp.Ordering.TheVariants.{Less, Equal, Greater}
use Rattle.std.specs.Ordering.{is_lt, ordering_then, ordering_reverse}
use Rattle.std.proofs.lemmas.Cmp.{nat_list_cmp_total, tied_itself}
use Rattle.std.proofs.lemmas.Map.Lookups.{exact_bytes, exact_unsigned}
use Rattle.std.proofs.lemmas.Slice.Eq.{bytes_eq-Decides}
use Rattle.gql_values3.specs.Meaning.{datum_of}
use Rattle.gql_values3.specs.Texts.{same_text}
use Rattle.gql_values3.specs.ValueOrder.{datum_cmp}
use Rattle.gql_values3.specs.declared.element.Elem.{Elem}
use Rattle.gql_values3.specs.declared.element.Elem.TheVariants as elem
use Rattle.gql_values3.specs.declared.value.Value.{Value}
use Rattle.gql_values3.proofs.OrderLaws.{datum_cmp_total, exact_datum}
use Rattle.gql_ast.specs.declared.refusal.Refusal.{Refusal}
use Rattle.gql_ast.specs.declared.refusal.Refusal.TheVariants as refusal
use Rattle.gql_eval.specs.StableSort.{inserted_in_order, stably_sorted}
use Rattle.std.specs.Option.{option_or}
use Rattle.gql_change.specs.Conflicts.{elem_cmp, act_cmp, assignment_cmp, comes_before, same_elem, are_same, act_conflict, conflict_of, neighbours_conflict, conflict_among}
use Rattle.gql_change.specs.declared.assignment.Act.{Act}
use Rattle.gql_change.specs.declared.assignment.Act.TheVariants as act
use Rattle.gql_change.specs.declared.assignment.Assignment.{Assignment}
use Rattle.gql_eval.proofs.StableSort.{Ascends, sorted_ascends}
use Rattle.gql_change.proofs.AssignedLemmas.{all_weaker, same_elem_itself}
use Rattle.gql_change.proofs.ConflictLemmas.{assignments_ordered, assignment_total, elem_total}

-- two assignments of one property of one element have the same value
abbrev pub OneValue : Assignment → Assignment → Type 0
OneValue a b = (x : List ℕ) (u w : Value) → a.target ≡ b.target → a.act ≡ act.Property x u → b.act ≡ act.Property x w → datum_cmp (datum_of u) (datum_of w) ≡ Equal

told_same : (t : Bool) (o : Ordering) (r : Refusal) → t ≡ true → (if t && not (are_same o) then Some r else None) ≡ None → o ≡ Equal
told_same true Less r p q = absurd (cc)
told_same true Equal r p q = refl
told_same true Greater r p q = absurd (cc)
told_same false o r p q = absurd (cc)

neighbours_agree : (a b : Assignment) → conflict_of a b ≡ None → OneValue a b
neighbours_agree a b none x u w s p q =
    let one : same_elem a.target b.target ≡ true = ap (same_elem a.target) (sym s) ∙ same_elem_itself a.target in
    let said : (if same_text x x && not (are_same (datum_cmp (datum_of u) (datum_of w))) then Some (refusal.Conflict a.target x u w) else None) ≡ None =
    sym (λ i. if one i then act_conflict a.target (p i) (q i) else None) ∙ none in
    told_same (same_text x x) (datum_cmp (datum_of u) (datum_of w)) (refusal.Conflict a.target x u w) ((bytes_eq-Decides x x).1 refl) said

then_equal : (r s : Ordering) → ordering_then r s ≡ Equal → (r ≡ Equal) × (s ≡ Equal)
then_equal Less s p = cc
then_equal Equal s p = (refl, p)
then_equal Greater s p = cc

elem_is : (a b : Elem) → elem_cmp a b ≡ Equal → a ≡ b
elem_is (elem.Node m) (elem.Node n) p = ap (λ (k : ℕ). elem.Node (record { 0 = k })) (exact_unsigned m.0 n.0 p)
elem_is (elem.Edge m) (elem.Edge n) p = ap (λ (k : ℕ). elem.Edge (record { 0 = k })) (exact_unsigned m.0 n.0 p)
elem_is (elem.Node m) (elem.Edge n) p = absurd (cc)
elem_is (elem.Edge m) (elem.Node n) p = absurd (cc)

elem_tie : (a b : Elem) → a ≡ b → elem_cmp a b ≡ Equal
elem_tie a b p = ap (elem_cmp a) (sym p) ∙ tied_itself elem_total a

-- what ties with a property is of that property
act_is : (x : List ℕ) (u : Value) (b : Act) → act_cmp (act.Property x u) b ≡ Equal → (v : Value) × (b ≡ act.Property x v)
act_is x u (act.Property y v) p = (v, ap (λ (z : List ℕ). act.Property z v) (sym (exact_bytes x y p)))
act_is x u (act.Label l) p = absurd (cc)
act_is x u (act.NoLabel l) p = absurd (cc)

-- what stands between two that tie, ties with them
between : (o : Ordering) (a b c : Assignment) → assignment_cmp a b ≡ o → assignment_cmp a c ≡ Equal → comes_before b a ≡ false → comes_before c b ≡ false → o ≡ Equal
between Less a b c p tie q r =
    let back : assignment_cmp c a ≡ Equal = assignment_total.antisymm c a ∙ ap ordering_reverse tie in
    let below : comes_before c b ≡ true = ap is_lt (assignment_total.congr c a b back ∙ p) in
    absurd (cc)
between Equal a b c p tie q r = refl
between Greater a b c p tie q r =
    let below : comes_before b a ≡ true = ap is_lt (assignment_total.antisymm b a ∙ ap ordering_reverse p) in
    absurd (cc)

joins : (a b c : Assignment) → OneValue a b → OneValue b c → comes_before b a ≡ false → comes_before c b ≡ false → OneValue a c
joins a b c ab bc q r x u w s p k =
    let acts : act_cmp a.act c.act ≡ Equal = (λ i. act_cmp (p i) (k i)) ∙ tied_itself nat_list_cmp_total x in
    let tie : assignment_cmp a c ≡ Equal = ap (λ (o : Ordering). ordering_then o (act_cmp a.act c.act)) (elem_tie a.target c.target s) ∙ acts in
    let middle : assignment_cmp a b ≡ Equal = between (assignment_cmp a b) a b c refl tie q r in
    let parts = then_equal (elem_cmp a.target b.target) (act_cmp a.act b.act) middle in
    let one : a.target ≡ b.target = elem_is a.target b.target parts.0 in
    let it = act_is x u b.act (ap (λ (y : Act). act_cmp y b.act) (sym p) ∙ parts.1) in
    let first : datum_cmp (datum_of u) (datum_of it.0) ≡ Equal = ab x u it.0 one p it.1 in
    let second : datum_cmp (datum_of it.0) (datum_of w) ≡ Equal = bc x it.0 w (sym one ∙ s) it.1 k in
    ap (λ d. datum_cmp d (datum_of w)) (exact_datum (datum_of u) (datum_of it.0) first) ∙ second

split_none : (o p : Option Refusal) → option_or o p ≡ None → (o ≡ None) × (p ≡ None)
split_none None p h = (refl, h)
split_none (Some r) p h = absurd (cc)

two_all : {A : Type 0} (P Q R : A → Type 0) (xs : List A) → ((x : A) → P x → Q x → R x) → AllByRecursion P xs → AllByRecursion Q xs → AllByRecursion R xs
two_all P Q R [] h p q = tt
two_all P Q R (x ∷ xs) h p q = (h x p.0 q.0, two_all P Q R xs h p.1 q.1)

-- the first agrees with all after it
first_agrees : (a : Assignment) (xs : List Assignment) → Ascends comes_before (a ∷ xs) → neighbours_conflict (a ∷ xs) ≡ None → AllByRecursion (OneValue a) xs
first_agrees a [] up none = tt
first_agrees a (b ∷ bs) up none =
    let parts = split_none (conflict_of a b) (neighbours_conflict (b ∷ bs)) none in
    let ab : OneValue a b = neighbours_agree a b parts.0 in
    (ab, two_all (OneValue b) (λ c. comes_before c b ≡ false) (OneValue a) bs (λ c bc r. joins a b c ab bc up.0.0 r) (first_agrees b bs up.1 parts.1) up.1.0)

rest_none : (a : Assignment) (xs : List Assignment) → neighbours_conflict (a ∷ xs) ≡ None → neighbours_conflict xs ≡ None
rest_none a [] none = refl
rest_none a (b ∷ bs) none = (split_none (conflict_of a b) (neighbours_conflict (b ∷ bs)) none).1

turned : (a b : Assignment) → OneValue a b → OneValue b a
turned a b h x u w s p q = datum_cmp_total.antisymm (datum_of u) (datum_of w) ∙ ap ordering_reverse (h x w u (sym s) q p)

value_is : (x : List ℕ) (u w : Value) → act.Property x u ≡ act.Property x w → u ≡ w
value_is x u w p = cc

itself_agrees : (a : Assignment) → OneValue a a
itself_agrees a x u w s p q =
    let same : u ≡ w = value_is x u w (sym p ∙ q) in
    ap (λ (y : Value). datum_cmp (datum_of u) (datum_of y)) (sym same) ∙ tied_itself datum_cmp_total (datum_of u)

all_agree : (xs : List Assignment) → Ascends comes_before xs → neighbours_conflict xs ≡ None → AllByRecursion (λ a. AllByRecursion (OneValue a) xs) xs
all_agree [] up none = tt
all_agree (a ∷ xs) up none =
    let first = first_agrees a xs up none in (
      (itself_agrees a, first),
      two_all (OneValue a) (λ b. AllByRecursion (OneValue b) xs) (λ b. AllByRecursion (OneValue b) (a ∷ xs)) xs
          (λ b ab more. (turned a b ab, more)) first (all_agree xs up.1 (rest_none a xs none)),
    )

-- what all in order have, all have
module _ {X : Type 0} (before : X → X → Bool) (P : X → Type 0) where
  inserted_case : (b : Bool) (x y : X) (ys rest : List X) → (AllByRecursion P rest → P x × AllByRecursion P ys) → AllByRecursion P (cond b (y ∷ rest) (x ∷ y ∷ ys)) → P x × AllByRecursion P (y ∷ ys)
  inserted_case true x y ys rest more all = let here = more all.1 in (here.0, (all.0, here.1))
  inserted_case false x y ys rest more all = all

  inserted_back : (x : X) (ys : List X) → AllByRecursion P (inserted_in_order before x ys) → P x × AllByRecursion P ys
  inserted_back x [] all = all
  inserted_back x (y ∷ ys) all = inserted_case (before y x) x y ys (inserted_in_order before x ys) (inserted_back x ys) all

  sorted_back : (xs : List X) → AllByRecursion P (stably_sorted before xs) → AllByRecursion P xs
  sorted_back [] all = tt
  sorted_back (x ∷ xs) all = let both = inserted_back x (stably_sorted before xs) all in (both.0, sorted_back xs both.1)

has_at : {A : Type 0} (P : A → Type 0) (xs : List A) (k : ℕ) (x : A) → k < length xs → get_or xs k x ≡ x → AllByRecursion P xs → P x
has_at P [] k x h e all = absurd (omega arith)
has_at P (y ∷ ys) zero x h e all = subst P e all.0
has_at P (y ∷ ys) (suc k) x h e all = has_at P ys k x (omega arith) e all.1

-- Where there is no conflict, a property of an element has one value.
pub one_value : (xs : List Assignment) → conflict_among xs ≡ None → (a b : Assignment) → Contains xs a → Contains xs b → OneValue a b
one_value xs none a b here there =
    let ys = stably_sorted comes_before xs in
    let no : neighbours_conflict ys ≡ None = none in
    let sorted_pairs = all_agree ys (sorted_ascends comes_before assignments_ordered xs) no in
    let pairs : AllByRecursion (λ c. AllByRecursion (OneValue c) xs) ys =
    all_weaker (λ c. AllByRecursion (OneValue c) ys) (λ c. AllByRecursion (OneValue c) xs) ys (λ c all. sorted_back comes_before (OneValue c) xs all) sorted_pairs in
    let mine : AllByRecursion (OneValue a) xs =
    has_at (λ c. AllByRecursion (OneValue c) xs) xs here.0 a here.1 here.2 (sorted_back comes_before (λ c. AllByRecursion (OneValue c) xs) xs pairs) in
    has_at (OneValue a) xs there.0 b there.1 there.2 mine
