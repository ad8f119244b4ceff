-- A list that is sorted, in which ties stand as they stood, is the one that insertion gives: of two lists in order
-- with the same ties, each has the other's first element, and none is less than its own first; so the first ones tie,
-- and are the first of the same ties.
use Rattle.std.proofs.Common.{◌≡◌, ℕ, zero, suc, ◌<◌, ◌≤◌, Bool, true, false, cond, not, List, [], ◌∷◌, length, map, get_or, refl, sym, ap, subst, ◌∙◌, arith}
use Rattle.std.specs.Prelude.{◌&&◌, filter}
use Rattle.std.specs.Cmp.{IsStrictWeakOrder}
use Rattle.std.specs.List.{AllByRecursion}
use Rattle.std.specs.List.Sorted.{ties, IsSortedBy, IsStableBy}
use Rattle.std.proofs.lemmas.Bool.{and_from, and_parts}
use Rattle.std.proofs.lemmas.List.Sorted.{sorted_far}
use Rattle.std.specs.List.{list_all}
use Rattle.gql_eval.specs.StableSort.{inserted_in_order, stably_sorted}

module _ {X : Type 0} (P : X → Type 0) where
  head_case : (b : Bool) (x y : X) (more rest : List X) → P x → (rest ≡ y ∷ more → P y) → cond b (x ∷ rest) rest ≡ y ∷ more → P y
  head_case true x y more rest here later e = let same : x ≡ y = cc in subst P same here
  head_case false x y more rest here later e = later e

  -- the first that passes a test has what all have
  first_has : (p : X → Bool) (xs : List X) (y : X) (more : List X) → AllByRecursion P xs → filter p xs ≡ y ∷ more → P y
  first_has p [] y more all e = absurd (cc)
  first_has p (x ∷ xs) y more all e = head_case (p x) x y more (filter p xs) all.0 (first_has p xs y more all.1) e

choose : {X : Type 0} (Q : List X → Type 0) (b : Bool) (s t : List X) → Q s → Q t → Q (cond b s t)
choose Q true s t p q = p
choose Q false s t p q = q

ties_left : (b c : Bool) → (not b && not c) ≡ true → b ≡ false
ties_left true c p = cc
ties_left false c p = refl

ties_right : (b c : Bool) → (not b && not c) ≡ true → c ≡ false
ties_right true c p = absurd (cc)
ties_right false true p = cc
ties_right false false p = refl

swap_case : {X : Type 0} (s t : Bool) (x y : X) (rest more : List X) → more ≡ cond s (x ∷ rest) rest → (s ≡ true → t ≡ true → ⊥)
    → cond t (y ∷ more) more ≡ cond s (x ∷ cond t (y ∷ rest) rest) (cond t (y ∷ rest) rest)
swap_case true true x y rest more p never = absurd (never refl refl)
swap_case true false x y rest more p never = p
swap_case false true x y rest more p never = ap (λ l. y ∷ l) p
swap_case false false x y rest more p never = p

rest_case : {X : Type 0} (s t : Bool) (x y : X) (xs ys : List X) → s ≡ t → cond s (x ∷ xs) xs ≡ cond t (y ∷ ys) ys → xs ≡ ys
rest_case true true x y xs ys p e = cc
rest_case true false x y xs ys p e = absurd (cc)
rest_case false true x y xs ys p e = absurd (cc)
rest_case false false x y xs ys p e = e

module _ {X : Type 0} (lt : X → X → Bool) where
  -- none of them is less
  abbrev pub NoneLess : X → List X → Type 0
  NoneLess x ys = AllByRecursion (λ y. lt y x ≡ false) ys

  -- none is less than one before it
  abbrev pub Ascends : List X → Type 0
  Ascends [] = Unit {0}
  Ascends (x ∷ xs) = NoneLess x xs × Ascends xs

  pub none_less : (x : X) (ys : List X) → ((j : ℕ) (d : X) → j < length ys → lt (get_or ys j d) x ≡ false) → NoneLess x ys
  none_less x [] h = tt
  none_less x (y ∷ ys) h = (h zero y (omega arith), none_less x ys (λ j d k. h (suc j) d (omega arith)))

  pub ascends : (xs : List X) → ((i j : ℕ) (d : X) → i ≤ j → j < length xs → lt (get_or xs j d) (get_or xs i d) ≡ false) → Ascends xs
  ascends [] h = tt
  ascends (x ∷ xs) h =
      (none_less x xs (λ j d k. h zero (suc j) d (omega arith) (omega arith)), ascends xs (λ i j d a b. h (suc i) (suc j) d (omega arith) (omega arith)))

  inserted_has : (P : X → Type 0) (x : X) (ys : List X) → P x → AllByRecursion P ys → AllByRecursion P (inserted_in_order lt x ys)
  inserted_has P x [] here all = (here, tt)
  inserted_has P x (y ∷ ys) here all =
      choose (AllByRecursion P) (lt y x) (y ∷ inserted_in_order lt x ys) (x ∷ y ∷ ys) (all.0, inserted_has P x ys here all.1) (here, all)

  module _ (o : IsStrictWeakOrder lt) where
    not_itself : (x : X) (b : Bool) → lt x x ≡ b → lt x x ≡ false
    not_itself x true e = o.one_way x x e
    not_itself x false e = e

    pub itself : (x : X) → lt x x ≡ false
    itself x = not_itself x (lt x x) refl

    ties_itself : (x : X) → ties lt x x ≡ true
    ties_itself x = λ i. not (itself x i) && not (itself x i)

    pub none_less_down : (x y : X) (ws : List X) → lt y x ≡ false → NoneLess y ws → NoneLess x ws
    none_less_down x y [] h all = tt
    none_less_down x y (w ∷ ws) h all = (o.chain w y x all.0 h, none_less_down x y ws h all.1)

    insert_case : (x y : X) (ys : List X) (b : Bool) → lt y x ≡ b → Ascends (y ∷ ys) → Ascends (inserted_in_order lt x ys) → Ascends (cond b (y ∷ inserted_in_order lt x ys) (x ∷ y ∷ ys))
    insert_case x y ys true e all more = (inserted_has (λ w. lt w y ≡ false) x ys (o.one_way y x e) all.0, more)
    insert_case x y ys false e all more = ((e, none_less_down x y ys e all.0), all)

    inserted_ascends : (x : X) (ys : List X) → Ascends ys → Ascends (inserted_in_order lt x ys)
    inserted_ascends x [] all = (tt, tt)
    inserted_ascends x (y ∷ ys) all = insert_case x y ys (lt y x) refl all (inserted_ascends x ys all.1)

    pub sorted_ascends : (xs : List X) → Ascends (stably_sorted lt xs)
    sorted_ascends [] = tt
    sorted_ascends (x ∷ xs) = inserted_ascends x (stably_sorted lt xs) (sorted_ascends xs)

    not_both : (z x y : X) → lt y x ≡ true → ties lt z x ≡ true → ties lt z y ≡ true → ⊥
    not_both z x y e p q =
        let below : lt z x ≡ false = ties_left (lt z x) (lt x z) p in
        let above : lt y z ≡ false = ties_right (lt z y) (lt y z) q in
        let above_it : lt y x ≡ false = o.chain y z x above below in
        absurd (cc)

    ties_case : (z x y : X) (ys : List X) (b : Bool) → lt y x ≡ b → filter (ties lt z) (inserted_in_order lt x ys) ≡ filter (ties lt z) (x ∷ ys)
        → filter (ties lt z) (cond b (y ∷ inserted_in_order lt x ys) (x ∷ y ∷ ys)) ≡ filter (ties lt z) (x ∷ y ∷ ys)
    ties_case z x y ys true e more =
        swap_case (ties lt z x) (ties lt z y) x y (filter (ties lt z) ys) (filter (ties lt z) (inserted_in_order lt x ys)) more (not_both z x y e)
    ties_case z x y ys false e more = refl

    inserted_ties : (z x : X) (ys : List X) → filter (ties lt z) (inserted_in_order lt x ys) ≡ filter (ties lt z) (x ∷ ys)
    inserted_ties z x [] = refl
    inserted_ties z x (y ∷ ys) = ties_case z x y ys (lt y x) refl (inserted_ties z x ys)

    pub sorted_ties : (z : X) (xs : List X) → filter (ties lt z) (stably_sorted lt xs) ≡ filter (ties lt z) xs
    sorted_ties z [] = refl
    sorted_ties z (x ∷ xs) = inserted_ties z x (stably_sorted lt xs) ∙ ap (λ l. cond (ties lt z x) (x ∷ l) l) (sorted_ties z xs)

    -- an element stands first among its ties where it stands first
    first_tie : (x : X) (xs : List X) → filter (ties lt x) (x ∷ xs) ≡ x ∷ filter (ties lt x) xs
    first_tie x xs = ap (λ b. cond b (x ∷ filter (ties lt x) xs) (filter (ties lt x) xs)) (ties_itself x)

    pub same_ties : (ys zs : List X) → Ascends ys → Ascends zs → ((x : X) → filter (ties lt x) ys ≡ filter (ties lt x) zs) → ys ≡ zs
    same_ties [] [] a b h = refl
    same_ties [] (z ∷ zs) a b h = let none : [] ≡ z ∷ filter (ties lt z) zs = h z ∙ first_tie z zs in absurd (cc)
    same_ties (y ∷ ys) [] a b h = let none : y ∷ filter (ties lt y) ys ≡ [] = sym (first_tie y ys) ∙ h y in absurd (cc)
    same_ties (y ∷ ys) (z ∷ zs) a b h =
        let there : y ∷ filter (ties lt y) ys ≡ filter (ties lt y) (z ∷ zs) = sym (first_tie y ys) ∙ h y in
        let back : filter (ties lt z) (y ∷ ys) ≡ z ∷ filter (ties lt z) zs = h z ∙ first_tie z zs in
        let y-z : lt y z ≡ false = first_has (λ w. lt w z ≡ false) (ties lt y) (z ∷ zs) y (filter (ties lt y) ys) (itself z, b.0) (sym there) in
        let z-y : lt z y ≡ false = first_has (λ w. lt w y ≡ false) (ties lt z) (y ∷ ys) z (filter (ties lt z) zs) (itself y, a.0) back in
        let tie : ties lt y z ≡ true = λ i. not (y-z i) && not (z-y i) in
        let heads : y ∷ filter (ties lt y) ys ≡ z ∷ filter (ties lt y) zs = there ∙ ap (λ c. cond c (z ∷ filter (ties lt y) zs) (filter (ties lt y) zs)) tie in
        let same : y ≡ z = cc in
        let rest : ys ≡ zs = same_ties ys zs a.1 b.1 (λ x. rest_case (ties lt x y) (ties lt x z) y z (filter (ties lt x) ys) (filter (ties lt x) zs) (ap (ties lt x) same) (h x)) in
        λ i. same i ∷ rest i

    pub is_sorted : (xs ys : List X) → IsSortedBy lt ys → IsStableBy lt xs ys → ys ≡ stably_sorted lt xs
    is_sorted xs ys up stable =
        same_ties ys (stably_sorted lt xs) (ascends ys (sorted_far lt o ys up)) (sorted_ascends xs) (λ x. stable x ∙ sym (sorted_ties x xs))

-- the order of what a function gives
module _ {X Y : Type 0} (f : Y → X) (lt : X → X → Bool) where
  map_case : (b : Bool) (y z : Y) (rest ys : List Y) (more : List X) → map f rest ≡ more
      → map f (cond b (z ∷ rest) (y ∷ z ∷ ys)) ≡ cond b (f z ∷ more) (f y ∷ f z ∷ map f ys)
  map_case true y z rest ys more h = ap (λ xs. f z ∷ xs) h
  map_case false y z rest ys more h = refl

  map_inserted : (y : Y) (ys : List Y) → map f (inserted_in_order (λ a b. lt (f a) (f b)) y ys) ≡ inserted_in_order lt (f y) (map f ys)
  map_inserted y [] = refl
  map_inserted y (z ∷ zs) =
      map_case (lt (f z) (f y)) y z (inserted_in_order (λ a b. lt (f a) (f b)) y zs) zs (inserted_in_order lt (f y) (map f zs)) (map_inserted y zs)

  pub map_sorted : (ys : List Y) → map f (stably_sorted (λ a b. lt (f a) (f b)) ys) ≡ stably_sorted lt (map f ys)
  map_sorted [] = refl
  map_sorted (y ∷ ys) = map_inserted y (stably_sorted (λ a b. lt (f a) (f b)) ys) ∙ ap (inserted_in_order lt (f y)) (map_sorted ys)

-- what all have, all have in order
module _ {X : Type 0} (before : X → X → Bool) (p : X → Bool) where
  inserted_case : (b : Bool) (x y : X) (ys rest : List X) → p x ≡ true → list_all p (y ∷ ys) ≡ true → list_all p rest ≡ true → list_all p (cond b (y ∷ rest) (x ∷ y ∷ ys)) ≡ true
  inserted_case true x y ys rest here all more = and_from (p y) (list_all p rest) (and_parts (p y) (list_all p ys) all).0 more
  inserted_case false x y ys rest here all more = and_from (p x) (list_all p (y ∷ ys)) here all

  inserted_all : (x : X) (ys : List X) → p x ≡ true → list_all p ys ≡ true → list_all p (inserted_in_order before x ys) ≡ true
  inserted_all x [] here all = and_from (p x) true here refl
  inserted_all x (y ∷ ys) here all = inserted_case (before y x) x y ys (inserted_in_order before x ys) here all (inserted_all x ys here (and_parts (p y) (list_all p ys) all).1)

  pub sorted_all : (xs : List X) → list_all p xs ≡ true → list_all p (stably_sorted before xs) ≡ true
  sorted_all [] all = refl
  sorted_all (x ∷ xs) all = inserted_all x (stably_sorted before xs) (and_parts (p x) (list_all p xs) all).0 (sorted_all xs (and_parts (p x) (list_all p xs) all).1)
