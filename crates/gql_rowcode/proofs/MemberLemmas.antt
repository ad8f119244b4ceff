-- What is in a list, by recursion on the list.
use Rattle.std.proofs.Common.{◌≡◌, ℕ, zero, suc, ◌<◌, cond, Bool, true, false, ◌&&◌, List, [], ◌∷◌, ◌++◌, length, map, get_or, Option, Some, None, refl, sym, ap, subst, ◌∙◌, arith, inl, inr, ◌⊎◌}
use Rattle.std.specs.Prelude.{Contains, find}
use Rattle.std.specs.List.{flat_map, list_all, list_any, AllByRecursion}
use Rattle.std.proofs.lemmas.List.Concat.{flat_map-cons}
use Rattle.std.proofs.lemmas.Bool.{and_parts, and_from, or_left, or_right, or_cases}

-- the list has the element
abbrev pub Has : {X : Type 0} → List X → X → Type 0
Has [] x = ⊥
Has (y ∷ ys) x = (x ≡ y) ⊎ Has ys x

module _ {X : Type 0} where
  -- between this and a place
  pub has_at : (xs : List X) (x : X) (k : ℕ) → k < length xs → get_or xs k x ≡ x → Has xs x
  has_at [] x k lt e = absurd (omega arith)
  has_at (y ∷ ys) x zero lt e = inl (sym e)
  has_at (y ∷ ys) x (suc k) lt e = inr (has_at ys x k (omega arith) e)

  pub has_from : (xs : List X) (x : X) → Contains xs x → Has xs x
  has_from xs x c = has_at xs x c.0 c.1 c.2

  pub contains_from : (xs : List X) (x : X) → Has xs x → Contains xs x
  contains_from [] x h = absurd h
  contains_from (y ∷ ys) x (inl e) = (0, omega arith, sym e)
  contains_from (y ∷ ys) x (inr h) = let c = contains_from ys x h in (suc c.0, (let lt = c.1 in omega arith), c.2)

  -- two lists in a row
  pub has_left : (xs ys : List X) (x : X) → Has xs x → Has (xs ++ ys) x
  has_left [] ys x h = absurd h
  has_left (z ∷ zs) ys x (inl e) = inl e
  has_left (z ∷ zs) ys x (inr h) = inr (has_left zs ys x h)

  pub has_right : (xs ys : List X) (x : X) → Has ys x → Has (xs ++ ys) x
  has_right [] ys x h = h
  has_right (z ∷ zs) ys x h = inr (has_right zs ys x h)

  pub has_either : (xs ys : List X) (x : X) → Has (xs ++ ys) x → Has xs x ⊎ Has ys x
  has_either [] ys x h = inr h
  has_either (z ∷ zs) ys x (inl e) = inl (inl e)
  has_either (z ∷ zs) ys x (inr h) = elim (has_either zs ys x h) [ inl a ↦ inl (inr a) | inr b ↦ inr b ]

  pub has_last : (xs : List X) (x : X) → Has (xs ++ x ∷ []) x
  has_last xs x = has_right xs (x ∷ []) x (inl refl)

  -- an element of a list with one more at its end
  pub has_push : (xs : List X) (x y : X) → Has (xs ++ x ∷ []) y → Has xs y ⊎ (y ≡ x)
  has_push [] x y (inl e) = inr e
  has_push [] x y (inr h) = absurd h
  has_push (z ∷ zs) x y (inl e) = inl (inl e)
  has_push (z ∷ zs) x y (inr h) = elim (has_push zs x y h) [ inl a ↦ inl (inr a) | inr b ↦ inr b ]

  -- what all have, each has
  pub all_has : (p : X → Bool) (xs : List X) (x : X) → list_all p xs ≡ true → Has xs x → p x ≡ true
  all_has p [] x all h = absurd h
  all_has p (y ∷ ys) x all (inl e) = ap p e ∙ (and_parts (p y) (list_all p ys) all).0
  all_has p (y ∷ ys) x all (inr h) = all_has p ys x ((and_parts (p y) (list_all p ys) all).1) h

  pub all_from : (p : X → Bool) (xs : List X) → ((x : X) → Has xs x → p x ≡ true) → list_all p xs ≡ true
  all_from p [] each = refl
  all_from p (y ∷ ys) each = and_from (p y) (list_all p ys) (each y (inl refl)) (all_from p ys (λ x h. each x (inr h)))

  pub each_has : (P : X → Type 0) (xs : List X) (x : X) → AllByRecursion P xs → Has xs x → P x
  each_has P [] x all h = absurd h
  each_has P (y ∷ ys) x all (inl e) = subst P (sym e) all.0
  each_has P (y ∷ ys) x all (inr h) = each_has P ys x all.1 h

  pub each_from : (P : X → Type 0) (xs : List X) → ((x : X) → Has xs x → P x) → AllByRecursion P xs
  each_from P [] each = tt
  each_from P (y ∷ ys) each = (each y (inl refl), each_from P ys (λ x h. each x (inr h)))

  -- one that passes
  pub any_has : (p : X → Bool) (xs : List X) (x : X) → Has xs x → p x ≡ true → list_any p xs ≡ true
  any_has p [] x h pass = absurd h
  any_has p (y ∷ ys) x (inl e) pass = or_left (p y) (list_any p ys) (ap p (sym e) ∙ pass)
  any_has p (y ∷ ys) x (inr h) pass = or_right (p y) (list_any p ys) (any_has p ys x h pass)

  pub any_back : (p : X → Bool) (xs : List X) → list_any p xs ≡ true → (x : X) × Has xs x × (p x ≡ true)
  any_back p [] any = absurd (cc)
  any_back p (y ∷ ys) any =
      elim (or_cases (p y) (list_any p ys) any) [
        | inl here ↦ (y, inl refl, here)
        | inr there ↦ let rest = any_back p ys there in (rest.0, inr rest.1, rest.2)
      ]

  found_case : (b : Bool) (y x : X) (r : Option X) → cond b (Some y) r ≡ Some x → ((b ≡ true) × (y ≡ x)) ⊎ (r ≡ Some x)
  found_case true y x r e = inl (refl, cc)
  found_case false y x r e = inr e

  -- the first that passes
  pub find_has : (p : X → Bool) (xs : List X) (x : X) → find p xs ≡ Some x → Has xs x × (p x ≡ true)
  find_has p [] x e = absurd (cc)
  find_has p (y ∷ ys) x e =
      elim (found_case (p y) y x (find p ys) e) [
        | inl here ↦ (inl (sym here.1), ap p (sym here.1) ∙ here.0)
        | inr later ↦ let rest = find_has p ys x later in (inr rest.0, rest.1)
      ]

-- each element seen otherwise
module _ {X Y : Type 0} (f : X → Y) where
  pub has_map : (xs : List X) (x : X) → Has xs x → Has (map f xs) (f x)
  has_map [] x h = absurd h
  has_map (z ∷ zs) x (inl e) = inl (ap f e)
  has_map (z ∷ zs) x (inr h) = inr (has_map zs x h)

  pub has_map_back : (xs : List X) (y : Y) → Has (map f xs) y → (x : X) × Has xs x × (y ≡ f x)
  has_map_back [] y h = absurd h
  has_map_back (z ∷ zs) y (inl e) = (z, inl refl, e)
  has_map_back (z ∷ zs) y (inr h) = let rest = has_map_back zs y h in (rest.0, inr rest.1, rest.2)

-- each element seen as a list
module _ {X Y : Type 0} (f : X → List Y) where
  pub has_flat_map : (xs : List X) (x : X) (y : Y) → Has xs x → Has (f x) y → Has (flat_map f xs) y
  has_flat_map [] x y h k = absurd h
  has_flat_map (z ∷ zs) x y (inl e) k = rw flat_map-cons (has_left (f z) (flat_map f zs) y (subst (λ (w : X). Has (f w) y) e k))
  has_flat_map (z ∷ zs) x y (inr h) k = rw flat_map-cons (has_right (f z) (flat_map f zs) y (has_flat_map zs x y h k))

  pub has_flat_map_back : (xs : List X) (y : Y) → Has (flat_map f xs) y → (x : X) × Has xs x × Has (f x) y
  has_flat_map_back [] y h = absurd h
  has_flat_map_back (z ∷ zs) y h =
      elim (has_either (f z) (flat_map f zs) y (rw flat_map-cons at h)) [
        | inl here ↦ (z, inl refl, here)
        | inr there ↦ let rest = has_flat_map_back zs y there in (rest.0, inr rest.1, rest.2)
      ]

-- Elements in an order, and none twice: two such lists with the same elements are one.
module _ {X : Type 0} (Less : X → X → Type 0) where
  -- it comes before each of them
  abbrev pub PrecedesAll : X → List X → Type 0
  PrecedesAll x ys = (y : X) → Has ys y → Less x y

  abbrev pub InOrder : List X → Type 0
  InOrder [] = Unit {0}
  InOrder (x ∷ xs) = PrecedesAll x xs × InOrder xs

  between : (z : X) (zs : List X) (x : X) (ys : List X) → PrecedesAll z (zs ++ x ∷ ys) → ((y : X) → Has zs y → Less y x) → (y : X) → Has (z ∷ zs) y → Less y x
  between z zs x ys first rest y (inl e) = subst (λ (w : X). Less w x) (sym e) (first x (has_right zs (x ∷ ys) x (inl refl)))
  between z zs x ys first rest y (inr h) = rest y h

  -- an element between others
  pub order_parts : (xs : List X) (x : X) (ys : List X) → InOrder (xs ++ x ∷ ys) → ((y : X) → Has xs y → Less y x) × ((y : X) → Has ys y → Less x y)
  order_parts [] x ys up = (λ y h. absurd h, up.0)
  order_parts (z ∷ zs) x ys up = let rest = order_parts zs x ys up.1 in (between z zs x ys up.0 rest.0, rest.1)

  module _ (itself : (x : X) → Less x x → ⊥) (chain : (x y z : X) → Less x y → Less y z → Less x z) where
    head_or : (y : X) (ys : List X) (x : X) → PrecedesAll y ys → Has (y ∷ ys) x → (x ≡ y) ⊎ Less y x
    head_or y ys x up (inl e) = inl e
    head_or y ys x up (inr h) = inr (up x h)

    heads : (x y : X) → (x ≡ y) ⊎ Less y x → (y ≡ x) ⊎ Less x y → x ≡ y
    heads x y (inl e) h = e
    heads x y (inr l) (inl e) = sym e
    heads x y (inr l) (inr m) = absurd (itself x (chain x y x m l))

    behind : (x y z : X) (xs ys : List X) → x ≡ y → PrecedesAll x xs → Has xs z → Has (y ∷ ys) z → Has ys z
    behind x y z xs ys same up here (inl e) = absurd (itself x (subst (Less x) (e ∙ sym same) (up z here)))
    behind x y z xs ys same up here (inr h) = h

    pub same_lists : (xs ys : List X) → InOrder xs → InOrder ys → ((x : X) → Has xs x → Has ys x) → ((x : X) → Has ys x → Has xs x) → xs ≡ ys
    same_lists [] [] a b there back = refl
    same_lists [] (y ∷ ys) a b there back = absurd (back y (inl refl))
    same_lists (x ∷ xs) [] a b there back = absurd (there x (inl refl))
    same_lists (x ∷ xs) (y ∷ ys) a b there back =
        let same : x ≡ y = heads x y (head_or y ys x b.0 (there x (inl refl))) (head_or x xs y a.0 (back y (inl refl))) in
        let rest : xs ≡ ys = same_lists xs ys a.1 b.1 (λ z h. behind x y z xs ys same a.0 h (there z (inr h))) (λ z h. behind y x z ys xs (sym same) b.0 h (back z (inr h))) in
        ap (λ (h : X). h ∷ xs) same ∙ ap (λ (t : List X). y ∷ t) rest

-- elements in the order of what a function gives
module _ {X Y : Type 0} (Less : Y → Y → Type 0) (f : X → Y) where
  pub order_map : (xs : List X) → InOrder Less (map f xs) → InOrder (λ (a b : X). Less (f a) (f b)) xs
  order_map [] up = tt
  order_map (x ∷ xs) up = (λ y h. up.0 (f y) (has_map f xs y h), order_map xs up.1)
