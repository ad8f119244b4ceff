-- Elements of lists that are made of others.
use Rattle.std.proofs.Common.{◌≡◌, ◌⊎◌, inl, inr, ℕ, zero, suc, ◌+◌, ◌<◌, ◌≤◌, Bool, true, false, cond, IsTrue, List, [], ◌∷◌, ◌++◌, map, filter, flat_map, refl, sym, subst, arith}
use Rattle.std.specs.List.{range_with_len}
use Rattle.gql_norm.specs.Selection.{Among}

pub among_left : {X : Type 0} (x : X) (xs ys : List X) → Among x xs → Among x (xs ++ ys)
among_left x [] ys i = elim i [ ]
among_left x (z ∷ xs) ys (inl e) = inl e
among_left x (z ∷ xs) ys (inr i) = inr (among_left x xs ys i)

pub among_right : {X : Type 0} (x : X) (xs ys : List X) → Among x ys → Among x (xs ++ ys)
among_right x [] ys i = i
among_right x (z ∷ xs) ys i = inr (among_right x xs ys i)

pub among_append : {X : Type 0} (x : X) (xs ys : List X) → Among x (xs ++ ys) → Among x xs ⊎ Among x ys
among_append x [] ys i = inr i
among_append x (z ∷ xs) ys (inl e) = inl (inl e)
among_append x (z ∷ xs) ys (inr i) = go (among_append x xs ys i)
  where
    go : Among x xs ⊎ Among x ys → ((x ≡ z) ⊎ Among x xs) ⊎ Among x ys
    go (inl j) = inl (inr j)
    go (inr j) = inr j

pub among_map : {X Y : Type 0} (f : X → Y) (x : X) (xs : List X) → Among x xs → Among (f x) (map f xs)
among_map f x [] i = elim i [ ]
among_map f x (y ∷ ys) (inl e) = inl (λ k. f (e k))
among_map f x (y ∷ ys) (inr i) = inr (among_map f x ys i)

pub of_map : {X Y : Type 0} (f : X → Y) (y : Y) (xs : List X) → Among y (map f xs) → (x : X) × Among x xs × (y ≡ f x)
of_map f y [] i = elim i [ ]
of_map f y (x ∷ xs) (inl e) = (x, inl refl, e)
of_map f y (x ∷ xs) (inr i) = let r = of_map f y xs i in (r.0, inr r.1, r.2)

pub among_flat : {X Y : Type 0} (f : X → List Y) (x : X) (xs : List X) (y : Y) → Among x xs → Among y (f x) → Among y (flat_map f xs)
among_flat f x [] y i j = elim i [ ]
among_flat f x (z ∷ zs) y (inl e) j = among_left y (f z) (flat_map f zs) (subst (λ w. Among y (f w)) e j)
among_flat f x (z ∷ zs) y (inr i) j = among_right y (f z) (flat_map f zs) (among_flat f x zs y i j)

pub of_flat : {X Y : Type 0} (f : X → List Y) (xs : List X) (y : Y) → Among y (flat_map f xs) → (x : X) × Among x xs × Among y (f x)
of_flat f [] y i = elim i [ ]
of_flat {X} {Y} f (x ∷ xs) y i = go (among_append y (f x) (flat_map f xs) i) (λ j. of_flat f xs y j)
  where
    go : Among y (f x) ⊎ Among y (flat_map f xs) → (Among y (flat_map f xs) → (z : X) × Among z xs × Among y (f z)) → (z : X) × Among z (x ∷ xs) × Among y (f z)
    go (inl j) more = (x, inl refl, j)
    go (inr j) more = let r = more j in (r.0, inr r.1, r.2)

pub among_filter : {X : Type 0} (p : X → Bool) (x : X) (xs : List X) → Among x xs → IsTrue (p x) → Among x (filter p xs)
among_filter p x [] i h = elim i [ ]
among_filter p x (y ∷ ys) (inl e) h = subst (λ b. Among x (cond b (y ∷ filter p ys) (filter p ys))) (sym (subst (λ z. p z ≡ true) e h)) (inl e)
among_filter p x (y ∷ ys) (inr i) h = go (p y) (among_filter p x ys i h)
  where
    go : (b : Bool) → Among x (filter p ys) → Among x (cond b (y ∷ filter p ys) (filter p ys))
    go true j = inr j
    go false j = j

pub of_filter : {X : Type 0} (p : X → Bool) (x : X) (xs : List X) → Among x (filter p xs) → Among x xs × IsTrue (p x)
of_filter p x [] i = elim i [ ]
of_filter p x (y ∷ ys) i = go (p y) refl i (λ j. of_filter p x ys j)
  where
    go : (b : Bool) → p y ≡ b → Among x (cond b (y ∷ filter p ys) (filter p ys)) → (Among x (filter p ys) → Among x ys × IsTrue (p x)) → Among x (y ∷ ys) × IsTrue (p x)
    go true e (inl j) f = (inl j, subst (λ z. p z ≡ true) (sym j) e)
    go true e (inr j) f = let r = f j in (inr r.0, r.1)
    go false e j f = let r = f j in (inr r.0, r.1)

pub among_range : (a n c : ℕ) → a ≤ c → c < a + n → Among c (range_with_len a n)
among_range a zero c le lt = absurd (omega (arith, le, lt))
among_range a (suc n) c le lt = go (eq_or_less a c le) (λ h. among_range (a + 1) n c (omega (arith, h)) (omega (arith, lt)))
  where
    eq_or_less : (x y : ℕ) → x ≤ y → (y ≡ x) ⊎ (x < y)
    eq_or_less x y h = grind arith

    go : (c ≡ a) ⊎ (a < c) → (a < c → Among c (range_with_len (a + 1) n)) → Among c (range_with_len a (suc n))
    go (inl e) more = inl e
    go (inr h) more = inr (more h)

pub of_range : (a n c : ℕ) → Among c (range_with_len a n) → (a ≤ c) × (c < a + n)
of_range a zero c i = elim i [ ]
of_range a (suc n) c (inl e) = (omega (arith, e), omega (arith, e))
of_range a (suc n) c (inr i) = let r = of_range (a + 1) n c i in (omega (arith, r.0), omega (arith, r.1))
