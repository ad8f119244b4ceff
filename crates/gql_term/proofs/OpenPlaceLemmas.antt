-- The unprotected quantifiers of a body are those of its parts: a test that holds at their places says of each quantifier in a
-- part whether it is unprotected there.
use Rattle.std.proofs.Common.{◌≡◌, ℕ, ◌+◌, ◌≤◌, ◌<◌, ◌==◌, Bool, true, false, ◌||◌, List, ◌++◌, Option, Some, None, refl, ap, ◌∙◌, arith}
use Rattle.std.proofs.lemmas.Bool.Decides.{nat_tests}
use Rattle.std.proofs.lemmas.List.Folds.{list_any-append}
use Rattle.gql_norm.specs.NormalPattern.{Part, Node, Edge, Concat, Union, Alt, Quant, Opt, ModeScope, Sides, NoSide, Side}
use Rattle.gql_norm.specs.Places.{size, size_all}
use Rattle.gql_norm.specs.PathMode.{is_number_among}
use Rattle.gql_norm.specs.Termination.{protects, if_open, unprotected, unprotected_beside}
use Rattle.gql_term.specs.Machinery.OpenEnds.{is_open}
use Rattle.gql_term.proofs.CrossingLemmas.{or_none}

none_or : (a b : Bool) → a ≡ false → (a || b) ≡ b
none_or a b h = ap (λ c. c || b) h

among_both : (xs ys : List ℕ) (q : ℕ) → is_number_among (xs ++ ys) q ≡ (is_number_among xs q || is_number_among ys q)
among_both xs ys q = list_any-append (λ y. y == q) xs ys

among_neither : (xs ys : List ℕ) (q : ℕ) → is_number_among xs q ≡ false → is_number_among ys q ≡ false → is_number_among (xs ++ ys) q ≡ false
among_neither xs ys q h k = among_both xs ys q ∙ (λ i. h i || k i)

pub below_other : (a q : ℕ) → q < a → (a == q) ≡ false
below_other a q h = grind (arith, nat_tests)

pub above_other : (a q : ℕ) → a < q → (a == q) ≡ false
above_other a q h = grind (arith, nat_tests)

is_itself : (a : ℕ) → (a == a) ≡ true
is_itself a = grind (arith, nat_tests)

no_other : (safe : Bool) (n : Option ℕ) (a q : ℕ) → (a == q) ≡ false → is_number_among (if_open safe n a) q ≡ false
no_other true None a q h = refl
no_other true (Some m) a q h = refl
no_other false None a q h = ap (λ b. b || false) h
no_other false (Some m) a q h = refl

itself : (safe : Bool) (n : Option ℕ) (a : ℕ) → is_number_among (if_open safe n a) a ≡ is_open safe n
itself true None a = refl
itself true (Some m) a = refl
itself false None a = ap (λ b. b || false) (is_itself a)
itself false (Some m) a = refl

-- all of them stand at the part's own places
mutual
  unfolding size unprotected

  none_below : (p : Part) (a : ℕ) (safe : Bool) (q : ℕ) → q < a → is_number_among (unprotected p a safe) q ≡ false
  none_below (Node w) a safe q h = refl
  none_below (Edge d w) a safe q h = refl
  none_below (Concat p r) a safe q h = among_neither (unprotected p a safe) (unprotected r (a + size p) safe) q (none_below p a safe q h) (none_below r (a + size p) safe q (omega arith))
  none_below (Union p r) a safe q h =
      among_neither (unprotected p (a + 1) safe) (unprotected r (a + size p + 2) safe) q (none_below p (a + 1) safe q (omega arith)) (none_below r (a + size p + 2) safe q (omega arith))
  none_below (Alt ss) a safe q h = none_below_sides ss (a + 1) safe q (omega arith)
  none_below (Quant b l n) a safe q h =
      among_neither (if_open safe n a) (unprotected b (a + 2) safe) q (no_other safe n a q (below_other a q h)) (none_below b (a + 2) safe q (omega arith))
  none_below (Opt b) a safe q h = none_below b (a + 1) safe q (omega arith)
  none_below (ModeScope m b c) a safe q h = none_below b (a + 1) (safe || protects m) q (omega arith)

  none_below_sides : (ss : Sides) (b : ℕ) (safe : Bool) (q : ℕ) → q < b → is_number_among (unprotected_beside ss b safe) q ≡ false
  none_below_sides NoSide b safe q h = refl
  none_below_sides (Side p ss) b safe q h =
      among_neither (unprotected p b safe) (unprotected_beside ss (b + size p + 1) safe) q (none_below p b safe q h) (none_below_sides ss (b + size p + 1) safe q (omega arith))

mutual
  unfolding size unprotected

  none_behind : (p : Part) (a : ℕ) (safe : Bool) (q : ℕ) → a + size p ≤ q → is_number_among (unprotected p a safe) q ≡ false
  none_behind (Node w) a safe q h = refl
  none_behind (Edge d w) a safe q h = refl
  none_behind (Concat p r) a safe q h =
      among_neither (unprotected p a safe) (unprotected r (a + size p) safe) q (none_behind p a safe q (omega arith)) (none_behind r (a + size p) safe q (omega arith))
  none_behind (Union p r) a safe q h =
      among_neither (unprotected p (a + 1) safe) (unprotected r (a + size p + 2) safe) q (none_behind p (a + 1) safe q (omega arith)) (none_behind r (a + size p + 2) safe q (omega arith))
  none_behind (Alt ss) a safe q h = none_behind_sides ss (a + 1) safe q (omega arith)
  none_behind (Quant b l n) a safe q h =
      among_neither (if_open safe n a) (unprotected b (a + 2) safe) q (no_other safe n a q (above_other a q (omega arith))) (none_behind b (a + 2) safe q (omega arith))
  none_behind (Opt b) a safe q h = none_behind b (a + 1) safe q (omega arith)
  none_behind (ModeScope m b c) a safe q h = none_behind b (a + 1) (safe || protects m) q (omega arith)

  none_behind_sides : (ss : Sides) (b : ℕ) (safe : Bool) (q : ℕ) → b + size_all ss ≤ q → is_number_among (unprotected_beside ss b safe) q ≡ false
  none_behind_sides NoSide b safe q h = refl
  none_behind_sides (Side p ss) b safe q h =
      among_neither (unprotected p b safe) (unprotected_beside ss (b + size p + 1) safe) q (none_behind p b safe q (omega arith)) (none_behind_sides ss (b + size p + 1) safe q (omega arith))

-- a test that holds of a quantifier where it is unprotected
abbrev mutual
  pub Tells : (ℕ → Bool) → Part → ℕ → Bool → Type 0
  Tells f (Node w) a safe = Unit {0}
  Tells f (Edge d w) a safe = Unit {0}
  Tells f (Concat p r) a safe = Tells f p a safe × Tells f r (a + size p) safe
  Tells f (Union p r) a safe = Tells f p (a + 1) safe × Tells f r (a + size p + 2) safe
  Tells f (Alt ss) a safe = TellsSides f ss (a + 1) safe
  Tells f (Quant b l n) a safe = (f a ≡ is_open safe n) × Tells f b (a + 2) safe
  Tells f (Opt b) a safe = Tells f b (a + 1) safe
  Tells f (ModeScope m b c) a safe = Tells f b (a + 1) (safe || protects m)

  pub TellsSides : (ℕ → Bool) → Sides → ℕ → Bool → Type 0
  TellsSides f NoSide b safe = Unit {0}
  TellsSides f (Side p ss) b safe = Tells f p b safe × TellsSides f ss (b + size p + 1) safe

-- of two parts a test tells what it tells of their places together
in_first : (b : Bool) (xs ys : List ℕ) (q : ℕ) → b ≡ is_number_among (xs ++ ys) q → is_number_among ys q ≡ false → b ≡ is_number_among xs q
in_first b xs ys q h k = h ∙ among_both xs ys q ∙ or_none (is_number_among xs q) (is_number_among ys q) k

in_second : (b : Bool) (xs ys : List ℕ) (q : ℕ) → b ≡ is_number_among (xs ++ ys) q → is_number_among xs q ≡ false → b ≡ is_number_among ys q
in_second b xs ys q h k = h ∙ among_both xs ys q ∙ none_or (is_number_among xs q) (is_number_among ys q) k

module _ (f : ℕ → Bool) where
  -- it holds at the unprotected quantifiers among these places
  abbrev HoldsAtPlaces : ℕ → ℕ → List ℕ → Type 0
  HoldsAtPlaces a end qs = (q : ℕ) → a ≤ q → q < end → f q ≡ is_number_among qs q

  mutual
    unfolding size unprotected

    tells : (p : Part) (a : ℕ) (safe : Bool) → HoldsAtPlaces a (a + size p) (unprotected p a safe) → Tells f p a safe
    tells (Node w) a safe h = tt
    tells (Edge d w) a safe h = tt
    tells (Concat p r) a safe h = (
      tells p a safe (λ q k l. in_first (f q) (unprotected p a safe) (unprotected r (a + size p) safe) q (h q k (omega arith)) (none_below r (a + size p) safe q l)),
      tells r (a + size p) safe (λ q k l. in_second (f q) (unprotected p a safe) (unprotected r (a + size p) safe) q (h q (omega arith) (omega arith)) (none_behind p a safe q k)),
    )
    tells (Union p r) a safe h = (
      tells p (a + 1) safe (λ q k l. in_first (f q) (unprotected p (a + 1) safe) (unprotected r (a + size p + 2) safe) q (h q (omega arith) (omega arith)) (none_below r (a + size p + 2) safe q (omega arith))),
      tells r (a + size p + 2) safe (λ q k l. in_second (f q) (unprotected p (a + 1) safe) (unprotected r (a + size p + 2) safe) q (h q (omega arith) (omega arith)) (none_behind p (a + 1) safe q (omega arith))),
    )
    tells (Alt ss) a safe h = tells_sides ss (a + 1) safe (λ q k l. h q (omega arith) (omega arith))
    tells (Quant b l n) a safe h = (
      in_first (f a) (if_open safe n a) (unprotected b (a + 2) safe) a (h a (omega arith) (omega arith)) (none_below b (a + 2) safe a (omega arith)) ∙ itself safe n a,
      tells b (a + 2) safe (λ q k m. in_second (f q) (if_open safe n a) (unprotected b (a + 2) safe) q (h q (omega arith) (omega arith)) (no_other safe n a q (above_other a q (omega arith)))),
    )
    tells (Opt b) a safe h = tells b (a + 1) safe (λ q k l. h q (omega arith) (omega arith))
    tells (ModeScope m b c) a safe h = tells b (a + 1) (safe || protects m) (λ q k l. h q (omega arith) (omega arith))

    tells_sides : (ss : Sides) (b : ℕ) (safe : Bool) → HoldsAtPlaces b (b + size_all ss) (unprotected_beside ss b safe) → TellsSides f ss b safe
    tells_sides NoSide b safe h = tt
    tells_sides (Side p ss) b safe h = (
      tells p b safe (λ q k l. in_first (f q) (unprotected p b safe) (unprotected_beside ss (b + size p + 1) safe) q (h q k (omega arith)) (none_below_sides ss (b + size p + 1) safe q (omega arith))),
      tells_sides ss (b + size p + 1) safe (λ q k l. in_second (f q) (unprotected p b safe) (unprotected_beside ss (b + size p + 1) safe) q (h q (omega arith) (omega arith)) (none_behind p b safe q (omega arith))),
    )

pub body_tells : (body : Part) → Tells (is_number_among (unprotected body 0 false)) body 0 false
body_tells body = tells (is_number_among (unprotected body 0 false)) body 0 false (λ q k l. refl)
