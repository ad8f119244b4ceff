-- What ascending numbers say of the items that have them.
use Rattle.std.proofs.Common.{◌≡◌, ℕ, zero, suc, ◌+◌, ◌<◌, Bool, true, false, List, [], ◌∷◌, map, length, get_or, sym, arith}
use Rattle.std.specs.Bool.{OnTrue}
use Rattle.std.proofs.lemmas.Bool.Decides.{nat_tests}
use Rattle.gql_values3.specs.PropertyGraph.{numbers_ascend}
use Rattle.gql_graph.specs.Machinery.Ascending.{AscendsBy}

module _ {X : Type 0} (key : X → ℕ) where
  -- the first key is above the lower bound
  pub first_above : (x : X) (xs : List X) (low high : ℕ) → numbers_ascend low (map key (x ∷ xs)) high ≡ true → low < key x
  first_above x xs low high h = grind (arith, nat_tests, h)

  -- the others ascend from the first
  pub rest_ascends : (x : X) (xs : List X) (low high : ℕ) → numbers_ascend low (map key (x ∷ xs)) high ≡ true → numbers_ascend (key x) (map key xs) high ≡ true
  rest_ascends x xs low high h = grind (arith, nat_tests, h)

  -- each key is above the lower bound
  pub all_above : (xs : List X) (low high : ℕ) → numbers_ascend low (map key xs) high ≡ true → (j : ℕ) (d : X) → j < length xs → low < key (get_or xs j d)
  all_above [] low high h j d lt = absurd (omega arith)
  all_above (x ∷ xs) low high h zero d lt = first_above x xs low high h
  all_above (x ∷ xs) low high h (suc j) d lt = omega (arith, first_above x xs low high h, all_above xs (key x) high (rest_ascends x xs low high h) j d (omega arith))

  -- numbers that ascend are the keys of items that ascend by them
  pub ascends : (xs : List X) (low high : ℕ) → numbers_ascend low (map key xs) high ≡ true → AscendsBy key xs
  ascends [] low high h i j d lt below = absurd (omega arith)
  ascends (x ∷ xs) low high h zero zero d lt below = absurd (omega arith)
  ascends (x ∷ xs) low high h zero (suc j) d lt below = all_above xs (key x) high (rest_ascends x xs low high h) j d (omega arith)
  ascends (x ∷ xs) low high h (suc i) zero d lt below = absurd (omega arith)
  ascends (x ∷ xs) low high h (suc i) (suc j) d lt below = ascends xs (key x) high (rest_ascends x xs low high h) i j d (omega arith) (omega arith)

  -- there are fewer numbers between two bounds than the bounds are apart
  pub fewer : (xs : List X) (low high : ℕ) → numbers_ascend low (map key xs) high ≡ true → low + length xs < high
  fewer [] low high h = grind (arith, nat_tests, h)
  fewer (x ∷ xs) low high h = omega (arith, first_above x xs low high h, fewer xs (key x) high (rest_ascends x xs low high h))

  -- the same, by what a test of the numbers answered
  pub ascends_if : (xs : List X) (low high : ℕ) (r : Bool) → r ≡ numbers_ascend low (map key xs) high → OnTrue r (AscendsBy key xs)
  ascends_if xs low high true h = ascends xs low high (sym h)
  ascends_if xs low high false h = tt
