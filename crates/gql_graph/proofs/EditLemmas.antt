-- What taking out, putting in and putting over do to items that ascend by a number. Each is undone by another, and each
-- is one act at the place that a search finds.
use Rattle.std.proofs.Common.{◌≡◌, ℕ, suc, ◌<◌, ◌≤◌, eqb, true, List, [], ◌∷◌, ◌++◌, map, length, get_or, take, drop, Option, None, Some, refl, arith}
use Rattle.std.specs.Prelude.{find, is_some, slice_set}
use Rattle.std.proofs.lemmas.Bool.Decides.{nat_tests}
use Rattle.std.proofs.lemmas.Grind.{common_steps}
use Rattle.gql_values3.specs.PropertyGraph.{numbers_ascend}
use Rattle.gql_graph.specs.Edits.{put_in, taken_out, put_over}
use Rattle.gql_graph.specs.Machinery.AfterChange.{place_of}
use Rattle.gql_graph.proofs.NumberLemmas.{first_above, rest_ascends, fewer}

module _ {X : Type 0} (key : X → ℕ) where
  -- the items' numbers ascend, above low and below high
  abbrev pub Up : ℕ → List X → ℕ → Type 0
  Up low xs high = numbers_ascend low (map key xs) high ≡ true

  -- the item of a number
  abbrev pub at : ℕ → List X → Option X
  at n xs = find (λ y. eqb (key y) n) xs

  -- a number below all is not there
  pub none_below : (n : ℕ) (xs : List X) (low high : ℕ) → Up low xs high → n ≤ low → at n xs ≡ None
  none_below n [] low high up le = refl
  none_below n (x ∷ xs) low high up le =
      let above = first_above key x xs low high up in
      let rest = none_below n xs (key x) high (rest_ascends key x xs low high up) (omega arith) in
      grind (arith, nat_tests)

  -- nor is one above all
  pub none_above : (n : ℕ) (xs : List X) (low high : ℕ) → Up low xs high → high ≤ n → at n xs ≡ None
  none_above n [] low high up le = refl
  none_above n (x ∷ xs) low high up le =
      let under = fewer key (x ∷ xs) low high up in
      let rest = none_above n xs (key x) high (rest_ascends key x xs low high up) le in
      let here = fewer key xs (key x) high (rest_ascends key x xs low high up) in
      grind (arith, nat_tests)

  -- where a number is not there, all stay
  pub out_none : (n : ℕ) (xs : List X) → at n xs ≡ None → taken_out key n xs ≡ xs
  out_none n [] none = refl
  out_none n (x ∷ xs) none = grind (arith, nat_tests, common_steps, out_none n xs)

  pub over_none : (x : X) (ys : List X) → at (key x) ys ≡ None → put_over key x ys ≡ ys
  over_none x [] none = refl
  over_none x (y ∷ ys) none = grind (arith, nat_tests, common_steps, over_none x ys)

  -- the item that is found has the number
  pub found_key : (n : ℕ) (xs : List X) (r : X) → at n xs ≡ Some r → key r ≡ n
  found_key n [] r found = absurd (cc)
  found_key n (x ∷ xs) r found = grind (arith, nat_tests, common_steps, found_key n xs r)

  -- and it is above the lower bound
  pub found_above : (n : ℕ) (xs : List X) (low high : ℕ) (r : X) → Up low xs high → at n xs ≡ Some r → low < n
  found_above n [] low high r up found = absurd (cc)
  found_above n (x ∷ xs) low high r up found =
      let above = first_above key x xs low high up in
      let rest = found_above n xs (key x) high r (rest_ascends key x xs low high up) in
      grind (arith, nat_tests, common_steps, rest)

  -- and below the upper one
  pub found_below : (n : ℕ) (xs : List X) (low high : ℕ) (r : X) → Up low xs high → at n xs ≡ Some r → n < high
  found_below n [] low high r up found = absurd (cc)
  found_below n (x ∷ xs) low high r up found =
      let more = rest_ascends key x xs low high up in
      let here = fewer key xs (key x) high more in
      let rest = found_below n xs (key x) high r more in
      grind (arith, nat_tests, common_steps, rest)

  -- an item that is there is at its place
  pub place_within : (n : ℕ) (xs : List X) (low high : ℕ) → Up low xs high → is_some (at n xs) ≡ true → place_of key n xs < length xs
  place_within n [] low high up there = absurd (cc)
  place_within n (x ∷ xs) low high up there =
      let none = none_below n xs (key x) high (rest_ascends key x xs low high up) in
      let rest = place_within n xs (key x) high (rest_ascends key x xs low high up) in
      grind (arith, nat_tests, common_steps, none, rest)

  -- each place is one of the list, or its end
  pub place_at_most : (n : ℕ) (xs : List X) → place_of key n xs ≤ length xs
  place_at_most n [] = omega arith
  place_at_most n (x ∷ xs) = grind (arith, nat_tests, place_at_most n xs)

  pub found_there : (n : ℕ) (xs : List X) (low high : ℕ) (r : X) → Up low xs high → is_some (at n xs) ≡ true → r ≡ get_or xs (place_of key n xs) r → at n xs ≡ Some r
  found_there n [] low high r up there is = absurd (cc)
  found_there n (x ∷ xs) low high r up there is =
      let none = none_below n xs (key x) high (rest_ascends key x xs low high up) in
      let rest = found_there n xs (key x) high r (rest_ascends key x xs low high up) in
      grind (arith, nat_tests, common_steps, none, rest)

  -- taking out is taking out at that place
  pub out_there : (n : ℕ) (xs : List X) (low high : ℕ) → Up low xs high → is_some (at n xs) ≡ true → taken_out key n xs ≡ take (place_of key n xs) xs ++ drop (suc (place_of key n xs)) xs
  out_there n [] low high up there = absurd (cc)
  out_there n (x ∷ xs) low high up there =
      let none = none_below n xs (key x) high (rest_ascends key x xs low high up) in
      let rest = out_there n xs (key x) high (rest_ascends key x xs low high up) in
      grind (arith, nat_tests, common_steps, none, rest, out_none n xs)

  -- putting in is putting in at the place
  pub in_there : (x : X) (ys : List X) → at (key x) ys ≡ None → put_in key x ys ≡ take (place_of key (key x) ys) ys ++ x ∷ drop (place_of key (key x) ys) ys
  in_there x [] none = grind (arith, common_steps)
  in_there x (y ∷ ys) none = grind (arith, nat_tests, common_steps, in_there x ys)

  -- putting over is writing at the place
  pub over_there : (x : X) (ys : List X) (low high : ℕ) → Up low ys high → is_some (at (key x) ys) ≡ true → put_over key x ys ≡ slice_set ys (place_of key (key x) ys) x
  over_there x [] low high up there = absurd (cc)
  over_there x (y ∷ ys) low high up there =
      let none = none_below (key x) ys (key y) high (rest_ascends key y ys low high up) in
      let rest = over_there x ys (key y) high (rest_ascends key y ys low high up) in
      grind (arith, nat_tests, common_steps, none, rest, over_none x ys)

  -- what was taken out, put in again
  put_first : (x : X) (ys : List X) (high : ℕ) → Up (key x) ys high → put_in key x ys ≡ x ∷ ys
  put_first x [] high up = refl
  put_first x (y ∷ ys) high up =
      let above = first_above key y ys (key x) high up in
      grind (arith, nat_tests, common_steps)

  pub in_again : (n : ℕ) (xs : List X) (low high : ℕ) (r : X) → Up low xs high → at n xs ≡ Some r → put_in key r (taken_out key n xs) ≡ xs
  in_again n [] low high r up found = absurd (cc)
  in_again n (x ∷ xs) low high r up found =
      let more = rest_ascends key x xs low high up in
      let none = none_below n xs (key x) high more in
      let above = found_above n xs (key x) high r more in
      let number = found_key n (x ∷ xs) r found in
      let rest = in_again n xs (key x) high r more in
      grind (arith, nat_tests, common_steps, none, above, rest, out_none n xs, put_first x xs high more)

  -- what was put in, taken out again
  pub out_again : (x : X) (ys : List X) → at (key x) ys ≡ None → taken_out key (key x) (put_in key x ys) ≡ ys
  out_again x [] none = grind (arith, nat_tests, common_steps)
  out_again x (y ∷ ys) none = grind (arith, nat_tests, common_steps, out_again x ys, out_none (key x) ys)

  -- what was put at the end, taken out again
  pub off_end : (x : X) (ys : List X) → at (key x) ys ≡ None → taken_out key (key x) (ys ++ x ∷ []) ≡ ys
  off_end x [] none = grind (arith, nat_tests, common_steps)
  off_end x (y ∷ ys) none = grind (arith, nat_tests, common_steps, off_end x ys)

  -- the last item, taken out and put at the end again
  last_alone : (n : ℕ) (xs : List X) → Up n xs (suc n) → xs ≡ []
  last_alone n [] up = refl
  last_alone n (x ∷ xs) up =
      let above = first_above key x xs n (suc n) up in
      let under = fewer key (x ∷ xs) n (suc n) up in
      absurd (omega arith)

  pub on_end : (n : ℕ) (xs : List X) (low : ℕ) (r : X) → Up low xs (suc n) → at n xs ≡ Some r → taken_out key n xs ++ r ∷ [] ≡ xs
  on_end n [] low r up found = absurd (cc)
  on_end n (x ∷ xs) low r up found =
      let more = rest_ascends key x xs low (suc n) up in
      let none = none_below n xs (key x) (suc n) more in
      let rest = on_end n xs (key x) r more in
      grind (arith, nat_tests, common_steps, none, rest, out_none n xs, last_alone n xs)

  -- what was put over, and the old one over it
  pub over_again : (x : X) (ys : List X) (low high : ℕ) (r : X) → Up low ys high → at (key x) ys ≡ Some r → put_over key r (put_over key x ys) ≡ ys
  over_again x [] low high r up found = absurd (cc)
  over_again x (y ∷ ys) low high r up found =
      let more = rest_ascends key y ys low high up in
      let none = none_below (key x) ys (key y) high more in
      let number = found_key (key x) (y ∷ ys) r found in
      let rest = over_again x ys (key y) high r more in
      grind (arith, nat_tests, common_steps, none, rest, over_none x ys, over_none r ys)

  -- what is there afterwards
  pub there_at_end : (x : X) (ys : List X) → is_some (at (key x) (ys ++ x ∷ [])) ≡ true
  there_at_end x [] = grind (arith, nat_tests, common_steps)
  there_at_end x (y ∷ ys) = grind (arith, nat_tests, common_steps, there_at_end x ys)

  pub there_inside : (x : X) (ys : List X) → is_some (at (key x) (put_in key x ys)) ≡ true
  there_inside x [] = grind (arith, nat_tests, common_steps)
  there_inside x (y ∷ ys) = grind (arith, nat_tests, common_steps, there_inside x ys)

  pub there_over : (x : X) (ys : List X) → is_some (at (key x) ys) ≡ true → at (key x) (put_over key x ys) ≡ Some x
  there_over x [] there = absurd (cc)
  there_over x (y ∷ ys) there = grind (arith, nat_tests, common_steps, there_over x ys)

  pub not_there : (n : ℕ) (xs : List X) → at n (taken_out key n xs) ≡ None
  not_there n [] = refl
  not_there n (x ∷ xs) = grind (arith, nat_tests, common_steps, not_there n xs)

  -- how long the lists are
  pub shorter : (n : ℕ) (xs : List X) → length (taken_out key n xs) ≤ length xs
  shorter n [] = omega arith
  shorter n (x ∷ xs) = grind (arith, nat_tests, common_steps, shorter n xs)

  pub longer : (x : X) (ys : List X) → length (put_in key x ys) ≡ suc (length ys)
  longer x [] = refl
  longer x (y ∷ ys) = grind (arith, nat_tests, common_steps, longer x ys)

  pub as_long : (x : X) (ys : List X) → length (put_over key x ys) ≡ length ys
  as_long x [] = refl
  as_long x (y ∷ ys) = grind (arith, nat_tests, common_steps, as_long x ys)
