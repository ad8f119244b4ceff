-- Where a text stands among texts in order, or before which place it belongs.
use Rattle.std.specs.Prelude.{ℕ, suc, ◌+◌, ◌<◌, ◌≤◌, List, [], ◌∷◌, Result, Ok, Err, slice_set}
use Rattle.std.specs.List.{insert}
use Rattle.std.specs.Ordering.{nat_cmp}
use Rattle.std.specs.Cmp.Lexicographic.{slice_cmp}
use Rattle.gql_change.specs.Storing.{by_order}

-- the place, so many items further on
abbrev pub further : ℕ → Result ℕ ℕ → Result ℕ ℕ
further n (Ok i) = Ok (n + i)
further n (Err i) = Err (n + i)

abbrev pub one_further : Result ℕ ℕ → Result ℕ ℕ
one_further (Ok i) = Ok (suc i)
one_further (Err i) = Err (suc i)

-- Ok where the text is there; the first text that isn't below it decides
abbrev pub place_in_order : List ℕ → List (List ℕ) → Result ℕ ℕ
place_in_order x [] = Err 0
place_in_order x (k ∷ ks) = by_order (slice_cmp nat_cmp x k) (Err 0) (Ok 0) (one_further (place_in_order x ks))

-- a list with an item at a place: in the place of another, or before it
abbrev pub put_at : {A : Type 0} → Result ℕ ℕ → A → List A → List A
put_at (Ok i) a xs = slice_set xs i a
put_at (Err i) a xs = insert xs i a

-- the same for an item that would stand twice
abbrev pub joined_at : {A : Type 0} → Result ℕ ℕ → A → List A → List A
joined_at (Ok i) a xs = xs
joined_at (Err i) a xs = insert xs i a

-- the place is one of a list so long
abbrev pub IsWithin : Result ℕ ℕ → ℕ → Type 0
IsWithin (Ok i) n = i < n
IsWithin (Err i) n = i ≤ n
