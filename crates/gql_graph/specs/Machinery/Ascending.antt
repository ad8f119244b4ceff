-- Lists in the order of a number of their items.
use Rattle.std.specs.Prelude.{◌≡◌, ℕ, ◌<◌, true, List, map, length, slice_index_or}
use Rattle.gql_values3.specs.PropertyGraph.{numbers_ascend}

-- the key of each item is below that of any later one
abbrev pub AscendsBy : {X : Type 0} → (X → ℕ) → List X → Type 0
AscendsBy {X} key xs = (i j : ℕ) (d : X) → i < j → j < length xs → key (slice_index_or xs i d) < key (slice_index_or xs j d)

-- the same of lists whose keys are above 0, by the test that a graph makes
abbrev pub AscendsTo : {X : Type 0} → (X → ℕ) → List X → Type 0
AscendsTo key xs = (high : ℕ) × (numbers_ascend 0 (map key xs) high ≡ true)
