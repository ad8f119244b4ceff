-- The order in which names stand in keys, where each has its length in front.
use Rattle.std.specs.Prelude.{◌≡◌, ℕ, ◌<◌, List, length, slice_index_or}
use Rattle.std.specs.Ordering.{nat_cmp, ordering_then}
use Rattle.std.specs.Cmp.Lexicographic.{slice_cmp}
use Rattle.std.specs.declared.cmp.Ordering.{Ordering}
use Rattle.std.specs.declared.cmp.Ordering.TheVariants.{Less}

-- by length, and then by bytes
abbrev pub key_cmp : List ℕ → List ℕ → Ordering
key_cmp a b = ordering_then (nat_cmp (length a) (length b)) (slice_cmp nat_cmp a b)

-- what has a name stands in this order, and no name stands twice
abbrev pub AreListed : {A : Type 0} → List (List ℕ × A) → Type 0
AreListed {A} xs = (i j : ℕ) (d : List ℕ × A) → i < j → j < length xs → key_cmp (slice_index_or xs i d).0 (slice_index_or xs j d).0 ≡ Less
