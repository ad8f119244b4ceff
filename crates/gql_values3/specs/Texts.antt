-- Texts as lists of bytes: when two are the same, and when a list of them is a set in order.
use Rattle.std.specs.Prelude.{ℕ, Bool, true, not, ◌==◌, ◌&&◌, List, [], ◌∷◌}
use Rattle.std.specs.List.{list_any}
use Rattle.std.specs.Ordering.{is_lt, nat_cmp}
use Rattle.std.specs.Cmp.Lexicographic.{pointwise, slice_cmp}

-- the same bytes
abbrev pub same_text : List ℕ → List ℕ → Bool
same_text a b = pointwise (λ x y. x == y) a b

-- low and the texts strictly ascend by bytes
abbrev pub ascend_above : List ℕ → List (List ℕ) → Bool
ascend_above low [] = true
ascend_above low (a ∷ more) = is_lt (slice_cmp nat_cmp low a) && ascend_above a more

-- the texts strictly ascend by bytes, so that none stands twice
abbrev pub texts_ascend : List (List ℕ) → Bool
texts_ascend [] = true
texts_ascend (a ∷ more) = ascend_above a more

-- no text stands twice
abbrev pub texts_differ : List (List ℕ) → Bool
texts_differ [] = true
texts_differ (a ∷ more) = not (list_any (same_text a) more) && texts_differ more
