-- Numbers that strictly ascend.
use Rattle.std.specs.Prelude.{ℕ, Bool, true, ◌&&◌, nat_lt, IsTrue, List, [], ◌∷◌}

-- low and the numbers strictly ascend
abbrev pub rises_above : ℕ → List ℕ → Bool
rises_above low [] = true
rises_above low (n ∷ ns) = nat_lt low n && rises_above n ns

abbrev pub rises : List ℕ → Bool
rises [] = true
rises (n ∷ ns) = rises_above n ns

abbrev pub IsRising : List ℕ → Type 0
IsRising ns = IsTrue (rises ns)
