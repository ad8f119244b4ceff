-- Slots: a number for each text, told by its length and three of its letters, by which a reserved word is found at once.
use Rattle.std.specs.Prelude.{ℕ, suc, ◌+◌, ◌-◌, ◌*◌, ◌%◌, ◌==◌, ◌&&◌, Bool, true, List, [], ◌∷◌, length, slice_index}
use Rattle.std.specs.Char.{to_ascii_uppercase}

-- the first, the second and the last letter in upper case, and the length; no two reserved words have one slot
abbrev pub slot : List ℕ → ℕ
slot t =
    (62 * to_ascii_uppercase (slice_index t 0) + 51 * to_ascii_uppercase (slice_index t 1)
    + 382 * to_ascii_uppercase (slice_index t (length t - 1)) + 402 * length t)
    % 512

-- each of the words, from place n on, stands at the place that is noted at its slot
abbrev pub placed : List ℕ → ℕ → List (List ℕ) → Bool
placed places n [] = true
placed places n (w ∷ ws) = (slice_index places (slot w) == n) && placed places (suc n) ws
