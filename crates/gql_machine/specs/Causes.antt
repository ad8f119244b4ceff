-- When the store is named as the cause: as often as its count of faults rose.
use Rattle.std.specs.Prelude.{ℕ, ◌+◌, ◌-◌, ◌^◌, ◌≤◌, min}

-- the count is greater by so much, or stands at its last value
abbrev pub RoseBy : ℕ → ℕ → ℕ → Type 0
RoseBy n before now = (min (before + n) (2 ^ 64 - 1) ≤ now) × (now ≤ before + n)
