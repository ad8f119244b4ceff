-- Integers: which of them the database has, and the number that decimal digits write.
use Rattle.std.specs.Prelude.{ℕ, ℤ, pos, negsuc, ◌+◌, ◌-◌, ◌*◌, ◌^◌, nat_lt, Bool, List, [], ◌∷◌, length}

-- an integer of 64 bits
abbrev pub is_int64 : ℤ → Bool
is_int64 (pos n) = nat_lt n (2 ^ 63)
is_int64 (negsuc n) = nat_lt n (2 ^ 63)

-- the number of decimal digits: each digit, 48 being '0', has the weight of its place; zeros may stand first
abbrev pub value_of_digits : List ℕ → ℕ
value_of_digits [] = 0
value_of_digits (c ∷ cs) = (c - 48) * 10 ^ length cs + value_of_digits cs
