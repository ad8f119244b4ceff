-- The number that digits write, by the digits so far and those that are left.
use Rattle.std.proofs.Common.{◌≡◌, ℕ, zero, suc, ◌+◌, ◌-◌, ◌*◌, ◌^◌, ◌<◌, ◌≤◌, nat_le, List, ◌∷◌, length, drop, get_or, Some, None, if◌then◌else◌, add-one, drop-cons, arith}
use Rattle.std.proofs.Math.Nat.{mul-le-mul_left, pow-suc}
use Rattle.std.proofs.lemmas.Bool.Decides.{nat_tests}
use Rattle.gql_values3.specs.Integers.{value_of_digits}

-- what the whole will be, if so much stands before the digits
abbrev pub behind : ℕ → List ℕ → ℕ
behind value xs = value * 10 ^ length xs + value_of_digits xs

weights : (v d p n : ℕ) → v * (p * 10) + (d * p + n) ≡ (v * 10 + d) * p + n
weights v d p n = omega arith

more : (v x : ℕ) (xs : List ℕ) → behind v (x ∷ xs) ≡ behind (v * 10 + (x - 48)) xs
more v x xs = rw pow-suc (weights v (x - 48) (10 ^ length xs) (value_of_digits xs))

pub step : (v : ℕ) (xs : List ℕ) (i : ℕ) → i < length xs → behind v (drop i xs) ≡ behind (v * 10 + (get_or xs i 0 - 48)) (drop (i + 1) xs)
step v xs i h = rw (drop-cons xs i 0, add-one) (more v (get_or xs i 0) (drop (suc i) xs))

grows : (v p n : ℕ) → 1 ≤ p → v ≤ v * p + n
grows v p n h = omega (arith, mul-le-mul_left v h)

positive : (n : ℕ) → 1 ≤ 10 ^ n
positive zero = omega arith
positive (suc n) = rw pow-suc (omega (arith, positive n))

pub at_least : (v : ℕ) (xs : List ℕ) → v ≤ behind v xs
at_least v xs = grows v (10 ^ length xs) (value_of_digits xs) (positive (length xs))

pub above : (n most : ℕ) → most < n → None ≡ (if nat_le n most then Some n else None)
above n most h = grind (arith, nat_tests)
