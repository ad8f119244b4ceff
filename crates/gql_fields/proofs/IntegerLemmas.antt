-- Two's complement: bits that are read as a number are its bits, and its bits are read as it.
use Rattle.std.proofs.Common.{◌≡◌, ℕ, suc, ◌^◌, ◌-◌, ◌<◌, ◌≤◌, Bool, true, false, cond, ltb, refl, sym, ap, ◌∙◌, arith}
use Rattle.std.specs.Prelude.{ℤ, pos, negsuc}
use Rattle.std.specs.Int.{w64, cast_signed, cast_unsigned}
use Rattle.std.proofs.lemmas.Bool.{ltb-false, lt-ltb, le-ltb, ltb-true}
use Rattle.std.proofs.lemmas.Int.{of_z-to_z}
use Rattle.gql_values3.specs.Integers.{is_int64}
use Rattle.gql_fields.specs.Spelling.{twos_complement}

-- the bits of a number
pub twos_complement-bits : (z : ℤ) → cast_unsigned w64 z ≡ twos_complement z
twos_complement-bits (pos n) = refl
twos_complement-bits (negsuc n) = omega arith

-- bits that are read as a number are its bits
pub twos_complement-back : (n : ℕ) → n < 2 ^ 64 → twos_complement (cast_signed w64 n) ≡ n
twos_complement-back n lt = sym (twos_complement-bits (cast_signed w64 n)) ∙ of_z-to_z w64 n lt

-- by the test of the highest bit
signed_by : (b : Bool) (n : ℕ) → (b ≡ true → n < 2 ^ 63) → (b ≡ false → 2 ^ 63 ≤ n) → n < 2 ^ 64 → is_int64 (cond b (pos n) (negsuc (2 ^ 64 - suc n))) ≡ true
signed_by true n low high lt = lt-ltb n (2 ^ 63) (low refl)
signed_by false n low high lt = let above = high refl in lt-ltb (2 ^ 64 - suc n) (2 ^ 63) (omega (arith, above, lt))

sel_cond : (n : ℕ) (b : Bool) → ltb n (2 ^ 63) ≡ b → cast_signed w64 n ≡ cond b (pos n) (negsuc (2 ^ 64 - suc n))
sel_cond n true e = rw e refl
sel_cond n false e = rw e refl

-- they are a number of 64 bits
pub signed_is : (n : ℕ) → n < 2 ^ 64 → is_int64 (cast_signed w64 n) ≡ true
signed_is n lt = ap is_int64 (sel_cond n (ltb n (2 ^ 63)) refl) ∙ signed_by (ltb n (2 ^ 63)) n (ltb-true n (2 ^ 63)) (ltb-false n (2 ^ 63)) lt

-- the bits of a number are below the limit
pub twos_complement-below : (z : ℤ) → is_int64 z ≡ true → twos_complement z < 2 ^ 64
twos_complement-below (pos n) h = let lt = ltb-true n (2 ^ 63) h in omega (arith, lt)
twos_complement-below (negsuc n) h = omega arith

-- and are read as it
pub twos_complement-again : (z : ℤ) → is_int64 z ≡ true → cast_signed w64 (twos_complement z) ≡ z
twos_complement-again (pos n) h = sel_cond n true h
twos_complement-again (negsuc n) h =
    let lt : n < 2 ^ 63 = ltb-true n (2 ^ 63) h in
    let back : 2 ^ 64 - suc ((2 ^ 64 - 1) - n) ≡ n = omega (arith, lt) in
    sel_cond ((2 ^ 64 - 1) - n) false (le-ltb _ _ (omega (arith, lt))) ∙ ap negsuc back
