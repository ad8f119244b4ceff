-- Numbers that are spelled with the high byte first ascend as their spellings do.
use Rattle.std.proofs.Common.{◌≡◌, ℕ, ◌+◌, ◌*◌, ◌^◌, ◌<◌, ltb, [], ◌∷◌, refl, ap, ◌∙◌, arith, inl, inr, get_or}
use Rattle.std.specs.Int.{w32, to_be_bytes}
use Rattle.std.specs.declared.cmp.Ordering.{Ordering}
use Rattle.std.specs.declared.cmp.Ordering.TheVariants.{Less, Equal, Greater}
use Rattle.std.specs.Ordering.{is_lt, nat_cmp, ordering_then}
use Rattle.std.specs.Cmp.Lexicographic.{slice_cmp}
use Rattle.std.proofs.lemmas.Bool.{cases_order, lt-ltb, le-ltb, eq-eqb, ne_eqb}
use Rattle.std.proofs.lemmas.Nat.{from_be_bytes-to_be_bytes_4}

cmp_less : (a b : ℕ) → a < b → nat_cmp a b ≡ Less
cmp_less a b h = rw (lt-ltb a b h) refl

cmp_equal : (a b : ℕ) → a ≡ b → nat_cmp a b ≡ Equal
cmp_equal a b h = rw (le-ltb a b (omega arith), eq-eqb a b h) refl

cmp_greater : (a b : ℕ) → b < a → nat_cmp a b ≡ Greater
cmp_greater a b h = rw (le-ltb a b (omega arith), ne_eqb a b (λ e. omega arith)) refl

-- one digit more
pub one_more : (h k x y : ℕ) (o : Ordering) → x < 256 → y < 256 → ordering_then (nat_cmp h k) (ordering_then (nat_cmp x y) o) ≡ ordering_then (nat_cmp (h * 256 + x) (k * 256 + y)) o
one_more h k x y o hx hy =
    elim (cases_order h k) [
      | inl e ↦
          elim (cases_order x y) [
            | inl f ↦ rw (cmp_equal h k e, cmp_equal x y f, cmp_equal (h * 256 + x) (k * 256 + y) (omega arith)) refl
            | inr (inl f) ↦ rw (cmp_equal h k e, cmp_less x y f, cmp_less (h * 256 + x) (k * 256 + y) (omega arith)) refl
            | inr (inr f) ↦ rw (cmp_equal h k e, cmp_greater x y f, cmp_greater (h * 256 + x) (k * 256 + y) (omega arith)) refl
          ]
      | inr (inl e) ↦ rw (cmp_less h k e, cmp_less (h * 256 + x) (k * 256 + y) (omega arith)) refl
      | inr (inr e) ↦ rw (cmp_greater h k e, cmp_greater (h * 256 + x) (k * 256 + y) (omega arith)) refl
    ]

pub then_equal : (o : Ordering) → ordering_then o Equal ≡ o
then_equal Less = refl
then_equal Equal = refl
then_equal Greater = refl

abbrev worth : ℕ → ℕ → ℕ → ℕ → ℕ
worth a b c d = ((a * 256 + b) * 256 + c) * 256 + d

-- four digits
four : (a b c d p q r s : ℕ) → b < 256 → c < 256 → d < 256 → q < 256 → r < 256 → s < 256
    → slice_cmp nat_cmp (a ∷ b ∷ c ∷ d ∷ []) (p ∷ q ∷ r ∷ s ∷ []) ≡ nat_cmp (worth a b c d) (worth p q r s)
four a b c d p q r s hb hc hd hq hr hs =
    one_more a p b q (ordering_then (nat_cmp c r) (ordering_then (nat_cmp d s) Equal)) hb hq
    ∙ one_more (a * 256 + b) (p * 256 + q) c r (ordering_then (nat_cmp d s) Equal) hc hr
    ∙ one_more ((a * 256 + b) * 256 + c) ((p * 256 + q) * 256 + r) d s Equal hd hs
    ∙ then_equal (nat_cmp (worth a b c d) (worth p q r s))

-- the digit of that place
abbrev digit : ℕ → ℕ → ℕ
digit n i = get_or (to_be_bytes w32 n) i 0

digits_small : (n : ℕ) → (digit n 1 < 256) × (digit n 2 < 256) × (digit n 3 < 256)
digits_small n = (omega arith, omega arith, omega arith)

worth_is : (n : ℕ) → n < 2 ^ 32 → worth (digit n 0) (digit n 1) (digit n 2) (digit n 3) ≡ n
worth_is n h = omega (arith, from_be_bytes-to_be_bytes_4 n h)

lt_test : (a b : ℕ) → is_lt (nat_cmp a b) ≡ ltb a b
lt_test a b =
    elim (cases_order a b) [
      | inl e ↦ rw (cmp_equal a b e, le-ltb a b (omega arith)) refl
      | inr (inl e) ↦ rw (cmp_less a b e, lt-ltb a b e) refl
      | inr (inr e) ↦ rw (cmp_greater a b e, le-ltb a b (omega arith)) refl
    ]

-- spelled numbers are compared as the numbers
pub be_order : (a b : ℕ) → a < 2 ^ 32 → b < 2 ^ 32 → is_lt (slice_cmp nat_cmp (to_be_bytes w32 a) (to_be_bytes w32 b)) ≡ ltb a b
be_order a b ha hb =
    ap is_lt (four (digit a 0) (digit a 1) (digit a 2) (digit a 3) (digit b 0) (digit b 1) (digit b 2) (digit b 3) (digits_small a).0 (digits_small a).1 (digits_small a).2 (digits_small b).0 (digits_small b).1 (digits_small b).2)
    ∙ ap (λ (n : ℕ). is_lt (nat_cmp n (worth (digit b 0) (digit b 1) (digit b 2) (digit b 3)))) (worth_is a ha)
    ∙ ap (λ (n : ℕ). is_lt (nat_cmp a n)) (worth_is b hb)
    ∙ lt_test a b
