-- Names: they lie within the bytes, and they are UTF-8.
use Rattle.std.proofs.Common.{◌≡◌, ℕ, zero, suc, ◌+◌, ◌<◌, ◌≤◌, Bool, true, false, List, [], ◌∷◌, ◌++◌, length, take, drop, Option, Some, None, refl, sym, ap, ◌∙◌, arith, subst, length-drop}
use Rattle.std.specs.Prelude.{if◌then◌else◌}
use Rattle.std.specs.Option.{option_map_or}
use Rattle.std.specs.Str.{IsUtf8}
use Rattle.std.specs.Char.{encode_utf8}
use Rattle.std.proofs.lemmas.Str.{IsUtf8-nil, IsUtf8-append, IsUtf8-encode}
use Rattle.std.proofs.lemmas.List.{take-take, take-append-drop, drop-take, take_all, take-append-le}
use Rattle.unicode_ident.specs.Ident.{is_xid_continue}
use Rattle.bstr.specs.Utf8.{decoded}
use Rattle.bstr.proofs.lemmas.SoundLemmas.{SpellsChar-decoded}
use Rattle.gql_lexer.specs.Lengths.{first_passes, first_size, may_start, continue_length}
use Rattle.gql_lexer.proofs.LengthLemmas.{first-bounds, passed, stops, continue_length-skip}

some-or : (test : ℕ → Bool) (o : Option ℕ) → option_map_or test o false ≡ true → (c : ℕ) × (o ≡ Some c)
some-or test None e = cc
some-or test (Some c) e = (c, refl)

-- a passing test has a character
has-char : (test : ℕ → Bool) (bs : List ℕ) → first_passes test bs ≡ true → (c : ℕ) × ((decoded bs).char ≡ Some c)
unfolding first_passes
has-char test bs e = some-or test (decoded bs).char e

-- the first character is UTF-8, and takes a byte at least
pub first-fits : (test : ℕ → Bool) (bs : List ℕ) → first_passes test bs ≡ true → (0 < first_size bs) × (first_size bs ≤ length bs)
unfolding first_size
first-fits test bs e = let c = has-char test bs e in first-bounds bs c.0 (decoded bs).size (sym c.1) refl

take-utf8 : (bs e r : List ℕ) (n : ℕ) → bs ≡ e ++ r → length e ≡ n → IsUtf8 e → IsUtf8 (take n bs)
take-utf8 bs e r n h len u =
    let same : take n bs ≡ e = ap (take n) h ∙ take-append-le n e r (omega arith) ∙ take_all n e (omega arith) in subst IsUtf8 (sym same) u

first-utf8 : (test : ℕ → Bool) (bs : List ℕ) → first_passes test bs ≡ true → IsUtf8 (take (first_size bs) bs)
unfolding first_size
first-utf8 test bs e =
    let c = has-char test bs e in
    let s = SpellsChar-decoded bs c.0 c.1 in
    take-utf8 bs (encode_utf8 c.0) (drop (decoded bs).size bs) (decoded bs).size s.bytes s.width (IsUtf8-encode c.0 s.scalar)

take-plus : (m n : ℕ) (bs : List ℕ) → take (m + n) bs ≡ take m bs ++ take n (drop m bs)
take-plus m n bs =
    sym (take-append-drop m (take (m + n) bs))
    ∙ ap (λ t. t ++ drop m (take (m + n) bs)) (take-take m (m + n) bs (omega arith))
    ∙ ap (λ t. take m bs ++ t) (drop-take m n bs)

take-plus-utf8 : (m n : ℕ) (bs : List ℕ) → IsUtf8 (take m bs) → IsUtf8 (take n (drop m bs)) → IsUtf8 (take (m + n) bs)
take-plus-utf8 m n bs u v = subst IsUtf8 (sym (take-plus m n bs)) (IsUtf8-append _ _ u v)

some-of : (b : Bool) (n : ℕ) → b ≡ true → Some n ≡ (if b then Some n else None)
some-of b n e = rw e refl

pub record Ahead (bs : List ℕ) (n : ℕ) : Type 0 where
  pub within : n ≤ length bs
  pub utf8 : IsUtf8 (take n bs)

further : (bs : List ℕ) (b : Bool) → first_passes is_xid_continue bs ≡ b
    → ((n : ℕ) → 0 < n → n ≤ length bs → Ahead (drop n bs) (continue_length 0 (drop n bs))) → Ahead bs (continue_length 0 bs)
further bs false e more =
    let P : ℕ → Type 0 = Ahead bs in
    subst P (sym (stops bs e)) (record { within = omega arith; utf8 = IsUtf8-nil })
further bs true e more =
    let n = first_size bs in
    let fits = first-fits is_xid_continue bs e in
    let rest = more n fits.0 fits.1 in
    let P : ℕ → Type 0 = Ahead bs in
    subst P (sym (passed bs n (some-of _ n e) fits.0 fits.1)) (record {
      within = omega (arith, length-drop n bs, fits, rest.within);
      utf8 = take-plus-utf8 n (continue_length 0 (drop n bs)) bs (first-utf8 is_xid_continue bs e) rest.utf8;
    })

go-on : (fuel : ℕ) (bs : List ℕ) → length bs ≤ fuel → Ahead bs (continue_length 0 bs)
go-on zero [] h = record { within = omega arith; utf8 = IsUtf8-nil }
go-on zero (b ∷ bs) h = absurd (omega arith)
go-on (suc fuel) bs h =
    further bs (first_passes is_xid_continue bs) refl (λ n p q. go-on fuel (drop n bs) (omega (arith, length-drop n bs)))

-- a name takes a byte at least, lies within the bytes, and is UTF-8
pub record IsNameAhead (bs : List ℕ) (n : ℕ) : Type 0 where
  pub some : 0 < n
  pub within : n ≤ length bs
  pub utf8 : IsUtf8 (take n bs)

pub name-ahead : (bs : List ℕ) → first_passes may_start bs ≡ true → IsNameAhead bs (continue_length (first_size bs) bs)
name-ahead bs e =
    let n = first_size bs in
    let fits = first-fits may_start bs e in
    let m = continue_length 0 (drop n bs) in
    let more = go-on (length (drop n bs)) (drop n bs) (omega arith) in
    let P : ℕ → Type 0 = IsNameAhead bs in
    subst P (continue_length-skip n bs fits.1) (record {
      some = omega (arith, fits);
      within = omega (arith, length-drop n bs, fits, more.within);
      utf8 = take-plus-utf8 n m bs (first-utf8 may_start bs e) more.utf8;
    })
