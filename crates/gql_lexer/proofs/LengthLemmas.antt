-- How the lengths go on from one byte to the next.
use Rattle.std.proofs.Common.{◌≡◌, ℕ, zero, suc, ◌+◌, ◌-◌, ◌<◌, ◌≤◌, Bool, true, false, ◌==◌, List, [], ◌∷◌, length, drop, get_or, Option, Some, None, refl, ap, ◌∙◌, sym, nat_lt, arith, eq-eqb, drop-drop, length-drop}
use Rattle.std.proofs.lemmas.List.{get_or-drop, drop_all}
use Rattle.std.specs.Prelude.{codes, if◌then◌else◌}
use Rattle.std.specs.Option.{option_map}
use Rattle.std.proofs.lemmas.Bool.{ne_eqb}
use Rattle.std.proofs.lemmas.Bool.Decides.{nat_tests}
use Rattle.std.proofs.Common.{◌||◌, lt-ltb}
use Rattle.std.specs.Char.{is_ascii_alphanumeric}
use Rattle.unicode_ident.proofs.IdentLemmas.{is_xid_start-ascii, is_xid_continue-ascii}
use Rattle.unicode_ident.specs.Ident.{is_xid_start, is_xid_continue}
use Rattle.bstr.specs.Utf8.{decoded}
use Rattle.bstr.proofs.lemmas.PieceLemmas.{piece-bounds}
use Rattle.gql_lexer.specs.Lengths.{begins, block_length, quoted_length, continue_length, name_length, first_passes, first_size, may_start}
use Rattle.gql_lexer.specs.Machinery.Firsts.{is_ascii_start}

-- a length that is counted from a place further on
abbrev pub ahead : ℕ → Option ℕ → Option ℕ
ahead n o = option_map (λ m. n + m) o

ahead-more : (n k : ℕ) (o : Option ℕ) → ahead n (option_map (λ m. m + k) o) ≡ ahead (n + k) o
ahead-more n k None = refl
ahead-more n k (Some m) = ap Some (omega arith)

-- counting goes on from a place to one further on
pub ahead-step : (f : List ℕ → Option ℕ) (bs : List ℕ) (at n : ℕ) → f (drop at bs) ≡ option_map (λ m. m + n) (f (drop n (drop at bs)))
    → ahead at (f (drop at bs)) ≡ ahead (at + n) (f (drop (at + n) bs))
ahead-step f bs at n h = ap (ahead at) h ∙ ahead-more at n (f (drop n (drop at bs))) ∙ ap (λ r. ahead (at + n) (f r)) (drop-drop n at bs)

-- a place where no `*/` begins
pub block_length-past : (bs : List ℕ) → 0 < length bs → begins (codes "*/") bs ≡ false → block_length bs ≡ option_map (λ m. m + 1) (block_length (drop 1 bs))
block_length-past [] h e = absurd (omega arith)
block_length-past (b ∷ bs) h e = rw e refl

-- a backslash and the byte that it takes with it
pub quoted_length-escape : (quote : ℕ) (bs : List ℕ) → 1 < length bs → get_or bs 0 0 ≡ 92
    → quoted_length quote bs ≡ option_map (λ m. m + 2) (quoted_length quote (drop 2 bs))
quoted_length-escape quote [] h p = absurd (omega arith)
quoted_length-escape quote (b ∷ []) h p = absurd (omega arith)
quoted_length-escape quote (b ∷ c ∷ bs) h p = rw (eq-eqb b 92 p) refl

-- a first character that passes
pub first-passes : (test : ℕ → Bool) (bs : List ℕ) (c n : ℕ) → Some c ≡ (decoded bs).char → n ≡ (decoded bs).size → test c ≡ true
    → Some n ≡ (if first_passes test bs then Some (first_size bs) else None)
unfolding first_passes first_size
first-passes test bs c n e s t = rw (← e, t, s) refl

pub first-fails : (test : ℕ → Bool) (bs : List ℕ) (c : ℕ) → Some c ≡ (decoded bs).char → test c ≡ false
    → None ≡ (if first_passes test bs then Some (first_size bs) else None)
unfolding first_passes first_size
first-fails test bs c e t = rw (← e, t) refl

pub first-missing : (test : ℕ → Bool) (bs : List ℕ) → None ≡ (decoded bs).char
    → None ≡ (if first_passes test bs then Some (first_size bs) else None)
unfolding first_passes first_size
first-missing test bs e = rw (← e) refl

some_bytes : (bs : List ℕ) (c : ℕ) → Some c ≡ (decoded bs).char → 0 < length bs
some_bytes [] c e = cc
some_bytes (b ∷ bs) c e = omega arith

-- a character takes a byte at least, and no more than there are
pub first-bounds : (bs : List ℕ) (c n : ℕ) → Some c ≡ (decoded bs).char → n ≡ (decoded bs).size → (0 < n) × (n ≤ length bs)
first-bounds bs c n e s = let b = piece-bounds bs (some_bytes bs c e) in (rw s b.0, rw s b.2)

-- the bytes that belong to the character before
pub continue_length-skip : (n : ℕ) (bs : List ℕ) → n ≤ length bs → n + continue_length 0 (drop n bs) ≡ continue_length n bs
continue_length-skip zero bs h = omega arith
continue_length-skip (suc n) [] h = absurd (omega arith)
continue_length-skip (suc n) (b ∷ bs) h = let more = continue_length-skip n bs (omega arith) in omega (arith, more)

stepped : (n : ℕ) (b : ℕ) (bs : List ℕ) → 0 < n → n ≤ length (b ∷ bs) → suc (continue_length (n - 1) bs) ≡ n + continue_length 0 (drop n (b ∷ bs))
stepped zero b bs p h = absurd (omega arith)
stepped (suc n) b bs p h =
    let e : suc n - 1 ≡ n = omega arith in rw e (let more = continue_length-skip n bs (omega arith) in omega (arith, more))

some-if : (b : Bool) (m n : ℕ) → Some n ≡ (if b then Some m else None) → (b ≡ true) × (m ≡ n)
some-if true m n e = (refl, cc)
some-if false m n e = cc

none-if : (b : Bool) (m : ℕ) → None ≡ (if b then Some m else None) → b ≡ false
none-if true m e = cc
none-if false m e = refl

pub passed : (bs : List ℕ) (n : ℕ) → Some n ≡ (if first_passes is_xid_continue bs then Some (first_size bs) else None) → 0 < n → n ≤ length bs
    → continue_length 0 bs ≡ n + continue_length 0 (drop n bs)
passed [] n e p q = absurd (omega arith)
passed (b ∷ bs) n e p q =
    let is = some-if (first_passes is_xid_continue (b ∷ bs)) (first_size (b ∷ bs)) n e in rw (is.0, is.1) (stepped n b bs p q)

-- one character more of a name
pub continue_length-more : (bs : List ℕ) (at n : ℕ) → Some n ≡ (if first_passes is_xid_continue (drop at bs) then Some (first_size (drop at bs)) else None)
    → 0 < n → n ≤ length (drop at bs) → at + n + continue_length 0 (drop (at + n) bs) ≡ at + continue_length 0 (drop at bs)
continue_length-more bs at n e p q =
    let one = passed (drop at bs) n e p q in
    let same = ap (continue_length 0) (drop-drop n at bs) in
    omega (arith, one, same)

pub stops : (bs : List ℕ) → first_passes is_xid_continue bs ≡ false → continue_length 0 bs ≡ 0
stops [] e = refl
stops (b ∷ bs) e = rw e refl

-- a character that does not go on with a name
pub continue_length-stops : (bs : List ℕ) → None ≡ (if first_passes is_xid_continue bs then Some (first_size bs) else None) → continue_length 0 bs ≡ 0
continue_length-stops bs e = stops bs (none-if (first_passes is_xid_continue bs) (first_size bs) e)

-- an ASCII byte is a character by itself
ascii-char : (b : ℕ) (bs : List ℕ) → b < 128 → (Some b ≡ (decoded (b ∷ bs)).char) × (1 ≡ (decoded (b ∷ bs)).size)
ascii-char b bs h = (rw (ne_eqb (length (b ∷ bs)) 0 (λ e. omega arith), lt-ltb b 128 h) refl, rw (ne_eqb (length (b ∷ bs)) 0 (λ e. omega arith), lt-ltb b 128 h) refl)

pub ascii-passes : (bs : List ℕ) → 0 < length bs → get_or bs 0 0 < 128 → (is_ascii_alphanumeric (get_or bs 0 0) || (get_or bs 0 0 == 95)) ≡ true
    → Some 1 ≡ (if first_passes is_xid_continue bs then Some (first_size bs) else None)
ascii-passes [] h s t = absurd (omega arith)
ascii-passes (b ∷ bs) h s t = let c = ascii-char b bs s in first-passes is_xid_continue (b ∷ bs) b 1 c.0 c.1 (is_xid_continue-ascii b s ∙ t)

pub ascii-fails : (bs : List ℕ) → 0 < length bs → get_or bs 0 0 < 128 → (is_ascii_alphanumeric (get_or bs 0 0) || (get_or bs 0 0 == 95)) ≡ false
    → None ≡ (if first_passes is_xid_continue bs then Some (first_size bs) else None)
ascii-fails [] h s t = absurd (omega arith)
ascii-fails (b ∷ bs) h s t = first-fails is_xid_continue (b ∷ bs) b (ascii-char b bs s).0 (is_xid_continue-ascii b s ∙ t)

-- an ASCII byte at a place, which goes on with the name
pub ascii-more : (bs : List ℕ) (at : ℕ) → at < length bs → (is_ascii_alphanumeric (get_or bs at 0) || (get_or bs at 0 == 95)) ≡ true
    → continue_length (at + 1) bs ≡ continue_length at bs
ascii-more bs at h t =
    let s : get_or bs at 0 < 128 = grind (arith, nat_tests) in
    let here : get_or (drop at bs) 0 0 ≡ get_or bs at 0 = get_or-drop at bs 0 0 ∙ ap (λ n. get_or bs n 0) (omega arith) in
    let some : 0 < length (drop at bs) = omega (arith, length-drop at bs) in
    let passes = ascii-passes (drop at bs) some (rw here s) (rw here t) in
    let more = continue_length-more bs at 1 passes (omega arith) some in
    sym (continue_length-skip (at + 1) bs (omega arith)) ∙ more ∙ continue_length-skip at bs (omega arith)

-- where the bytes end, or an ASCII byte that does not
pub ascii-stop : (bs : List ℕ) (at : ℕ) → at ≤ length bs
    → (at < length bs → (get_or bs at 0 < 128) × ((is_ascii_alphanumeric (get_or bs at 0) || (get_or bs at 0 == 95)) ≡ false)) → at ≡ continue_length at bs
ascii-stop bs at h t = by-room (nat_lt at (length bs)) refl
  where
    none : continue_length 0 (drop at bs) ≡ 0 → at ≡ continue_length at bs
    none e = omega (arith, e, continue_length-skip at bs h)

    by-room : (b : Bool) → nat_lt at (length bs) ≡ b → at ≡ continue_length at bs
    by-room true e =
        let room : at < length bs = grind (arith, nat_tests) in
        let here : get_or (drop at bs) 0 0 ≡ get_or bs at 0 = get_or-drop at bs 0 0 ∙ ap (λ n. get_or bs n 0) (omega arith) in
        let some : 0 < length (drop at bs) = omega (arith, room, length-drop at bs) in
        none (continue_length-stops (drop at bs) (ascii-fails (drop at bs) some (rw here (t room).0) (rw here (t room).1)))
    by-room false e =
        let end : length bs ≤ at = grind (arith, nat_tests) in
        none (ap (continue_length 0) (drop_all at bs end))

-- an ASCII letter or `_` begins a name
start-passes : (b : ℕ) → b < 128 → is_ascii_start b ≡ true → may_start b ≡ true
unfolding may_start
start-passes b s t = is_xid_start-start b s t
  where
    is_xid_start-start : (b : ℕ) → b < 128 → is_ascii_start b ≡ true → (is_xid_start b || (b == 95)) ≡ true
    is_xid_start-start b s t = rw (is_xid_start-ascii b s) (grind (arith, nat_tests))

pub ascii-name : (bs : List ℕ) → 0 < length bs → is_ascii_start (get_or bs 0 0) ≡ true → Some (continue_length 1 bs) ≡ name_length bs
unfolding first_passes first_size
ascii-name [] h t = absurd (omega arith)
ascii-name (b ∷ bs) h t =
    let s : b < 128 = grind (arith, nat_tests) in
    let c = ascii-char b bs s in
    rw (← c.0, start-passes b s t, ← c.1) refl
