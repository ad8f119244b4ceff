-- The longest form: what each form that can stand at the front tells of its bytes, the longest tells too.
use Rattle.std.proofs.Common.{◌≡◌, ℕ, zero, suc, ◌+◌, ◌<◌, ◌≤◌, Bool, true, false, cond, ◌&&◌, ◌||◌, ◌==◌, nat_lt, List, [], ◌∷◌, length, take, drop, get_or, Option, Some, None, refl, sym, ap, ◌∙◌, arith, subst, length-drop, IfSome, not}
use Rattle.std.specs.Prelude.{codes}
use Rattle.std.specs.Option.{option_map, option_or}
use Rattle.std.specs.List.{prefix_len}
use Rattle.std.specs.Char.{is_ascii_digit}
use Rattle.std.specs.Str.{IsUtf8}
use Rattle.std.proofs.lemmas.Bool.{and_parts}
use Rattle.std.proofs.lemmas.Bool.Decides.{nat_tests}
use Rattle.std.proofs.Common.{lit<}
use Rattle.std.proofs.lemmas.Str.{IsUtf8-nil, IsUtf8-append, IsUtf8-from_ascii}
use Rattle.std.proofs.lemmas.List.Sums.{prefix_len-le-length}
use Rattle.gql_lexer.specs.SymbolPlaces as symbol
use Rattle.gql_lexer.specs.declared.front.Front.{Front}
use Rattle.gql_lexer.specs.declared.front.Shape.{Shape}
use Rattle.gql_lexer.specs.declared.front.Shape.TheVariants.{Gap, Plain, Ticked, Quoted, Digits, Symbol, Bad}
use Rattle.gql_lexer.specs.Lengths.{begins, line_length, block_length, quoted_length, first_passes, first_size, may_start, continue_length}
use Rattle.gql_lexer.specs.Forms.{form, forms, front, closed, is_blank, blank, line_comment, block_comment, plain, between, ticked, digits, dollar, with_dollar, symbols, symbols_from, longer, longest}
use Rattle.std.specs.Bool.{MatchBool}
use Rattle.std.proofs.Common.{length-take-le}
use Rattle.gql_lexer.specs.Machinery.Shapes.{Tells}
use Rattle.gql_lexer.proofs.FrontLemmas.{no-name}
use Rattle.gql_lexer.proofs.NameLemmas.{name-ahead}

-- a form takes a byte at least and no more than there are, and its bytes are as its shape tells
pub record Fits (bs : List ℕ) (f : Front) : Type 0 where
  pub some : 1 ≤ f.size
  pub within : f.size ≤ length bs
  pub tells : Tells f.shape (take f.size bs)

abbrev pub EachFits : List ℕ → List (Option Front) → Type 0
EachFits bs [] = Unit {0}
EachFits bs (f ∷ fs) = IfSome f (Fits bs) × EachFits bs fs

fits-choice : (bs : List ℕ) (b : Bool) (f g : Front) → Fits bs f → Fits bs g → Fits bs (cond b f g)
fits-choice bs true f g p q = p
fits-choice bs false f g p q = q

fits-longer : (bs : List ℕ) (o : Option Front) (g : Front) → IfSome o (Fits bs) → Fits bs g → Fits bs (longer o g)
fits-longer bs None g p q = q
fits-longer bs (Some f) g p q = fits-choice bs (nat_lt f.size g.size) g f q p

fits-longest : (bs : List ℕ) (fs : List (Option Front)) (g : Front) → EachFits bs fs → Fits bs g → Fits bs (longest fs g)
fits-longest bs [] g p q = q
fits-longest bs (f ∷ fs) g p q = fits-longer bs f (longest fs g) p.0 (fits-longest bs fs g p.1 q)

fits-if : (bs : List ℕ) (b : Bool) (f : Front) → (b ≡ true → Fits bs f) → IfSome (cond b (Some f) None) (Fits bs)
fits-if bs true f h = h refl
fits-if bs false f h = tt

-- a text is no longer than what begins with it
begins-length : (xs bs : List ℕ) → begins xs bs ≡ true → length xs ≤ length bs
begins-length [] bs h = omega arith
begins-length (x ∷ xs) [] h = cc
begins-length (x ∷ xs) (b ∷ bs) h = let more = begins-length xs bs (and_parts (x == b) (begins xs bs) h).1 in omega (arith, more)

closed-fits : (bs : List ℕ) (shape : Shape) (o : Option ℕ) → 1 ≤ length bs → IfSome o (λ n. (1 ≤ n) × (n ≤ length bs) × Tells shape (take n bs))
    → Fits bs (closed shape o bs)
closed-fits bs shape None h t = record { some = h; within = omega arith; tells = tt }
closed-fits bs shape (Some n) h t = record { some = t.0; within = t.1; tells = t.2 }

some-choice : (c : Bool) (o p : Option ℕ) (P : ℕ → Type 0) → (c ≡ true → IfSome o P) → IfSome p P → IfSome (cond c o p) P
some-choice true o p P f g = f refl
some-choice false o p P f g = g

some-more : (o : Option ℕ) (k : ℕ) (P Q : ℕ → Type 0) → IfSome o P → ((n : ℕ) → P n → Q (n + k)) → IfSome (option_map (λ n. n + k) o) Q
some-more None k P Q h f = tt
some-more (Some n) k P Q h f = f n h

block-within : (bs : List ℕ) → IfSome (block_length bs) (λ n. n + 2 ≤ length bs)
block-within [] = tt
block-within (b ∷ bs) =
    some-choice (begins (codes "*/") (b ∷ bs)) (Some 0) (option_map (λ n. n + 1) (block_length bs)) (λ n. n + 2 ≤ length (b ∷ bs))
    (λ e. begins-length (codes "*/") (b ∷ bs) e)
    (some-more (block_length bs) 1 (λ n. n + 2 ≤ length bs) (λ n. n + 2 ≤ length (b ∷ bs)) (block-within bs) (λ n h. omega arith))

quoted-within : (quote : ℕ) (bs : List ℕ) → IfSome (quoted_length quote bs) (λ n. n + 1 ≤ length bs)
quoted-within quote [] = tt
quoted-within quote (b ∷ []) = some-choice (b == quote) (Some 0) None (λ n. n + 1 ≤ length (b ∷ [])) (λ _. omega arith) tt
quoted-within quote (b ∷ c ∷ bs) =
    let P : ℕ → Type 0 = λ n. n + 1 ≤ length (b ∷ c ∷ bs) in
    let pair = some-more (quoted_length quote bs) 2 (λ n. n + 1 ≤ length bs) P (quoted-within quote bs) (λ n h. omega arith) in
    let single = some-more (quoted_length quote (c ∷ bs)) 1 (λ n. n + 1 ≤ length (c ∷ bs)) P (quoted-within quote (c ∷ bs)) (λ n h. omega arith) in
    some-choice (b == 92) (option_map (λ n. n + 2) (quoted_length quote bs)) _ P (λ _. pair)
    (some-choice (b == quote) (cond (c == quote) (option_map (λ n. n + 2) (quoted_length quote bs)) (Some 0)) (option_map (λ n. n + 1) (quoted_length quote (c ∷ bs))) P
    (λ _. some-choice (c == quote) (option_map (λ n. n + 2) (quoted_length quote bs)) (Some 0) P (λ _. pair) (omega arith)) single)

blank-fits : (bs : List ℕ) → IfSome (blank bs) (Fits bs)
blank-fits [] = tt
blank-fits (b ∷ bs) = fits-if (b ∷ bs) (is_blank b) (form Gap 1) (λ e. record { some = omega arith; within = omega arith; tells = tt })

either : (p q : Bool) (P : Type 0) → (p ≡ true → P) → (q ≡ true → P) → (p || q) ≡ true → P
either true q P f g h = f refl
either false q P f g h = g h

line-fits : (bs : List ℕ) → IfSome (line_comment bs) (Fits bs)
line-fits bs = fits-if bs (begins (codes "//") bs || begins (codes "--") bs) (form Gap (2 + line_length (drop 2 bs))) (λ e.
    let two : 2 ≤ length bs = either _ _ _ (begins-length (codes "//") bs) (begins-length (codes "--") bs) e in
    let rest = prefix_len-le-length (λ b. not (b == 10)) (drop 2 bs) in
    record { some = omega arith; within = omega (arith, rest, length-drop 2 bs, two); tells = tt })

block-fits : (bs : List ℕ) → IfSome (block_comment bs) (Fits bs)
block-fits bs = fits-if bs (begins (codes "/*") bs) (closed Gap (option_map (λ n. n + 4) (block_length (drop 2 bs))) bs) (λ e.
    let two : 2 ≤ length bs = begins-length (codes "/*") bs e in
    closed-fits bs Gap (option_map (λ n. n + 4) (block_length (drop 2 bs))) (omega arith)
    (some-more (block_length (drop 2 bs)) 4 (λ n. n + 2 ≤ length (drop 2 bs)) (λ n. (1 ≤ n) × (n ≤ length bs) × Tells Gap (take n bs)) (block-within (drop 2 bs))
    (λ n h. (omega arith, omega (arith, length-drop 2 bs, h, two), tt))))

fits-plain : (bs : List ℕ) (t : Bool) (n : ℕ) → (t ≡ true → Fits bs (form Plain n)) → IfSome (option_map (form Plain) (cond t (Some n) None)) (Fits bs)
fits-plain bs true n h = h refl
fits-plain bs false n h = tt

plain-fits : (bs : List ℕ) → IfSome (plain bs) (Fits bs)
plain-fits bs = fits-plain bs (first_passes may_start bs) (continue_length (first_size bs) bs)
    (λ e. let n = name-ahead bs e in record { some = n.some; within = n.within; tells = n.utf8 })

between-fits : (quote : ℕ) (shape : Shape) (bs : List ℕ) → ((bytes : List ℕ) → 2 ≤ length bytes → Tells shape bytes) → IfSome (between quote shape bs) (Fits bs)
between-fits quote shape bs t = fits-if bs (begins (quote ∷ []) bs) (closed shape (option_map (λ n. n + 2) (quoted_length quote (drop 1 bs))) bs) (λ e.
    let one : 1 ≤ length bs = begins-length (quote ∷ []) bs e in
    closed-fits bs shape (option_map (λ n. n + 2) (quoted_length quote (drop 1 bs))) one
    (some-more (quoted_length quote (drop 1 bs)) 2 (λ n. n + 1 ≤ length (drop 1 bs)) (λ n. (1 ≤ n) × (n ≤ length bs) × Tells shape (take n bs)) (quoted-within quote (drop 1 bs))
    (λ n h.
    let within : n + 2 ≤ length bs = omega (arith, length-drop 1 bs, h, one) in
    (omega arith, within, t (take (n + 2) bs) (omega (arith, length-take-le (n + 2) bs within))))))

utf8-front : (b : ℕ) (bs : List ℕ) → b < 128 → IsUtf8 bs → IsUtf8 (b ∷ bs)
utf8-front b bs h u =
    let one : IsUtf8 (b ∷ []) = IsUtf8-from_ascii (b ∷ []) (single b h) in IsUtf8-append (b ∷ []) bs one u
  where
    single : (b : ℕ) → b < 128 → (i : ℕ) → get_or (b ∷ []) i 0 < 128
    single b h zero = h
    single b h (suc i) = lit< tt

digits-step : (b : ℕ) (bs : List ℕ) (t : Bool) → is_ascii_digit b ≡ t → IsUtf8 (take (prefix_len is_ascii_digit bs) bs)
    → IsUtf8 (take (cond t (1 + prefix_len is_ascii_digit bs) 0) (b ∷ bs))
digits-step b bs true e u =
    let n = prefix_len is_ascii_digit bs in
    let P : ℕ → Type 0 = λ m. IsUtf8 (take m (b ∷ bs)) in
    let same : suc n ≡ 1 + n = omega arith in
    let small : b < 128 = grind (arith, nat_tests) in
    subst P same (utf8-front b (take n bs) small u)
digits-step b bs false e u = IsUtf8-nil

digits-utf8 : (bs : List ℕ) → IsUtf8 (take (prefix_len is_ascii_digit bs) bs)
digits-utf8 [] = IsUtf8-nil
digits-utf8 (b ∷ bs) = digits-step b bs (is_ascii_digit b) refl (digits-utf8 bs)

digits-fits : (bs : List ℕ) → IfSome (digits bs) (Fits bs)
digits-fits bs =
    let n = prefix_len is_ascii_digit bs in
    fits-if bs (nat_lt 0 n) (form Digits n) (λ e.
    record { some = grind (arith, nat_tests); within = prefix_len-le-length is_ascii_digit bs; tells = digits-utf8 bs })

-- the bytes behind the first
behind : (b n : ℕ) (bs : List ℕ) → drop 1 (take (n + 1) (b ∷ bs)) ≡ take n bs
behind b n bs = let e : n + 1 ≡ suc n = omega arith in ap (λ m. drop 1 (take m (b ∷ bs))) e

length-behind : (b n : ℕ) (bs : List ℕ) → n ≤ length bs → length (take (n + 1) (b ∷ bs)) ≡ n + 1
length-behind b n bs h = length-take-le (n + 1) (b ∷ bs) (omega arith)

match-true : (t : Bool) (P Q : Type 0) → t ≡ true → P → MatchBool t P Q
match-true true P Q e p = p
match-true false P Q e p = cc

match-false : (t : Bool) (P Q : Type 0) → t ≡ false → Q → MatchBool t P Q
match-false true P Q e q = cc
match-false false P Q e q = q

begins-take : (x n : ℕ) (bs : List ℕ) (t : Bool) → 1 ≤ n → begins (x ∷ []) bs ≡ t → begins (x ∷ []) (take n bs) ≡ t
begins-take x zero bs t h e = absurd (omega arith)
begins-take x (suc n) [] t h e = e
begins-take x (suc n) (b ∷ bs) t h e = e

-- a name does not begin with a backtick
no-tick : (bs : List ℕ) → first_passes may_start bs ≡ true → begins (96 ∷ []) bs ≡ false
no-tick [] h = refl
no-tick (b ∷ bs) h = tick (96 == b) refl
  where
    tick : (t : Bool) → (96 == b) ≡ t → begins (96 ∷ []) (b ∷ bs) ≡ false
    tick false e = rw e refl
    tick true e =
        let same : 96 ≡ b = grind (arith, nat_tests) in
        let P : ℕ → Type 0 = λ c. first_passes may_start (c ∷ bs) ≡ true in
        let passes = subst P (sym same) h in
        let fails = no-name 96 bs refl in
        cc

dollar-plain : (b n : ℕ) (bs : List ℕ) → begins (96 ∷ []) bs ≡ false → Fits bs (form Plain n) → Fits (b ∷ bs) (with_dollar (form Plain n))
dollar-plain b n bs e h =
    let e2 = ap (begins (96 ∷ [])) (behind b n bs) ∙ begins-take 96 n bs false h.some e in
    record {
      some = omega arith;
      within = omega (arith, h.within);
      tells = (omega (arith, length-behind b n bs h.within, h.some), match-false (begins (96 ∷ []) (drop 1 (take (n + 1) (b ∷ bs)))) _ _ e2 (subst IsUtf8 (sym (behind b n bs)) h.tells));
    }

dollar-tick : (b : ℕ) (bs : List ℕ) (o : Option ℕ) → begins (96 ∷ []) bs ≡ true → Fits bs (closed Ticked o bs) → Fits (b ∷ bs) (with_dollar (closed Ticked o bs))
dollar-tick b bs None e h = record { some = omega arith; within = omega arith; tells = tt }
dollar-tick b bs (Some n) e h =
    let e2 = ap (begins (96 ∷ [])) (behind b n bs) ∙ begins-take 96 n bs true h.some e in
    let two : 2 ≤ length (take n bs) = h.tells in
    let three : 3 ≤ length (take (n + 1) (b ∷ bs)) = omega (arith, length-behind b n bs h.within, length-take-le n bs h.within, two) in
    record {
      some = omega arith;
      within = omega (arith, h.within);
      tells = (omega arith, match-true (begins (96 ∷ []) (drop 1 (take (n + 1) (b ∷ bs)))) _ _ e2 three);
    }

dollar-either : (b : ℕ) (bs : List ℕ) (p : Bool) (n : ℕ) (t : Bool) (q : Option ℕ) → first_passes may_start bs ≡ p → begins (96 ∷ []) bs ≡ t
    → IfSome (option_map (form Plain) (cond p (Some n) None)) (Fits bs) → IfSome (cond t (Some (closed Ticked q bs)) None) (Fits bs)
    → IfSome (option_map with_dollar (option_or (option_map (form Plain) (cond p (Some n) None)) (cond t (Some (closed Ticked q bs)) None))) (Fits (b ∷ bs))
dollar-either b bs true n t q e f h k = dollar-plain b n bs (no-tick bs e) h
dollar-either b bs false n false q e f h k = tt
dollar-either b bs false n true q e f h k = dollar-tick b bs q f k

if-then : (bs : List ℕ) (t : Bool) (o : Option Front) → IfSome o (Fits bs) → IfSome (cond t o None) (Fits bs)
if-then bs true o h = h
if-then bs false o h = tt

dollar-fits : (bs : List ℕ) → IfSome (dollar bs) (Fits bs)
dollar-fits [] = tt
dollar-fits (b ∷ bs) =
    if-then (b ∷ bs) (begins (codes "$") (b ∷ bs)) (option_map with_dollar (option_or (plain bs) (ticked bs)))
    (dollar-either b bs (first_passes may_start bs) (continue_length (first_size bs) bs) (begins (96 ∷ []) bs) (option_map (λ n. n + 2) (quoted_length 96 (drop 1 bs))) refl refl
    (plain-fits bs) (between-fits 96 Ticked bs (λ _ h. h)))

-- no symbol is empty, and only `;` has the place of `;`
abbrev sound : ℕ → List (List ℕ) → Bool
sound place [] = true
sound place (s ∷ ss) = (nat_lt 0 (length s) && (not (place == symbol.semicolon) || ((length s == 1) && (get_or s 0 0 == 59)))) && sound (place + 1) ss

take-begun : (s bs : List ℕ) → begins s bs ≡ true → take (length s) bs ≡ s
take-begun [] bs h = refl
take-begun (x ∷ xs) [] h = cc
take-begun (x ∷ xs) (b ∷ bs) h =
    let both = and_parts (x == b) (begins xs bs) h in
    let same : b ≡ x = grind (arith, nat_tests) in
    let more = take-begun xs bs both.1 in
    cc

is-end : (s : List ℕ) → ((length s == 1) && (get_or s 0 0 == 59)) ≡ true → s ≡ 59 ∷ []
is-end [] h = cc
is-end (a ∷ []) h = let same : a ≡ 59 = grind (arith, nat_tests) in ap (λ x. x ∷ []) same
is-end (a ∷ b ∷ s) h = absurd (grind (arith, nat_tests))

not-or : (p q : Bool) → (not p || q) ≡ true → p ≡ true → q ≡ true
not-or true q h e = h
not-or false q h e = cc

symbols-fit : (place : ℕ) (ss : List (List ℕ)) (bs : List ℕ) → sound place ss ≡ true → EachFits bs (symbols_from place ss bs)
symbols-fit place [] bs h = tt
symbols-fit place (s ∷ ss) bs h =
    let both = and_parts (nat_lt 0 (length s) && (not (place == symbol.semicolon) || ((length s == 1) && (get_or s 0 0 == 59)))) (sound (place + 1) ss) h in
    let here = and_parts (nat_lt 0 (length s)) (not (place == symbol.semicolon) || ((length s == 1) && (get_or s 0 0 == 59))) both.0 in (
      fits-if bs (begins s bs) (form (Symbol place) (length s)) (λ e. record {
        some = grind (arith, nat_tests);
        within = begins-length s bs e;
        tells = λ p. take-begun s bs e ∙ is-end s (not-or (place == symbol.semicolon) _ here.1 p);
      }),
      symbols-fit (place + 1) ss bs both.1,
    )

symbols-sound : sound 0 symbols ≡ true
unfolding symbols
symbols-sound = refl

-- the form at the front
pub front-fits : (bs : List ℕ) → 0 < length bs → Fits bs (front bs)
unfolding front
front-fits bs h = fits-longest bs (forms bs) (form Bad 1)
    (blank-fits bs, (line-fits bs, (block-fits bs, (plain-fits bs, (between-fits 96 Ticked bs (λ _ h. h), (between-fits 39 Quoted bs (λ _ h. h), (between-fits 34 Quoted bs (λ _ h. h), (digits-fits bs, (dollar-fits bs, symbols-fit 0 symbols bs symbols-sound)))))))))
    (record { some = omega arith; within = omega arith; tells = tt })

-- what holds of no bytes, and of some where it holds behind the form at their front, holds of all
pub by-fronts : (P : List ℕ → Type 0) → P [] → ((bs : List ℕ) → 0 < length bs → P (drop (front bs).size bs) → P bs) → (bs : List ℕ) → P bs
by-fronts P none more bs = go (length bs) bs (omega arith)
  where
    go : (fuel : ℕ) (bs : List ℕ) → length bs ≤ fuel → P bs
    go fuel [] h = none
    go zero (b ∷ bs) h = absurd (omega arith)
    go (suc fuel) (b ∷ bs) h =
        let some : 0 < length (b ∷ bs) = omega arith in
        let fits = front-fits (b ∷ bs) some in
        more (b ∷ bs) some (go fuel (drop (front (b ∷ bs)).size (b ∷ bs)) (omega (arith, length-drop (front (b ∷ bs)).size (b ∷ bs), fits.some)))

pub front-tells : (bs : List ℕ) (f : Front) → 0 < length bs → f ≡ front bs → Tells f.shape (take f.size bs)
front-tells bs f h e = let P : Front → Type 0 = λ f. Tells f.shape (take f.size bs) in subst P (sym e) (front-fits bs h).tells

pub front-bounds : (bs : List ℕ) (f : Front) → 0 < length bs → f ≡ front bs → (1 ≤ f.size) × (f.size ≤ length bs)
front-bounds bs f h e =
    let fits = front-fits bs h in
    let P : Front → Type 0 = λ f. (1 ≤ f.size) × (f.size ≤ length bs) in
    subst P (sym e) (fits.some, fits.within)

some-within : (bs : List ℕ) (f : Front) (o : Option Front) → Some f ≡ o → IfSome o (Fits bs) → f.size ≤ length bs
some-within bs f None e h = cc
some-within bs f (Some g) e h = let same : g ≡ f = cc in let P : Front → Type 0 = λ f. f.size ≤ length bs in subst P same h.within

-- a delimited name lies within the bytes
pub ticked-within : (bs : List ℕ) (f : Front) → Some f ≡ ticked bs → f.size ≤ length bs
ticked-within bs f e = some-within bs f (ticked bs) e (between-fits 96 Ticked bs (λ _ h. h))
