-- The longest form, by the first byte.
use Rattle.std.proofs.Common.{◌≡◌, ◌≢◌, ℕ, zero, suc, ◌+◌, ◌<◌, ◌≤◌, Bool, true, false, cond, ◌&&◌, ◌||◌, ◌==◌, not, nat_lt, List, [], ◌∷◌, length, drop, get_or, Option, Some, None, refl, sym, ap, ◌∙◌, arith, subst, lt-ltb, ◌⊎◌, inl, inr}
use Rattle.std.specs.Option.{option_map, option_or}
use Rattle.std.specs.List.{prefix_len}
use Rattle.std.specs.Char.{is_ascii_digit, is_ascii_alphabetic}
use Rattle.std.proofs.lemmas.Bool.{ne_eqb, and_parts}
use Rattle.std.proofs.lemmas.List.{drop_more}
use Rattle.std.proofs.lemmas.Bool.Decides.{nat_tests}
use Rattle.unicode_ident.proofs.IdentLemmas.{is_xid_start-ascii}
use Rattle.bstr.specs.Utf8.{decoded}
use Rattle.gql_lexer.specs.SymbolPlaces as symbol
use Rattle.gql_lexer.specs.declared.front.Front.{Front}
use Rattle.gql_lexer.specs.declared.front.Shape.{Shape}
use Rattle.gql_lexer.specs.declared.front.Shape.TheVariants.{Gap, Plain, Ticked, Quoted, Digits, Symbol, Bad}
use Rattle.gql_lexer.specs.Lengths.{line_length, block_length, quoted_length, first_passes, may_start, name_length, continue_length}
use Rattle.gql_lexer.specs.Forms.{form, front, closed, is_blank, blank, plain, ticked, digits, with_dollar, symbols, symbols_from, longer, longest}
use Rattle.gql_lexer.specs.Machinery.Firsts.{is_ascii_start, is_letter, none_begins}
use Rattle.gql_lexer.proofs.LengthLemmas.{ascii-name}

-- a list by its first item
pub first-of : (bs : List ℕ) → 0 < length bs → bs ≡ get_or bs 0 0 ∷ drop 1 bs
first-of bs h = drop_more bs 0 0 h

first-char : (b : ℕ) (bs : List ℕ) → b < 128 → (decoded (b ∷ bs)).char ≡ Some b
first-char b bs h = rw (ne_eqb (length (b ∷ bs)) 0 (λ e. omega arith), lt-ltb b 128 h) refl

-- no name begins with such a byte
pub no-name : (b : ℕ) (bs : List ℕ) → is_letter b ≡ false → first_passes may_start (b ∷ bs) ≡ false
unfolding first_passes may_start
no-name b bs h =
    let small : b < 128 = grind (arith, nat_tests) in
    let other : (is_ascii_alphabetic b || (b == 95)) ≡ false = grind (arith, nat_tests) in
    rw (first-char b bs small, is_xid_start-ascii b small) other

-- the first of two counts where it is no shorter
longer-first : (f g : Front) → g.size ≤ f.size → longer (Some f) g ≡ f
longer-first f g h = let e : nat_lt f.size g.size ≡ false = grind (arith, nat_tests) in rw e refl

closed-size : (shape : Shape) (o : Option ℕ) (k : ℕ) (b : ℕ) (bs : List ℕ) → 1 ≤ k → 1 ≤ (closed shape (option_map (λ n. n + k) o) (b ∷ bs)).size
closed-size shape None k b bs h = omega arith
closed-size shape (Some n) k b bs h = omega arith

pub front-39 : (bs : List ℕ) → front (39 ∷ bs) ≡ closed Quoted (option_map (λ n. n + 2) (quoted_length 39 bs)) (39 ∷ bs)
unfolding front symbols
front-39 bs = rw (no-name 39 bs refl) (longer-first _ (form Bad 1) (closed-size Quoted (quoted_length 39 bs) 2 39 bs (omega arith)))

pub front-34 : (bs : List ℕ) → front (34 ∷ bs) ≡ closed Quoted (option_map (λ n. n + 2) (quoted_length 34 bs)) (34 ∷ bs)
unfolding front symbols
front-34 bs = rw (no-name 34 bs refl) (longer-first _ (form Bad 1) (closed-size Quoted (quoted_length 34 bs) 2 34 bs (omega arith)))

pub front-96 : (bs : List ℕ) → front (96 ∷ bs) ≡ closed Ticked (option_map (λ n. n + 2) (quoted_length 96 bs)) (96 ∷ bs)
unfolding front symbols
front-96 bs = rw (no-name 96 bs refl) (longer-first _ (form Bad 1) (closed-size Ticked (quoted_length 96 bs) 2 96 bs (omega arith)))

front-36 : (bs : List ℕ) → front (36 ∷ bs) ≡ longer (option_map with_dollar (option_or (plain bs) (ticked bs))) (form Bad 1)
unfolding front symbols
front-36 bs = rw (no-name 36 bs refl) refl

front-line : (bs : List ℕ) → front (47 ∷ 47 ∷ bs) ≡ form Gap (2 + line_length bs)
unfolding front symbols
front-line bs = rw (no-name 47 (47 ∷ bs) refl) (longer-first (form Gap (2 + line_length bs)) (form (Symbol symbol.slash) 1) (omega arith))

pub front-block : (bs : List ℕ) → front (47 ∷ 42 ∷ bs) ≡ closed Gap (option_map (λ n. n + 4) (block_length bs)) (47 ∷ 42 ∷ bs)
unfolding front symbols
front-block bs = rw (no-name 47 (42 ∷ bs) refl) (longer-first _ (form (Symbol symbol.slash) 1) (closed-size Gap (block_length bs) 4 47 (42 ∷ bs) (omega arith)))

front-dashes : (bs : List ℕ) → front (45 ∷ 45 ∷ bs) ≡ form Gap (2 + line_length bs)
unfolding front symbols
front-dashes bs = rw (no-name 45 (45 ∷ bs) refl) (longer-first (form Gap (2 + line_length bs)) (form (Symbol symbol.minus) 1) (omega arith))

-- a string
pub front-quoted : (bs : List ℕ) → 0 < length bs → (get_or bs 0 0 ≡ 39) ⊎ (get_or bs 0 0 ≡ 34)
    → closed Quoted (option_map (λ n. n + 2) (quoted_length (get_or bs 0 0) (drop 1 bs))) bs ≡ front bs
front-quoted [] h e = absurd (omega arith)
front-quoted (b ∷ bs) h (inl e) =
    let P : ℕ → Type 0 = λ b. closed Quoted (option_map (λ n. n + 2) (quoted_length b bs)) (b ∷ bs) ≡ front (b ∷ bs) in subst P (sym e) (sym (front-39 bs))
front-quoted (b ∷ bs) h (inr e) =
    let P : ℕ → Type 0 = λ b. closed Quoted (option_map (λ n. n + 2) (quoted_length b bs)) (b ∷ bs) ≡ front (b ∷ bs) in subst P (sym e) (sym (front-34 bs))

-- a delimited name
pub front-ticked : (bs : List ℕ) → 0 < length bs → get_or bs 0 0 ≡ 96
    → closed Ticked (option_map (λ n. n + 2) (quoted_length (get_or bs 0 0) (drop 1 bs))) bs ≡ front bs
front-ticked [] h e = absurd (omega arith)
front-ticked (b ∷ bs) h e =
    let P : ℕ → Type 0 = λ b. closed Ticked (option_map (λ n. n + 2) (quoted_length b bs)) (b ∷ bs) ≡ front (b ∷ bs) in subst P (sym e) (sym (front-96 bs))

-- a delimited name, as a form of its own
pub ticked-here : (bs : List ℕ) → 0 < length bs → get_or bs 0 0 ≡ 96
    → Some (closed Ticked (option_map (λ n. n + 2) (quoted_length (get_or bs 0 0) (drop 1 bs))) bs) ≡ ticked bs
ticked-here [] h e = absurd (omega arith)
ticked-here (b ∷ bs) h e =
    let P : ℕ → Type 0 = λ b. Some (closed Ticked (option_map (λ n. n + 2) (quoted_length b bs)) (b ∷ bs)) ≡ ticked (b ∷ bs) in subst P (sym e) refl

dollar-some : (f : Front) → longer (Some (with_dollar f)) (form Bad 1) ≡ with_dollar f
dollar-some f = longer-first (with_dollar f) (form Bad 1) (omega arith)

-- a parameter
pub front-dollar : (bs : List ℕ) (f : Front) → 0 < length bs → get_or bs 0 0 ≡ 36 → Some f ≡ option_or (plain (drop 1 bs)) (ticked (drop 1 bs))
    → with_dollar f ≡ front bs
front-dollar [] f h e n = absurd (omega arith)
front-dollar (b ∷ bs) f h e n =
    let P : ℕ → Type 0 = λ b. with_dollar f ≡ front (b ∷ bs) in
    subst P (sym e) (sym (front-36 bs ∙ ap (λ o. longer (option_map with_dollar o) (form Bad 1)) (sym n) ∙ dollar-some f))

-- a `$` with no name behind it
pub front-dollar_alone : (bs : List ℕ) → 0 < length bs → get_or bs 0 0 ≡ 36 → None ≡ option_or (plain (drop 1 bs)) (ticked (drop 1 bs)) → form Bad 1 ≡ front bs
front-dollar_alone [] h e n = absurd (omega arith)
front-dollar_alone (b ∷ bs) h e n =
    let P : ℕ → Type 0 = λ b. form Bad 1 ≡ front (b ∷ bs) in
    subst P (sym e) (sym (front-36 bs ∙ ap (λ o. longer (option_map with_dollar o) (form Bad 1)) (sym n)))

-- comments
pub slash-line : (bs : List ℕ) → 1 < length bs → get_or bs 0 0 ≡ 47 → get_or bs 1 0 ≡ 47 → form Gap (line_length (drop 2 bs) + 2) ≡ front bs
slash-line [] h p q = absurd (omega arith)
slash-line (b ∷ []) h p q = absurd (omega arith)
slash-line (b ∷ c ∷ bs) h p q =
    let P : ℕ → ℕ → Type 0 = λ b c. form Gap (line_length bs + 2) ≡ front (b ∷ c ∷ bs) in
    let same : line_length bs + 2 ≡ 2 + line_length bs = omega arith in
    subst (λ b. P b c) (sym p) (subst (P 47) (sym q) (ap (form Gap) same ∙ sym (front-line bs)))

pub slash-block : (bs : List ℕ) → 1 < length bs → get_or bs 0 0 ≡ 47 → get_or bs 1 0 ≡ 42
    → closed Gap (option_map (λ n. n + 4) (block_length (drop 2 bs))) bs ≡ front bs
slash-block [] h p q = absurd (omega arith)
slash-block (b ∷ []) h p q = absurd (omega arith)
slash-block (b ∷ c ∷ bs) h p q =
    let P : ℕ → ℕ → Type 0 = λ b c. closed Gap (option_map (λ n. n + 4) (block_length bs)) (b ∷ c ∷ bs) ≡ front (b ∷ c ∷ bs) in
    subst (λ b. P b c) (sym p) (subst (P 47) (sym q) (sym (front-block bs)))

pub dash-line : (bs : List ℕ) → 1 < length bs → get_or bs 0 0 ≡ 45 → get_or bs 1 0 ≡ 45 → form Gap (line_length (drop 2 bs) + 2) ≡ front bs
dash-line [] h p q = absurd (omega arith)
dash-line (b ∷ []) h p q = absurd (omega arith)
dash-line (b ∷ c ∷ bs) h p q =
    let P : ℕ → ℕ → Type 0 = λ b c. form Gap (line_length bs + 2) ≡ front (b ∷ c ∷ bs) in
    let same : line_length bs + 2 ≡ 2 + line_length bs = omega arith in
    subst (λ b. P b c) (sym p) (subst (P 45) (sym q) (ap (form Gap) same ∙ sym (front-dashes bs)))

-- tests of all bytes
abbrev all_below : ℕ → (ℕ → Bool) → Bool
all_below zero p = true
all_below (suc n) p = p n && all_below n p

below : (n : ℕ) (p : ℕ → Bool) (k : ℕ) → all_below n p ≡ true → k < n → p k ≡ true
below zero p k h l = absurd (omega arith)
below (suc n) p k h l =
    let both = and_parts (p n) (all_below n p) h in
    last (k == n) (λ e. let P : ℕ → Type 0 = λ m. p m ≡ true in subst P (sym (e_of e)) both.0) (λ e. below n p k both.1 (smaller e))
  where
    last : {A : Type 0} (b : Bool) → (b ≡ true → A) → (b ≡ false → A) → A
    last true f g = f refl
    last false f g = g refl

    e_of : (k == n) ≡ true → k ≡ n
    e_of e = grind (arith, nat_tests)

    smaller : (k == n) ≡ false → k < n
    smaller e = grind (arith, nat_tests)

not-true : (b : Bool) → not b ≡ true → b ≡ false
not-true true h = cc
not-true false h = refl

silent : (place b : ℕ) (ss : List (List ℕ)) (bs : List ℕ) (g : Front) → none_begins b ss ≡ true → longest (symbols_from place ss (b ∷ bs)) g ≡ g
silent place b [] bs g h = refl
silent place b ([] ∷ ss) bs g h = cc
silent place b ((x ∷ s) ∷ ss) bs g h =
    let both = and_parts (not (x == b)) (none_begins b ss) h in
    let no_x = not-true (x == b) both.0 in
    rw no_x (silent (place + 1) b ss bs g both.1)

-- a byte that begins no comment, no text, no parameter and no symbol
abbrev is_quiet : ℕ → Bool
is_quiet b = not (47 == b) && (not (45 == b) && (not (96 == b) && (not (39 == b) && (not (34 == b) && (not (36 == b) && none_begins b symbols)))))

front-quiet : (b : ℕ) (bs : List ℕ) → is_quiet b ≡ true
    → front (b ∷ bs) ≡ longer (blank (b ∷ bs)) (longer (plain (b ∷ bs)) (longer (digits (b ∷ bs)) (form Bad 1)))
unfolding front
front-quiet b bs h =
    let n47 = and_parts (not (47 == b)) _ h in
    let n45 = and_parts (not (45 == b)) _ n47.1 in
    let n96 = and_parts (not (96 == b)) _ n45.1 in
    let n39 = and_parts (not (39 == b)) _ n96.1 in
    let n34 = and_parts (not (34 == b)) _ n39.1 in
    let n36 = and_parts (not (36 == b)) (none_begins b symbols) n34.1 in
    rw (not-true (47 == b) n47.0, not-true (45 == b) n45.0, not-true (96 == b) n96.0, not-true (39 == b) n39.0, not-true (34 == b) n34.0, not-true (36 == b) n36.0, silent 0 b symbols bs (form Bad 1) n36.1) refl

quiet-letters : all_below 256 (λ b. not (is_letter b) || (is_quiet b && (not (is_blank b) && not (is_ascii_digit b)))) ≡ true
unfolding symbols
quiet-letters = refl

quiet-digits : all_below 256 (λ b. not (is_ascii_digit b) || (is_quiet b && (not (is_blank b) && not (is_letter b)))) ≡ true
unfolding symbols
quiet-digits = refl

quiet-blanks : all_below 256 (λ b. not (is_blank b) || (is_quiet b && (not (is_ascii_digit b) && not (is_letter b)))) ≡ true
unfolding symbols
quiet-blanks = refl

implied : (p q : Bool) → (not p || q) ≡ true → p ≡ true → q ≡ true
implied true q h e = h
implied false q h e = cc

-- at a letter stands a name, or one bad byte
front-letter : (b : ℕ) (bs : List ℕ) → b < 256 → is_letter b ≡ true → front (b ∷ bs) ≡ longer (plain (b ∷ bs)) (form Bad 1)
front-letter b bs h l =
    let all = implied (is_letter b) _ (below 256 (λ b. not (is_letter b) || (is_quiet b && (not (is_blank b) && not (is_ascii_digit b)))) b quiet-letters h) l in
    let quiet = and_parts (is_quiet b) _ all in
    let rest = and_parts (not (is_blank b)) (not (is_ascii_digit b)) quiet.1 in
    front-quiet b bs quiet.0 ∙ rw (not-true (is_blank b) rest.0, not-true (is_ascii_digit b) rest.1) refl

front-digit : (b : ℕ) (bs : List ℕ) → b < 256 → is_ascii_digit b ≡ true → front (b ∷ bs) ≡ form Digits (prefix_len is_ascii_digit (b ∷ bs))
front-digit b bs h l =
    let all = implied (is_ascii_digit b) _ (below 256 (λ b. not (is_ascii_digit b) || (is_quiet b && (not (is_blank b) && not (is_letter b)))) b quiet-digits h) l in
    let quiet = and_parts (is_quiet b) _ all in
    let rest = and_parts (not (is_blank b)) (not (is_letter b)) quiet.1 in
    front-quiet b bs quiet.0 ∙ rw (not-true (is_blank b) rest.0, no-name b bs (not-true (is_letter b) rest.1), l) (digits-here (prefix_len is_ascii_digit bs))
  where
    digits-here : (n : ℕ) → longer (cond (nat_lt 0 (1 + n)) (Some (form Digits (1 + n))) None) (form Bad 1) ≡ form Digits (1 + n)
    digits-here n =
        let e : nat_lt 0 (1 + n) ≡ true = grind (arith, nat_tests) in rw e (longer-first (form Digits (1 + n)) (form Bad 1) (omega arith))

front-blank : (b : ℕ) (bs : List ℕ) → b < 256 → is_blank b ≡ true → front (b ∷ bs) ≡ form Gap 1
front-blank b bs h l =
    let all = implied (is_blank b) _ (below 256 (λ b. not (is_blank b) || (is_quiet b && (not (is_ascii_digit b) && not (is_letter b)))) b quiet-blanks h) l in
    let quiet = and_parts (is_quiet b) _ all in
    let rest = and_parts (not (is_ascii_digit b)) (not (is_letter b)) quiet.1 in
    front-quiet b bs quiet.0 ∙ rw (l, no-name b bs (not-true (is_letter b) rest.1), not-true (is_ascii_digit b) rest.0) refl

pub blank-here : (bs : List ℕ) → 0 < length bs → get_or bs 0 0 < 256 → is_blank (get_or bs 0 0) ≡ true → form Gap 1 ≡ front bs
blank-here [] h f l = absurd (omega arith)
blank-here (b ∷ bs) h f l = sym (front-blank b bs f l)

pub digits-there : (bs : List ℕ) → 0 < length bs → get_or bs 0 0 < 256 → is_ascii_digit (get_or bs 0 0) ≡ true → form Digits (prefix_len is_ascii_digit bs) ≡ front bs
digits-there [] h f l = absurd (omega arith)
digits-there (b ∷ bs) h f l = sym (front-digit b bs f l)

letter-by : (b : ℕ) (bs : List ℕ) (o : Option ℕ) → b < 256 → is_letter b ≡ true → o ≡ name_length (b ∷ bs) → longer (option_map (form Plain) o) (form Bad 1) ≡ front (b ∷ bs)
letter-by b bs o h l e = ap (λ o. longer (option_map (form Plain) o) (form Bad 1)) e ∙ sym (front-letter b bs h l)

pub letters-some : (bs : List ℕ) (n : ℕ) → 0 < length bs → get_or bs 0 0 < 256 → is_letter (get_or bs 0 0) ≡ true → Some n ≡ name_length bs → 1 ≤ n → form Plain n ≡ front bs
letters-some [] n h f l e p = absurd (omega arith)
letters-some (b ∷ bs) n h f l e p = sym (longer-first (form Plain n) (form Bad 1) p) ∙ letter-by b bs (Some n) f l e

pub letters-none : (bs : List ℕ) → 0 < length bs → get_or bs 0 0 < 256 → is_letter (get_or bs 0 0) ≡ true → None ≡ name_length bs → form Bad 1 ≡ front bs
letters-none [] h f l e = absurd (omega arith)
letters-none (b ∷ bs) h f l e = letter-by b bs None f l e

-- a byte beyond ASCII is such a letter
pub beyond-letter : (b : ℕ) → 128 ≤ b → is_letter b ≡ true
beyond-letter b h = grind (arith, nat_tests)

-- an ASCII letter and what goes on with the name
pub ascii-letters : (bs : List ℕ) (n : ℕ) → 0 < length bs → get_or bs 0 0 < 256 → is_ascii_start (get_or bs 0 0) ≡ true → n ≡ continue_length 1 bs → 1 ≤ n → form Plain n ≡ front bs
ascii-letters bs n h f l e p =
    let letter : is_letter (get_or bs 0 0) ≡ true = grind (arith, nat_tests) in
    letters-some bs n h f letter (ap Some e ∙ ascii-name bs h l) p

-- a byte with which no form begins
abbrev is_idle : ℕ → Bool
is_idle b =
    not (is_blank b) && (not (is_letter b) && (none_begins b symbols && (not (is_ascii_digit b) && (not (b == 39) && (not (b == 34) && (not (b == 96) && not (b == 36)))))))

quiet-idle : all_below 256 (λ b. not (is_idle b) || is_quiet b) ≡ true
unfolding symbols
quiet-idle = refl

front-idle : (b : ℕ) (bs : List ℕ) → b < 256 → is_idle b ≡ true → is_blank b ≡ false → is_letter b ≡ false → is_ascii_digit b ≡ false → front (b ∷ bs) ≡ form Bad 1
front-idle b bs h i no_blank no_letter no_digit =
    front-quiet b bs (implied (is_idle b) (is_quiet b) (below 256 (λ b. not (is_idle b) || is_quiet b) b quiet-idle h) i)
    ∙ rw (no_blank, no-name b bs no_letter, no_digit) refl

pub idle-here : (bs : List ℕ) → 0 < length bs → get_or bs 0 0 < 128 → is_blank (get_or bs 0 0) ≡ false → is_ascii_start (get_or bs 0 0) ≡ false
    → none_begins (get_or bs 0 0) symbols ≡ true → is_ascii_digit (get_or bs 0 0) ≡ false → get_or bs 0 0 ≢ 39 → get_or bs 0 0 ≢ 34 → get_or bs 0 0 ≢ 96
    → get_or bs 0 0 ≢ 36 → form Bad 1 ≡ front bs
idle-here [] h f no_blank no_start no_symbol no_digit n39 n34 n96 n36 = absurd (omega arith)
idle-here (b ∷ bs) h f no_blank no_start no_symbol no_digit n39 n34 n96 n36 =
    let no_letter : is_letter b ≡ false = grind (arith, nat_tests) in
    let idle : is_idle b ≡ true = rw (no_blank, no_letter, no_symbol, no_digit, ne_eqb b 39 n39, ne_eqb b 34 n34, ne_eqb b 96 n96, ne_eqb b 36 n36) refl in
    sym (front-idle b bs (omega (arith, f)) idle no_blank no_letter no_digit)
