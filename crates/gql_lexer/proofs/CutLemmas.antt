-- Pieces by themselves. Where a `;` ends a piece, each form in front of it ends in front of it; and such a form is found
-- as well where nothing stands behind the piece, since no form looks beyond its end for more than what a `;` is not:
-- a digit, a part of a name, a further quote, a `*/`, a line feed or the rest of a symbol.
use Rattle.std.proofs.Common.{◌≡◌, ℕ, zero, suc, ◌+◌, ◌-◌, ◌<◌, ◌≤◌, Bool, true, false, cond, ◌&&◌, ◌||◌, ◌==◌, not, nat_lt, List, [], ◌∷◌, ◌++◌, length, take, drop, Option, Some, None, IfSome, refl, sym, ap, ◌∙◌, arith, subst, append_assoc, length-append, length-take-le, slice_index}
use Rattle.std.specs.Prelude.{codes}
use Rattle.std.specs.Option.{option_map, option_or, option_map_or}
use Rattle.std.specs.List.{prefix_len, flat_map}
use Rattle.std.specs.Char.{is_ascii_digit}
use Rattle.std.proofs.lemmas.Bool.{ne_eqb, eqb-true, and_parts}
use Rattle.std.proofs.lemmas.Bool.Decides.{nat_tests}
use Rattle.std.proofs.lemmas.List.{take-append-drop, take-append-le, drop-append-le, take_all, drop_all, append-nil}
use Rattle.unicode_ident.specs.Ident.{is_xid_continue}
use Rattle.bstr.specs.Utf8.{Decoded, decoded, decoded_by, second}
use Rattle.bstr.proofs.lemmas.PieceLemmas.{size-within}
use Rattle.gql_lexer.specs.SymbolPlaces.{semicolon}
use Rattle.gql_lexer.specs.declared.front.Front.{Front}
use Rattle.gql_lexer.specs.declared.front.Shape.{Shape}
use Rattle.gql_lexer.specs.declared.front.Shape.TheVariants.{Gap, Plain, Ticked, Quoted, Digits, Dollar, Symbol, Bad}
use Rattle.gql_lexer.specs.declared.lexeme.Lexeme.{Lexeme}
use Rattle.gql_lexer.specs.declared.lexeme.Lexeme.TheVariants.{Sign}
use Rattle.gql_lexer.specs.declared.piece.Piece.{Piece}
use Rattle.gql_lexer.specs.Lengths.{begins, line_length, block_length, quoted_length, first_passes, first_size, may_start, continue_length, name_length}
use Rattle.gql_lexer.specs.Forms.{form, forms, front, closed, line_comment, block_comment, plain, between, ticked, digits, dollar, with_dollar, symbols, symbols_from, longest}
use Rattle.gql_lexer.specs.Spans.{Span, first_span, spans}
use Rattle.gql_lexer.specs.Lexemes.{lexeme_of, is_gap, with_lexeme, lexemes_of_spans, lexemes_of}
use Rattle.gql_lexer.specs.Pieces.{is_end, piece, with_bytes, pieces_of_spans, pieces_of}
use Rattle.gql_lexer.specs.Laws.{with_end, spans_with_end, SpansOfPiecesJoin, lexemes_with_end, with_lexemes, lexemes_of_pieces, LexemesOfPiecesJoin, EachIsWhole, PiecesAreWhole, EachForm}
use Rattle.gql_lexer.proofs.FormLemmas.{front-fits, by-fronts}
use Rattle.gql_lexer.proofs.FrontLemmas.{no-name}
use Rattle.gql_lexer.proofs.LengthLemmas.{ascii-fails, continue_length-stops}
use Rattle.gql_lexer.proofs.LawLemmas.{each-more, end-bytes, none-longer, pieces-join}
use Rattle.gql_lexer.proofs.SpanLemmas.{spans-step, pieces-of-step, with_bytes-twice}

-- ---- characters and names

or-false : (t x : Bool) → x ≡ false → cond t false x ≡ false
or-false true x e = refl
or-false false x e = e

-- a `;` is no second byte of a character
second-end : (b : ℕ) → second b 59 ≡ false
second-end b = or-false (b == 0xE0) _ (or-false (b == 0xED) _ (or-false (b == 0xF0) _ (or-false (b == 0xF4) false refl)))

some-bytes : (n : ℕ) → 1 ≤ n → (n == 0) ≡ false
some-bytes n h = ne_eqb n 0 (λ e. omega arith)

not-less : (n k : ℕ) → k ≤ n → nat_lt n k ≡ false
not-less n k h = grind (arith, nat_tests)

decoded-1 : (n b d e c' d' e' : ℕ) → 2 ≤ n → decoded_by n b 59 d e ≡ decoded_by 1 b c' d' e'
decoded-1 n b d e c' d' e' h = rw (some-bytes n (omega arith), not-less n 2 h, second-end b) refl

decoded-2 : (n b c e d' e' : ℕ) → 3 ≤ n → decoded_by n b c 59 e ≡ decoded_by 2 b c d' e'
decoded-2 n b c e d' e' h = rw (some-bytes n (omega arith), not-less n 2 (omega arith), not-less n 3 h) refl

decoded-3 : (n b c d e' : ℕ) → 4 ≤ n → decoded_by n b c d 59 ≡ decoded_by 3 b c d e'
decoded-3 n b c d e' h = rw (some-bytes n (omega arith), not-less n 2 (omega arith), not-less n 3 (omega arith), not-less n 4 h) refl

decoded-4 : (n m b c d e : ℕ) → 4 ≤ n → 4 ≤ m → decoded_by n b c d e ≡ decoded_by m b c d e
decoded-4 n m b c d e h k =
    rw (some-bytes n (omega arith), not-less n 2 (omega arith), not-less n 3 (omega arith), not-less n 4 h, some-bytes m (omega arith), not-less m 2 (omega arith), not-less m 3 (omega arith), not-less m 4 k) refl

-- the first character in front of a `;` is the first character where there is no `;`
decoded-cut : (b : ℕ) (xs ys : List ℕ) → decoded (b ∷ (xs ++ 59 ∷ ys)) ≡ decoded (b ∷ xs)
decoded-cut b [] ys = let all = b ∷ 59 ∷ ys in
    decoded-1 (length all) b (slice_index all 2) (slice_index all 3) (slice_index (b ∷ []) 1) (slice_index (b ∷ []) 2) (slice_index (b ∷ []) 3) (omega arith)
decoded-cut b (c ∷ []) ys = let all = b ∷ c ∷ 59 ∷ ys in
    decoded-2 (length all) b c (slice_index all 3) (slice_index (b ∷ c ∷ []) 2) (slice_index (b ∷ c ∷ []) 3) (omega arith)
decoded-cut b (c ∷ d ∷ []) ys = decoded-3 (length (b ∷ c ∷ d ∷ 59 ∷ ys)) b c d (slice_index (b ∷ c ∷ d ∷ []) 3) (omega arith)
decoded-cut b (c ∷ d ∷ e ∷ xs) ys = decoded-4 (length (b ∷ c ∷ d ∷ e ∷ (xs ++ 59 ∷ ys))) (length (b ∷ c ∷ d ∷ e ∷ xs)) b c d e (omega arith) (omega arith)

passes-cut : (test : ℕ → Bool) (b : ℕ) (xs ys : List ℕ) → first_passes test (b ∷ (xs ++ 59 ∷ ys)) ≡ first_passes test (b ∷ xs)
unfolding first_passes
passes-cut test b xs ys = ap (λ (d : Decoded). option_map_or test d.char false) (decoded-cut b xs ys)

size-cut : (b : ℕ) (xs ys : List ℕ) → first_size (b ∷ (xs ++ 59 ∷ ys)) ≡ first_size (b ∷ xs)
unfolding first_size
size-cut b xs ys = ap (λ (d : Decoded). d.size) (decoded-cut b xs ys)

size-fits : (bs : List ℕ) → first_size bs ≤ length bs
unfolding first_size
size-fits bs = size-within bs

nothing-passes : first_passes may_start [] ≡ false
unfolding first_passes
nothing-passes = refl

continue-cut : (skip : ℕ) (xs ys : List ℕ) → skip ≤ length xs → continue_length skip (xs ++ 59 ∷ ys) ≡ continue_length skip xs
continue-cut zero [] ys h = continue_length-stops (59 ∷ ys) (ascii-fails (59 ∷ ys) (omega arith) (omega arith) refl)
continue-cut (suc skip) [] ys h = absurd (omega arith)
continue-cut (suc skip) (b ∷ xs) ys h = ap suc (continue-cut skip xs ys (omega arith))
continue-cut zero (b ∷ xs) ys h =
    let fits = size-fits (b ∷ xs) in
    rw (passes-cut is_xid_continue b xs ys, size-cut b xs ys)
    (ap (λ n. cond (first_passes is_xid_continue (b ∷ xs)) (suc n) 0) (continue-cut (first_size (b ∷ xs) - 1) xs ys (omega (arith, fits))))

name-cut : (xs ys : List ℕ) → name_length (xs ++ 59 ∷ ys) ≡ name_length xs
name-cut [] ys = rw (no-name 59 ys refl, nothing-passes) refl
name-cut (b ∷ xs) ys =
    rw (passes-cut may_start b xs ys, size-cut b xs ys)
    (ap (λ n. cond (first_passes may_start (b ∷ xs)) (Some n) None) (continue-cut (first_size (b ∷ xs)) (b ∷ xs) ys (size-fits (b ∷ xs))))

-- ---- digits, and what bytes begin with

digits-cut : (xs ys : List ℕ) → prefix_len is_ascii_digit (xs ++ 59 ∷ ys) ≡ prefix_len is_ascii_digit xs
digits-cut [] ys = refl
digits-cut (b ∷ xs) ys = ap (λ n. cond (is_ascii_digit b) (1 + n) 0) (digits-cut xs ys)

-- no `;` stands in a text
abbrev has_no_end : List ℕ → Bool
has_no_end [] = true
has_no_end (x ∷ xs) = not (x == 59) && has_no_end xs

is-false : (t : Bool) → not t ≡ true → t ≡ false
is-false true e = cc
is-false false e = refl

begins-cut : (s xs ys : List ℕ) → has_no_end s ≡ true → begins s (xs ++ 59 ∷ ys) ≡ begins s xs
begins-cut [] xs ys h = refl
begins-cut (x ∷ s) [] ys h = let other = is-false (x == 59) (and_parts (not (x == 59)) (has_no_end s) h).0 in rw other refl
begins-cut (x ∷ s) (b ∷ xs) ys h = ap (λ t. (x == b) && t) (begins-cut s xs ys (and_parts (not (x == 59)) (has_no_end s) h).1)

-- ---- lengths that may reach beyond the `;`

-- a length that leaves room for so many bytes in front of the `;` is found where there is no `;` too
abbrev Kept : ℕ → ℕ → Option ℕ → Option ℕ → Type 0
Kept len room o p = (m : ℕ) → o ≡ Some m → m + room ≤ len → p ≡ Some m

kept-choice : (t : Bool) (len room : ℕ) (o p o' p' : Option ℕ) → Kept len room o p → Kept len room o' p' → Kept len room (cond t o o') (cond t p p')
kept-choice true len room o p o' p' f g = f
kept-choice false len room o p o' p' f g = g

kept-more : (k len room len' room' : ℕ) (o p : Option ℕ) → len' + room ≤ len + k + room' → Kept len room o p → Kept len' room' (option_map (λ n. n + k) o) (option_map (λ n. n + k) p)
kept-more k len room len' room' None p h f m e l = cc
kept-more k len room len' room' (Some n) p h f m e l =
    let same : n + k ≡ m = cc in
    ap (option_map (λ n. n + k)) (f n refl (omega arith)) ∙ ap Some same

too-far : (k m : ℕ) (o : Option ℕ) → option_map (λ n. n + k) o ≡ Some m → m < k → ⊥
too-far k m None e h = cc
too-far k m (Some n) e h = let same : n + k ≡ m = cc in omega arith

line-step : (t : Bool) (m n len : ℕ) → (m ≤ len → m ≡ n) → cond t (1 + m) 0 ≤ 1 + len → cond t (1 + m) 0 ≡ cond t (1 + n) 0
line-step true m n len f h = ap (λ k. 1 + k) (f (omega arith))
line-step false m n len f h = refl

line-cut : (xs ys : List ℕ) → line_length (xs ++ 59 ∷ ys) ≤ length xs → line_length (xs ++ 59 ∷ ys) ≡ line_length xs
line-cut [] ys h = absurd (omega arith)
line-cut (b ∷ xs) ys h = line-step (not (b == 10)) (line_length (xs ++ 59 ∷ ys)) (line_length xs) (length xs) (line-cut xs ys) (omega (arith, h))

block-cut : (xs ys : List ℕ) → Kept (length xs) 2 (block_length (xs ++ 59 ∷ ys)) (block_length xs)
block-cut [] ys = λ m e h. absurd (omega arith)
block-cut (b ∷ xs) ys =
    rw (begins-cut (codes "*/") (b ∷ xs) ys refl)
    (kept-choice (begins (codes "*/") (b ∷ xs)) (length (b ∷ xs)) 2 (Some 0) (Some 0) _ _ (λ m e h. e)
    (kept-more 1 (length xs) 2 (length (b ∷ xs)) 2 (block_length (xs ++ 59 ∷ ys)) (block_length xs) (omega arith) (block-cut xs ys)))

-- one byte in front of the `;`, which is no quote
quote-last : (s t : Bool) (o q : Option ℕ) → Kept 1 1 (cond s (option_map (λ n. n + 2) o) (cond t (Some 0) (option_map (λ n. n + 1) q))) (cond t (Some 0) None)
quote-last true t o q m e h = absurd (too-far 2 m o e (omega arith))
quote-last false true o q m e h = e
quote-last false false o q m e h = absurd (too-far 1 m q e (omega arith))

quoted-cut : (quote : ℕ) → (59 == quote) ≡ false → (xs ys : List ℕ) → Kept (length xs) 1 (quoted_length quote (xs ++ 59 ∷ ys)) (quoted_length quote xs)
quoted-cut quote other [] ys = λ m e h. absurd (omega arith)
quoted-cut quote other (b ∷ []) ys = rw other (quote-last (b == 92) (b == quote) (quoted_length quote ys) (quoted_length quote (59 ∷ ys)))
quoted-cut quote other (b ∷ c ∷ xs) ys =
    let len = length (b ∷ c ∷ xs) in
    let two = kept-more 2 (length xs) 1 len 1 (quoted_length quote (xs ++ 59 ∷ ys)) (quoted_length quote xs) (omega arith) (quoted-cut quote other xs ys) in
    let one = kept-more 1 (length (c ∷ xs)) 1 len 1 (quoted_length quote (c ∷ (xs ++ 59 ∷ ys))) (quoted_length quote (c ∷ xs)) (omega arith) (quoted-cut quote other (c ∷ xs) ys) in
    kept-choice (b == 92) len 1 _ _ _ _ two
    (kept-choice (b == quote) len 1 _ _ _ _ (kept-choice (c == quote) len 1 _ _ (Some 0) (Some 0) two (λ m e h. e)) one)

-- ---- forms

-- a form that ends in front of the `;` is found where there is no `;` too
abbrev Found : ℕ → Option Front → Option Front → Type 0
Found len o p = IfSome o (λ f. f.size ≤ len) → p ≡ o

found-if : (t : Bool) (len : ℕ) (f g : Front) → (f.size ≤ len → g ≡ f) → Found len (cond t (Some f) None) (cond t (Some g) None)
found-if true len f g h s = ap Some (h s)
found-if false len f g h s = refl

longer-whole : (xs ys : List ℕ) → length xs < length (xs ++ 59 ∷ ys)
longer-whole xs ys = omega (arith, length-append xs (59 ∷ ys))

closed-cut : (shape : Shape) (o p : Option ℕ) (xs ys : List ℕ) → Kept (length xs) 0 o p
    → (closed shape o (xs ++ 59 ∷ ys)).size ≤ length xs → closed shape p xs ≡ closed shape o (xs ++ 59 ∷ ys)
closed-cut shape None p xs ys f h = absurd (omega (arith, longer-whole xs ys))
closed-cut shape (Some n) p xs ys f h = ap (λ q. closed shape q xs) (f n refl (omega arith))

and-false : (t : Bool) → (t && false) ≡ false
and-false true = refl
and-false false = refl

line-found : (b : ℕ) (xs ys : List ℕ) → Found (length (b ∷ xs)) (line_comment (b ∷ (xs ++ 59 ∷ ys))) (line_comment (b ∷ xs))
line-found b [] ys = λ s. rw (and-false (47 == b), and-false (45 == b)) refl
line-found b (c ∷ xs) ys =
    found-if (begins (codes "//") (b ∷ c ∷ xs) || begins (codes "--") (b ∷ c ∷ xs)) (length (b ∷ c ∷ xs)) (form Gap (2 + line_length (xs ++ 59 ∷ ys))) (form Gap (2 + line_length xs))
    (λ h. ap (λ n. form Gap (2 + n)) (sym (line-cut xs ys (omega (arith, h)))))

block-found : (b : ℕ) (xs ys : List ℕ) → Found (length (b ∷ xs)) (block_comment (b ∷ (xs ++ 59 ∷ ys))) (block_comment (b ∷ xs))
block-found b [] ys = λ s. rw (and-false (47 == b)) refl
block-found b (c ∷ xs) ys =
    let all = b ∷ c ∷ xs in
    found-if (begins (codes "/*") all) (length all) _ _
    (closed-cut Gap (option_map (λ n. n + 4) (block_length (xs ++ 59 ∷ ys))) (option_map (λ n. n + 4) (block_length xs)) all ys
    (kept-more 4 (length xs) 2 (length all) 0 (block_length (xs ++ 59 ∷ ys)) (block_length xs) (omega arith) (block-cut xs ys)))

between-found : (quote : ℕ) (shape : Shape) → (59 == quote) ≡ false → (b : ℕ) (xs ys : List ℕ)
    → Found (length (b ∷ xs)) (between quote shape (b ∷ (xs ++ 59 ∷ ys))) (between quote shape (b ∷ xs))
between-found quote shape other b xs ys =
    found-if (begins (quote ∷ []) (b ∷ xs)) (length (b ∷ xs)) _ _
    (closed-cut shape (option_map (λ n. n + 2) (quoted_length quote (xs ++ 59 ∷ ys))) (option_map (λ n. n + 2) (quoted_length quote xs)) (b ∷ xs) ys
    (kept-more 2 (length xs) 1 (length (b ∷ xs)) 0 (quoted_length quote (xs ++ 59 ∷ ys)) (quoted_length quote xs) (omega arith) (quoted-cut quote other xs ys)))

ticked-found : (xs ys : List ℕ) → Found (length xs) (ticked (xs ++ 59 ∷ ys)) (ticked xs)
ticked-found [] ys = λ s. refl
ticked-found (b ∷ xs) ys = between-found 96 Ticked refl b xs ys

with-found : (len : ℕ) (o p q : Option Front) → Found len p q → Found (suc len) (option_map with_dollar (option_or o p)) (option_map with_dollar (option_or o q))
with-found len (Some f) p q h s = refl
with-found len None None q h s = ap (option_map with_dollar) (h tt)
with-found len None (Some f) q h s = ap (option_map with_dollar) (h (omega arith))

where-it-begins : (t : Bool) (len : ℕ) (o p : Option Front) → Found len o p → Found len (cond t o None) (cond t p None)
where-it-begins true len o p h = h
where-it-begins false len o p h = λ s. refl

plain-cut : (xs ys : List ℕ) → plain (xs ++ 59 ∷ ys) ≡ plain xs
plain-cut xs ys = ap (option_map (form Plain)) (name-cut xs ys)

dollar-found : (b : ℕ) (xs ys : List ℕ) → Found (length (b ∷ xs)) (dollar (b ∷ (xs ++ 59 ∷ ys))) (dollar (b ∷ xs))
dollar-found b xs ys =
    let P : Option Front → Type 0 = λ o. Found (suc (length xs)) (option_map with_dollar (option_or o (ticked (xs ++ 59 ∷ ys)))) (option_map with_dollar (option_or (plain xs) (ticked xs))) in
    where-it-begins (begins (codes "$") (b ∷ xs)) (length (b ∷ xs)) _ _
    (subst P (sym (plain-cut xs ys)) (with-found (length xs) (plain xs) (ticked (xs ++ 59 ∷ ys)) (ticked xs) (ticked-found xs ys)))

digits-same : (xs ys : List ℕ) → digits (xs ++ 59 ∷ ys) ≡ digits xs
digits-same xs ys = ap (λ n. cond (nat_lt 0 n) (Some (form Digits n)) None) (digits-cut xs ys)

-- no `;` stands in a symbol behind its first byte
abbrev end_first : List (List ℕ) → Bool
end_first [] = true
end_first (s ∷ ss) = has_no_end (drop 1 s) && end_first ss

begins-first : (s : List ℕ) (b : ℕ) (xs ys : List ℕ) → has_no_end (drop 1 s) ≡ true → begins s (b ∷ (xs ++ 59 ∷ ys)) ≡ begins s (b ∷ xs)
begins-first [] b xs ys h = refl
begins-first (x ∷ s) b xs ys h = ap (λ t. (x == b) && t) (begins-cut s xs ys h)

cons-is : {A : Type 0} (x y : A) (xs ys : List A) → x ≡ y → xs ≡ ys → x ∷ xs ≡ y ∷ ys
cons-is x y xs ys e f = ap (λ z. z ∷ xs) e ∙ ap (λ zs. y ∷ zs) f

symbols-cut : (place : ℕ) (ss : List (List ℕ)) (b : ℕ) (xs ys : List ℕ) → end_first ss ≡ true → symbols_from place ss (b ∷ xs) ≡ symbols_from place ss (b ∷ (xs ++ 59 ∷ ys))
symbols-cut place [] b xs ys h = refl
symbols-cut place (s ∷ ss) b xs ys h =
    let both = and_parts (has_no_end (drop 1 s)) (end_first ss) h in
    cons-is _ _ _ _ (ap (λ t. cond t (Some (form (Symbol place) (length s))) None) (sym (begins-first s b xs ys both.0))) (symbols-cut (place + 1) ss b xs ys both.1)

symbols-end_first : end_first symbols ≡ true
unfolding symbols
symbols-end_first = refl

forms-cut : (b : ℕ) (xs ys : List ℕ) → EachForm (λ f. f.size ≤ length (b ∷ xs)) (forms (b ∷ (xs ++ 59 ∷ ys))) → forms (b ∷ xs) ≡ forms (b ∷ (xs ++ 59 ∷ ys))
forms-cut b xs ys h =
    cons-is _ _ _ _ refl
    (cons-is _ _ _ _ (line-found b xs ys h.1.0)
    (cons-is _ _ _ _ (block-found b xs ys h.1.1.0)
    (cons-is _ _ _ _ (sym (plain-cut (b ∷ xs) ys))
    (cons-is _ _ _ _ (between-found 96 Ticked refl b xs ys h.1.1.1.1.0)
    (cons-is _ _ _ _ (between-found 39 Quoted refl b xs ys h.1.1.1.1.1.0)
    (cons-is _ _ _ _ (between-found 34 Quoted refl b xs ys h.1.1.1.1.1.1.0)
    (cons-is _ _ _ _ (sym (digits-same (b ∷ xs) ys))
    (cons-is _ _ _ _ (dollar-found b xs ys h.1.1.1.1.1.1.1.1.0) (symbols-cut 0 symbols b xs ys symbols-end_first)))))))))

-- the longest form, where it ends in front of the `;`
front-cut : (b : ℕ) (xs ys : List ℕ) → (front (b ∷ (xs ++ 59 ∷ ys))).size ≤ length (b ∷ xs) → front (b ∷ xs) ≡ front (b ∷ (xs ++ 59 ∷ ys))
unfolding front
front-cut b xs ys h =
    let whole = b ∷ (xs ++ 59 ∷ ys) in
    ap (λ fs. longest fs (form Bad 1)) (forms-cut b xs ys (each-more (forms whole) (front whole).size (length (b ∷ xs)) h (none-longer whole)))

-- ---- spans

-- only the last piece is not ended
last-open : (ss : List Span) (p : Piece) (ps : List Piece) → pieces_of_spans ss ≡ p ∷ ps → p.ended ≡ false → ps ≡ []
last-open [] p ps e h = cc
last-open (s ∷ ss) p ps e h = by (is_end s.shape) s.bytes (pieces_of_spans ss) (last-open ss) e
  where
    front-of : (xs : List ℕ) (qs : List Piece) → ((q : Piece) (rs : List Piece) → qs ≡ q ∷ rs → q.ended ≡ false → rs ≡ []) → with_bytes xs qs ≡ p ∷ ps → ps ≡ []
    front-of [] qs f e = f p ps e h
    front-of (x ∷ xs) [] f e = cc
    front-of (x ∷ xs) (q ∷ qs) f e =
        let ended : q.ended ≡ p.ended = cc in
        let rest : qs ≡ ps = cc in
        sym rest ∙ f q qs refl (ended ∙ h)

    by : (t : Bool) (xs : List ℕ) (qs : List Piece) → ((q : Piece) (rs : List Piece) → qs ≡ q ∷ rs → q.ended ≡ false → rs ≡ [])
        → cond t (piece [] true ∷ qs) (with_bytes xs qs) ≡ p ∷ ps → ps ≡ []
    by true xs qs f e = let ended : true ≡ p.ended = cc in cc
    by false xs qs f e = front-of xs qs f e

-- a form and the rest of its piece, by themselves
first-cut : (xs zs : List ℕ) (whole : List ℕ) → 0 < length xs → (front whole).size ≡ length xs → take (length xs) whole ≡ xs → front (xs ++ zs) ≡ front whole
    → spans (xs ++ zs) ≡ first_span whole ∷ spans zs
first-cut xs zs whole some size taken same =
    let n = length xs in
    let here : 0 < length (xs ++ zs) = omega (arith, length-append xs zs) in
    let size_here : (front (xs ++ zs)).size ≡ n = ap (λ (f : Front). f.size) same ∙ size in
    let bytes : take n (xs ++ zs) ≡ take n whole = take-append-le n xs zs (omega arith) ∙ take_all n xs (omega arith) ∙ sym taken in
    let rest : drop n (xs ++ zs) ≡ zs = drop-append-le n xs zs (omega arith) ∙ ap (λ t. t ++ zs) (drop_all n xs (omega arith)) in
    let P : Front → Type 0 = λ f. f.size ≡ n → record { shape = f.shape; bytes = take f.size (xs ++ zs) } ∷ spans (drop f.size (xs ++ zs)) ≡ first_span whole ∷ spans zs in
    spans-step (xs ++ zs) here (omega (arith, size_here))
    ∙ subst P (sym same) (λ e. ap (λ m. record { shape = (front whole).shape; bytes = take m (xs ++ zs) } ∷ spans (drop m (xs ++ zs))) e
    ∙ ap (λ t. record { shape = (front whole).shape; bytes = t } ∷ spans (drop n (xs ++ zs))) (bytes ∙ ap (λ m. take m whole) (sym size))
    ∙ ap (λ t. first_span whole ∷ spans t) rest) size_here

end-shape : (shape : Shape) → is_end shape ≡ true → shape ≡ Symbol semicolon
end-shape (Symbol place) e = ap Symbol (eqb-true place semicolon e)
end-shape Gap e = cc
end-shape Plain e = cc
end-shape Ticked e = cc
end-shape Quoted e = cc
end-shape Digits e = cc
end-shape Dollar e = cc
end-shape Bad e = cc

-- the form at the front of a piece is the form at the front of what the piece stands in
same-front : (x : ℕ) (xs rest : List ℕ) (p : Piece) (ps : List Piece) (t : Bool) → p.ended ≡ t → pieces_of rest ≡ p ∷ ps
    → (front (x ∷ (xs ++ rest))).size ≤ length (x ∷ xs) → front (x ∷ (xs ++ p.bytes)) ≡ front (x ∷ (xs ++ rest))
same-front x xs rest p ps true ended cut h =
    let more = flat_map with_end ps in
    let is : rest ≡ p.bytes ++ 59 ∷ more =
    sym (pieces-join rest) ∙ ap (flat_map with_end) cut ∙ ap (λ t. (p.bytes ++ cond t (59 ∷ []) []) ++ more) ended ∙ append_assoc p.bytes (59 ∷ []) more in
    let whole : xs ++ rest ≡ (xs ++ p.bytes) ++ 59 ∷ more = ap (λ t. xs ++ t) is ∙ sym (append_assoc xs p.bytes (59 ∷ more)) in
    let size : (front (x ∷ ((xs ++ p.bytes) ++ 59 ∷ more))).size ≤ length (x ∷ xs) = rw (← whole) h in
    front-cut x (xs ++ p.bytes) more (omega (arith, size, length-append xs p.bytes)) ∙ ap (λ t. front (x ∷ t)) (sym whole)
same-front x xs rest p ps false ended cut h =
    let last : ps ≡ [] = last-open (spans rest) p ps cut ended in
    let is : rest ≡ p.bytes =
    sym (pieces-join rest) ∙ ap (flat_map with_end) (cut ∙ ap (λ t. p ∷ t) last) ∙ ap (λ t. (p.bytes ++ cond t (59 ∷ []) []) ++ []) ended
    ∙ append-nil (p.bytes ++ []) ∙ append-nil p.bytes in
    ap (λ t. front (x ∷ (xs ++ t))) (sym is)

first-of-piece : (xs rest : List ℕ) (ps : List Piece) → 0 < length xs → (front (xs ++ rest)).size ≡ length xs → pieces_of rest ≡ ps → flat_map spans_with_end ps ≡ spans rest
    → flat_map spans_with_end (with_bytes xs ps) ≡ first_span (xs ++ rest) ∷ spans rest
first-of-piece [] rest ps some size cut more = absurd (omega arith)
first-of-piece (x ∷ xs) rest [] some size cut more =
    let all = x ∷ xs in
    let none : rest ≡ [] = sym (pieces-join rest) ∙ ap (flat_map with_end) cut in
    let whole : all ++ rest ≡ all = ap (λ t. all ++ t) none ∙ append-nil all in
    let taken : take (length all) (all ++ rest) ≡ all = ap (take (length all)) whole ∙ take_all (length all) all (omega arith) in
    append-nil (spans all ++ []) ∙ append-nil (spans all) ∙ ap spans (sym (append-nil all))
    ∙ first-cut all [] (all ++ rest) some size taken (ap front (append-nil all ∙ sym whole))
    ∙ ap (λ t. first_span (all ++ rest) ∷ spans t) (sym none)
first-of-piece (x ∷ xs) rest (p ∷ ps) some size cut more =
    let all = x ∷ xs in
    let whole = all ++ rest in
    let taken : take (length all) whole ≡ all = take-append-le (length all) all rest (omega arith) ∙ take_all (length all) all (omega arith) in
    let same = same-front x xs rest p ps p.ended refl cut (omega (arith, size)) in
    ap (λ t. (t ++ cond p.ended (record { shape = Symbol semicolon; bytes = 59 ∷ [] } ∷ []) []) ++ flat_map spans_with_end ps) (first-cut all p.bytes whole some size taken same)
    ∙ ap (λ t. first_span whole ∷ t) more

cut-step : (bs : List ℕ) (t : Bool) → 0 < length bs → is_end (front bs).shape ≡ t → SpansOfPiecesJoin (drop (front bs).size bs) → SpansOfPiecesJoin bs
cut-step bs true h e more =
    let n = (front bs).size in
    let fits = front-fits bs h in
    let rest = pieces_of (drop n bs) in
    let end : Span = record { shape = Symbol semicolon; bytes = 59 ∷ [] } in
    ap (flat_map spans_with_end) (pieces-of-step bs h fits.some ∙ ap (λ t. cond t (piece [] true ∷ rest) (with_bytes (take n bs) rest)) e)
    ∙ ap (λ t. end ∷ t) more
    ∙ ap (λ s. record { shape = s; bytes = 59 ∷ [] } ∷ spans (drop n bs)) (sym (end-shape (front bs).shape e))
    ∙ ap (λ t. record { shape = (front bs).shape; bytes = t } ∷ spans (drop n bs)) (sym (end-bytes (front bs).shape (take n bs) e fits.tells))
    ∙ sym (spans-step bs h fits.some)
cut-step bs false h e more =
    let n = (front bs).size in
    let fits = front-fits bs h in
    let rest = pieces_of (drop n bs) in
    let whole = take-append-drop n bs in
    let len : length (take n bs) ≡ n = length-take-le n bs fits.within in
    ap (flat_map spans_with_end) (pieces-of-step bs h fits.some ∙ ap (λ t. cond t (piece [] true ∷ rest) (with_bytes (take n bs) rest)) e)
    ∙ first-of-piece (take n bs) (drop n bs) rest (omega (arith, len, fits.some)) (ap (λ t. (front t).size) whole ∙ sym len) refl more
    ∙ ap (λ t. first_span t ∷ spans (drop n bs)) whole
    ∙ sym (spans-step bs h fits.some)

pub spans-of-pieces : (bs : List ℕ) → SpansOfPiecesJoin bs
spans-of-pieces = by-fronts SpansOfPiecesJoin refl (λ bs some more. cut-step bs (is_end (front bs).shape) some refl more)

-- ---- a piece cut again

again-first : (xs zs whole : List ℕ) → 0 < length xs → (front whole).size ≡ length xs → take (length xs) whole ≡ xs → front (xs ++ zs) ≡ front whole
    → is_end (front whole).shape ≡ false → pieces_of zs ≡ with_bytes zs [] → pieces_of (xs ++ zs) ≡ with_bytes (xs ++ zs) []
again-first xs zs whole some size taken same e again =
    ap pieces_of_spans (first-cut xs zs whole some size taken same)
    ∙ ap (λ t. cond t (piece [] true ∷ pieces_of zs) (with_bytes (take (front whole).size whole) (pieces_of zs))) e
    ∙ ap (λ m. with_bytes (take m whole) (pieces_of zs)) size
    ∙ ap (λ t. with_bytes t (pieces_of zs)) taken ∙ ap (with_bytes xs) again ∙ with_bytes-twice xs zs []

again-piece : (xs rest : List ℕ) (ps : List Piece) → 0 < length xs → (front (xs ++ rest)).size ≡ length xs → is_end (front (xs ++ rest)).shape ≡ false → pieces_of rest ≡ ps
    → EachIsWhole ps → EachIsWhole (with_bytes xs ps)
again-piece [] rest ps some size e cut more = absurd (omega arith)
again-piece (x ∷ xs) rest [] some size e cut more =
    let all = x ∷ xs in
    let none : rest ≡ [] = sym (pieces-join rest) ∙ ap (flat_map with_end) cut in
    let whole : all ++ rest ≡ all = ap (λ t. all ++ t) none ∙ append-nil all in
    let taken : take (length all) (all ++ rest) ≡ all = ap (take (length all)) whole ∙ take_all (length all) all (omega arith) in
    let P : List ℕ → Type 0 = λ t. pieces_of t ≡ with_bytes t [] in
    (subst P (append-nil all) (again-first all [] (all ++ rest) some size taken (ap front (append-nil all ∙ sym whole)) e refl), tt)
again-piece (x ∷ xs) rest (p ∷ ps) some size e cut more =
    let all = x ∷ xs in
    let taken : take (length all) (all ++ rest) ≡ all = take-append-le (length all) all rest (omega arith) ∙ take_all (length all) all (omega arith) in
    let same = same-front x xs rest p ps p.ended refl cut (omega (arith, size)) in
    (again-first all p.bytes (all ++ rest) some size taken same e more.0, more.1)

again-step : (bs : List ℕ) (t : Bool) → 0 < length bs → is_end (front bs).shape ≡ t → PiecesAreWhole (drop (front bs).size bs) → PiecesAreWhole bs
again-step bs t h e more =
    let n = (front bs).size in
    let fits = front-fits bs h in
    let rest = pieces_of (drop n bs) in
    subst EachIsWhole (sym (pieces-of-step bs h fits.some ∙ ap (λ t. cond t (piece [] true ∷ rest) (with_bytes (take n bs) rest)) e)) (by t e)
  where
    by : (t : Bool) → is_end (front bs).shape ≡ t
        → EachIsWhole (cond t (piece [] true ∷ pieces_of (drop (front bs).size bs)) (with_bytes (take (front bs).size bs) (pieces_of (drop (front bs).size bs))))
    by true e = (refl, more)
    by false e =
        let n = (front bs).size in
        let whole = take-append-drop n bs in
        let fits = front-fits bs h in
        let len : length (take n bs) ≡ n = length-take-le n bs fits.within in
        again-piece (take n bs) (drop n bs) (pieces_of (drop n bs)) (omega (arith, len, fits.some)) (ap (λ t. (front t).size) whole ∙ sym len) (ap (λ t. is_end (front t).shape) whole ∙ e) refl more

pub pieces-whole : (bs : List ℕ) → PiecesAreWhole bs
pieces-whole = by-fronts PiecesAreWhole tt (λ bs some more. again-step bs (is_end (front bs).shape) some refl more)

-- ---- lexemes

none-in-front : (o : Option (List Lexeme)) → o ≡ with_lexemes (Some []) o
none-in-front None = refl
none-in-front (Some ls) = refl

one-in-front : (l : Option Lexeme) (o p : Option (List Lexeme)) → with_lexeme l (with_lexemes o p) ≡ with_lexemes (with_lexeme l o) p
one-in-front None o p = refl
one-in-front (Some l) None p = refl
one-in-front (Some l) (Some ls) None = refl
one-in-front (Some l) (Some ls) (Some ms) = refl

lexemes-append : (ss ts : List Span) → lexemes_of_spans (ss ++ ts) ≡ with_lexemes (lexemes_of_spans ss) (lexemes_of_spans ts)
lexemes-append [] ts = none-in-front (lexemes_of_spans ts)
lexemes-append (s ∷ ss) ts = by (is_gap s.shape) (lexeme_of s.shape s.bytes) (lexemes-append ss ts)
  where
    by : (t : Bool) (l : Option Lexeme) → lexemes_of_spans (ss ++ ts) ≡ with_lexemes (lexemes_of_spans ss) (lexemes_of_spans ts)
        → cond t (lexemes_of_spans (ss ++ ts)) (with_lexeme l (lexemes_of_spans (ss ++ ts))) ≡ with_lexemes (cond t (lexemes_of_spans ss) (with_lexeme l (lexemes_of_spans ss))) (lexemes_of_spans ts)
    by true l more = more
    by false l more = ap (with_lexeme l) more ∙ one-in-front l (lexemes_of_spans ss) (lexemes_of_spans ts)

lexemes-end : (o : Option (List Lexeme)) (t : Bool)
    → with_lexemes o (lexemes_of_spans (cond t (record { shape = Symbol semicolon; bytes = 59 ∷ [] } ∷ []) [])) ≡ option_map (λ ls. ls ++ cond t (Sign semicolon ∷ []) []) o
lexemes-end None t = refl
lexemes-end (Some ls) true = refl
lexemes-end (Some ls) false = refl

lexemes-one : (p : Piece) → lexemes_of_spans (spans_with_end p) ≡ lexemes_with_end p
lexemes-one p =
    lexemes-append (spans p.bytes) (cond p.ended (record { shape = Symbol semicolon; bytes = 59 ∷ [] } ∷ []) []) ∙ lexemes-end (lexemes_of p.bytes) p.ended

lexemes-each : (ps : List Piece) → lexemes_of_pieces ps ≡ lexemes_of_spans (flat_map spans_with_end ps)
lexemes-each [] = refl
lexemes-each (p ∷ ps) =
    ap (λ o. with_lexemes o (lexemes_of_pieces ps)) (sym (lexemes-one p))
    ∙ ap (with_lexemes (lexemes_of_spans (spans_with_end p))) (lexemes-each ps)
    ∙ sym (lexemes-append (spans_with_end p) (flat_map spans_with_end ps))

pub lexemes-of-pieces : (bs : List ℕ) → LexemesOfPiecesJoin bs
lexemes-of-pieces bs = lexemes-each (pieces_of bs) ∙ ap lexemes_of_spans (spans-of-pieces bs)
