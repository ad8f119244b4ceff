-- Quotes: how undoing escapes goes on.
use Rattle.std.proofs.Common.{◌≡◌, ℕ, zero, suc, ◌+◌, ◌*◌, ◌<◌, ◌≤◌, Bool, true, false, cond, not, ◌&&◌, ◌==◌, List, [], ◌∷◌, ◌++◌, length, drop, Option, Some, None, refl, sym, ap, ◌∙◌, arith, append_assoc, add-one, length-append, drop-drop}
use Rattle.std.specs.Option.{option_map, option_and_then}
use Rattle.std.specs.List.{list_all}
use Rattle.std.specs.Str.{chars, encode_utf8_all, IsUtf8, is_utf8}
use Rattle.std.specs.Char.{encode_utf8}
use Rattle.std.proofs.lemmas.Bool.{and_parts}
use Rattle.std.proofs.lemmas.Str.{encodes-chars, is_utf8-from_IsUtf8, IsUtf8-from_is_utf8, length-encode, len_utf8_bounds, chars-nil}
use Rattle.gql_lexer.specs.declared.quotes.Part.{Part}
use Rattle.gql_lexer.specs.Quotes.{part, unescaped, text_between}

-- 16 to a power
abbrev pub bound : ℕ → ℕ
bound zero = 1
bound (suc n) = bound n * 16

-- five digits more than none fit with one more
pub bound-fits : (at : ℕ) → at < 6 → bound at ≤ 1048576
bound-fits zero h = omega arith
bound-fits (suc zero) h = omega arith
bound-fits (suc (suc zero)) h = omega arith
bound-fits (suc (suc (suc zero))) h = omega arith
bound-fits (suc (suc (suc (suc zero)))) h = omega arith
bound-fits (suc (suc (suc (suc (suc zero))))) h = omega arith
bound-fits (suc (suc (suc (suc (suc (suc n)))))) h = absurd (omega arith)

pub bound-more : (at value digit : ℕ) → value < bound at → digit < 16 → value * 16 + digit < bound (at + 1)
bound-more at value digit h d = rw (add-one at) (omega arith)

unescaped-skip : (quote n : ℕ) (cs : List ℕ) → unescaped quote n cs ≡ unescaped quote 0 (drop n cs)
unescaped-skip quote zero cs = refl
unescaped-skip quote (suc n) [] = refl
unescaped-skip quote (suc n) (c ∷ cs) = unescaped-skip quote n cs

unescaped-step : (quote c : ℕ) (cs : List ℕ) (p : Part) → Some p ≡ part quote c cs
    → unescaped quote 0 (c ∷ cs) ≡ option_map (λ t. p.meant ∷ t) (unescaped quote 0 (drop p.size cs))
unescaped-step quote c cs p e =
    ap (λ o. option_and_then (λ (p : Part). option_map (λ t. p.meant ∷ t) (unescaped quote p.size cs)) o) (sym e)
    ∙ ap (option_map (λ t. p.meant ∷ t)) (unescaped-skip quote p.size cs)

-- what was made, and what the rest stands for
abbrev pub made_with : List ℕ → Option (List ℕ) → Option (List ℕ)
made_with made o = option_map (λ t. made ++ encode_utf8_all t) o

made-more : (made : List ℕ) (c : ℕ) (o : Option (List ℕ)) → made_with (made ++ encode_utf8 c) o ≡ made_with made (option_map (λ t. c ∷ t) o)
made-more made c None = refl
made-more made c (Some t) = ap Some (append_assoc made (encode_utf8 c) (encode_utf8_all t))

pub unescaped-more : (quote c : ℕ) (made cs rest all : List ℕ) (p : Part) → all ≡ c ∷ cs → Some p ≡ part quote c cs → rest ≡ drop p.size cs
    → made_with (made ++ encode_utf8 p.meant) (unescaped quote 0 rest) ≡ made_with made (unescaped quote 0 all)
unescaped-more quote c made cs rest all p a e r =
    ap (λ t. made_with (made ++ encode_utf8 p.meant) (unescaped quote 0 t)) r
    ∙ made-more made p.meant (unescaped quote 0 (drop p.size cs))
    ∙ ap (made_with made) (sym (unescaped-step quote c cs p e) ∙ ap (unescaped quote 0) (sym a))

append-nil : (xs : List ℕ) → xs ++ [] ≡ xs
append-nil [] = refl
append-nil (x ∷ xs) = ap (λ ys. x ∷ ys) (append-nil xs)

unescaped-plain : (quote : ℕ) (cs : List ℕ) → list_all (λ c. not (c == 92) && not (c == quote)) cs ≡ true → unescaped quote 0 cs ≡ Some cs
unescaped-plain quote [] h = refl
unescaped-plain quote (c ∷ cs) h =
    let both = and_parts (not (c == 92) && not (c == quote)) (list_all (λ c. not (c == 92) && not (c == quote)) cs) h in
    let here = and_parts (not (c == 92)) (not (c == quote)) both.0 in
    let one : Some (record { meant = c; size = 0 }) ≡ part quote c cs = rw (not-true (c == 92) here.0, not-true (c == quote) here.1) refl in
    unescaped-step quote c cs (record { meant = c; size = 0 }) one ∙ ap (option_map (λ t. c ∷ t)) (unescaped-plain quote cs both.1)
  where
    not-true : (b : Bool) → not b ≡ true → b ≡ false
    not-true true h = cc
    not-true false h = refl

-- a text with nothing to undo
pub plain-text : (quote : ℕ) (text : List ℕ) → IsUtf8 text → list_all (λ c. not (c == 92) && not (c == quote)) (chars text) ≡ true
    → Some text ≡ option_map encode_utf8_all (unescaped quote 0 (chars text))
plain-text quote text u h = sym (ap (option_map encode_utf8_all) (unescaped-plain quote (chars text) h) ∙ ap Some (encodes-chars text u))

pub text-utf8 : (quote : ℕ) (bytes : List ℕ) → IsUtf8 bytes → option_map encode_utf8_all (unescaped quote 0 (chars bytes)) ≡ text_between quote bytes
text-utf8 quote bytes u = sym (ap (λ b. cond b (option_map encode_utf8_all (unescaped quote 0 (chars bytes))) None) (is_utf8-from_IsUtf8 bytes u))

pub text-no_utf8 : (quote : ℕ) (bytes : List ℕ) → (IsUtf8 bytes → ⊥) → text_between quote bytes ≡ None
text-no_utf8 quote bytes n = go (is_utf8 bytes) refl
  where
    go : (b : Bool) → is_utf8 bytes ≡ b → text_between quote bytes ≡ None
    go true e = absurd (n (IsUtf8-from_is_utf8 bytes e))
    go false e = rw e refl

-- a text behind its first character is shorter
pub shorter : (text rest : List ℕ) (c : ℕ) → text ≡ encode_utf8 c ++ rest → length rest < length text
shorter text rest c e =
    omega (arith, ap length e, length-append (encode_utf8 c) rest, length-encode c, len_utf8_bounds c)

pub chars-empty : (text : List ℕ) → length text ≡ 0 → chars text ≡ []
chars-empty [] e = chars-nil
chars-empty (b ∷ bs) e = absurd (omega arith)

pub drop-next : (xs rest behind : List ℕ) (n c : ℕ) → rest ≡ drop n xs → rest ≡ c ∷ behind → behind ≡ drop (n + 1) xs
drop-next xs rest behind n c e f = ap (drop 1) (sym f) ∙ ap (drop 1) e ∙ drop-drop 1 n xs
