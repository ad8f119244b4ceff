-- The loop of `too_deep`: the count so far stands first among the counts that are still to come.
use Rattle.std.proofs.Common.{◌≡◌, ℕ, suc, ◌+◌, ◌-◌, ◌<◌, ◌≤◌, Bool, true, false, ◌||◌, ◌==◌, if◌then◌else◌, List, [], ◌∷◌, length, drop, get_or, refl, sym, ap, ◌∙◌, arith, add-one, drop-cons}
use Rattle.std.specs.List.{list_any}
use Rattle.gql_lexer.specs.declared.lexeme.Lexeme.{Lexeme}
use Rattle.gql_exprs.specs.Depth.{is_opening, is_closing, count_behind, counts_from}

abbrev pub too_deep_from : ℕ → List Lexeme → Bool
too_deep_from count ls = list_any (λ n. n == 65) (counts_from count ls)

pub count_behind-le : (n : ℕ) (l : Lexeme) → count_behind n l ≤ n + 1
count_behind-le n l = go (is_opening l) (is_closing l)
  where
    go : (o c : Bool) → (if o then n + 1 else if c then n - 1 else n) ≤ n + 1
    go true c = omega arith
    go false true = omega arith
    go false false = omega arith

not_yet : (n : ℕ) → n ≤ 64 → (n == 65) ≡ false
not_yet n h = grind arith

pub too_deep_from-cons : (n : ℕ) (l : Lexeme) (ls : List Lexeme) → n ≤ 64 → too_deep_from n (l ∷ ls) ≡ too_deep_from (count_behind n l) ls
too_deep_from-cons n l ls h = ap (λ b. b || too_deep_from (count_behind n l) ls) (not_yet n h)

pub too_deep_from-step : (n i : ℕ) (ls : List Lexeme) (l : Lexeme) → n ≤ 64 → i < length ls → l ≡ get_or ls i l → too_deep_from n (drop i ls) ≡ too_deep_from (count_behind n l) (drop (i + 1) ls)
too_deep_from-step n i ls l h lt is =
    ap (too_deep_from n) (drop-cons ls i l lt ∙ ap (λ z. z ∷ drop (suc i) ls) (sym is)) ∙ too_deep_from-cons n l (drop (suc i) ls) h ∙ ap (λ k. too_deep_from (count_behind n l) (drop k ls)) (sym (add-one i))

pub too_deep_from-end : (n : ℕ) → n ≤ 64 → too_deep_from n [] ≡ false
too_deep_from-end n h = ap (λ b. b || false) (not_yet n h)

pub too_deep_from-reached : (ls : List Lexeme) → too_deep_from 65 ls ≡ true
too_deep_from-reached [] = refl
too_deep_from-reached (l ∷ ls) = refl

-- behind this lexeme the count is too high
pub too_deep_from-past : (n i : ℕ) (ls : List Lexeme) (l : Lexeme) → n ≤ 64 → i < length ls → l ≡ get_or ls i l → 64 < count_behind n l → too_deep_from n (drop i ls) ≡ true
too_deep_from-past n i ls l h lt is past =
    let reached : count_behind n l ≡ 65 = omega (arith, count_behind-le n l) in
    too_deep_from-step n i ls l h lt is ∙ ap (λ k. too_deep_from k (drop (i + 1) ls)) reached ∙ too_deep_from-reached (drop (i + 1) ls)
