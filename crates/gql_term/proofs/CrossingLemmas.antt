-- References that cross an unprotected quantifier, told without places. The key: what a reference may name and what stands
-- around no part of it was declared in front of the part, so its quantifiers are other ones than those around the reference.
use Rattle.std.proofs.Common.{◌≡◌, ℕ, ◌==◌, Bool, true, false, not, ◌&&◌, ◌||◌, cond, List, [], ◌∷◌, filter, flat_map, refl, ap, ◌∙◌, subst, sym}
use Rattle.std.proofs.Math.Bool.{or_self_left}
use Rattle.std.specs.Prelude.{if◌then◌else◌}
use Rattle.std.specs.List.{list_any}
use Rattle.std.proofs.lemmas.Bool.{eqb-true}
use Rattle.std.proofs.lemmas.List.Folds.{list_any-append}
use Rattle.gql_values3.specs.Texts.{same_text}
use Rattle.gql_values3.specs.declared.table.ColumnKind.{ColumnKind}
use Rattle.gql_values3.specs.declared.table.ColumnKind.TheVariants as kind
use Rattle.gql_norm.specs.NormalPattern.{Part}
use Rattle.gql_norm.specs.PathMode.{is_number_among}
use Rattle.gql_norm.specs.Declaration.{Declared, may_name}
use Rattle.gql_norm.specs.Reference.{once, crossed}

-- Booleans
pub or_none : (a b : Bool) → b ≡ false → (a || b) ≡ a
or_none true b h = refl
or_none false b h = h

or_swap : (a b c : Bool) → c ≡ (b || c) → (a || c) ≡ (b || (a || c))
or_swap true true c h = refl
or_swap true false c h = refl
or_swap false b c h = h

-- quantifiers that pass a test and are not among those around
abbrev pub outside : (ℕ → Bool) → List ℕ → List ℕ → Bool
outside f around qs = list_any (λ q. not (is_number_among around q) && f q) qs

-- some declaration of a name stands under such a quantifier
abbrev pub bars : (ℕ → Bool) → List ℕ → List Declared → List ℕ → Bool
bars f around ds x = list_any (λ (d : Declared). same_text x d.name && outside f around d.quants) ds

-- a number that is among others adds nothing
one_more : (f : ℕ → Bool) (xs : List ℕ) (x : ℕ) → is_number_among xs x ≡ true → list_any f xs ≡ (f x || list_any f xs)
one_more f [] x h = absurd (cc)
one_more f (y ∷ ys) x h = by (y == x) refl h (one_more f ys x)
  where
    by : (b : Bool) → (y == x) ≡ b → (b || is_number_among ys x) ≡ true → (is_number_among ys x ≡ true → list_any f ys ≡ (f x || list_any f ys)) → (f y || list_any f ys) ≡ (f x || (f y || list_any f ys))
    by true e h rest = subst (λ z. (f y || list_any f ys) ≡ (f z || (f y || list_any f ys))) (eqb-true y x e) (sym (or_self_left (f y) (list_any f ys)))
    by false e h rest = or_swap (f y) (f x) (list_any f ys) (rest h)

any_once : (f : ℕ → Bool) (xs : List ℕ) → list_any f (once xs) ≡ list_any f xs
any_once f [] = refl
any_once f (x ∷ xs) = by (is_number_among xs x) refl (any_once f xs)
  where
    by : (b : Bool) → is_number_among xs x ≡ b → list_any f (once xs) ≡ list_any f xs → list_any f (if b then once xs else x ∷ once xs) ≡ (f x || list_any f xs)
    by true h rest = rest ∙ one_more f xs x h
    by false h rest = ap (λ b. f x || b) rest

any_filter : {A : Type 0} (f t : A → Bool) (xs : List A) → list_any f (filter t xs) ≡ list_any (λ x. t x && f x) xs
any_filter f t [] = refl
any_filter f t (x ∷ xs) = by (t x) (any_filter f t xs)
  where
    by : (b : Bool) → list_any f (filter t xs) ≡ list_any (λ y. t y && f y) xs → list_any f (cond b (x ∷ filter t xs) (filter t xs)) ≡ ((b && f x) || list_any (λ y. t y && f y) xs)
    by true h = ap (λ b. f x || b) h
    by false h = h

any_flat : (g : ℕ → Bool) (t : Declared → Bool) (ds : List Declared)
    → list_any g (flat_map (λ (d : Declared). d.quants) (filter t ds)) ≡ list_any (λ (d : Declared). t d && list_any g d.quants) ds
any_flat g t [] = refl
any_flat g t (d ∷ ds) = by (t d) (any_flat g t ds)
  where
    by : (b : Bool) → list_any g (flat_map (λ (e : Declared). e.quants) (filter t ds)) ≡ list_any (λ (e : Declared). t e && list_any g e.quants) ds
        → list_any g (flat_map (λ (e : Declared). e.quants) (cond b (d ∷ filter t ds) (filter t ds))) ≡ ((b && list_any g d.quants) || list_any (λ (e : Declared). t e && list_any g e.quants) ds)
    by true h = list_any-append g d.quants (flat_map (λ (e : Declared). e.quants) (filter t ds)) ∙ ap (λ b. list_any g d.quants || b) h
    by false h = h

pub crossing_is : (f : ℕ → Bool) (body : Part) (around : List ℕ) (place : ℕ) (x : List ℕ) → list_any f (crossed body around place x) ≡ bars f around (may_name body place) x
crossing_is f body around place x =
    let quants = flat_map (λ (d : Declared). d.quants) (filter (λ (d : Declared). same_text x d.name) (may_name body place)) in
    any_once f (filter (λ q. not (is_number_among around q)) quants)
    ∙ any_filter f (λ q. not (is_number_among around q)) quants
    ∙ any_flat (λ q. not (is_number_among around q) && f q) (λ (d : Declared). same_text x d.name) (may_name body place)
