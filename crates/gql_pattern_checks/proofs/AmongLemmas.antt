-- When a name is among others, and what holds of all names of an expression.
use Rattle.std.proofs.Common.{◌≡◌, ℕ, Bool, true, false, cond, ◌||◌, List, [], ◌∷◌, ◌++◌, filter, refl, sym, true≢false}
use Rattle.std.proofs.lemmas.Bool.{or_right, or_left}
use Rattle.gql_values3.specs.Texts.{same_text}
use Rattle.gql_expr_checks.specs.Repeated.{is_among}
use Rattle.gql_expr_checks.proofs.KnowingLemmas.{same_text-refl}

or_mono : (b c d : Bool) → (c ≡ true → d ≡ true) → (b || c) ≡ true → (b || d) ≡ true
or_mono true c d f h = refl
or_mono false c d f h = f h

pub here : (x : List ℕ) (xs : List (List ℕ)) → is_among (x ∷ xs) x ≡ true
here x xs = or_left (same_text x x) (is_among xs x) (same_text-refl x)

pub in_left : (xs ys : List (List ℕ)) (x : List ℕ) → is_among xs x ≡ true → is_among (xs ++ ys) x ≡ true
in_left [] ys x h = absurd (true≢false (sym h))
in_left (y ∷ xs) ys x h = or_mono (same_text x y) (is_among xs x) (is_among (xs ++ ys) x) (in_left xs ys x) h

pub in_right : (xs ys : List (List ℕ)) (x : List ℕ) → is_among ys x ≡ true → is_among (xs ++ ys) x ≡ true
in_right [] ys x h = h
in_right (y ∷ xs) ys x h = or_right (same_text x y) (is_among (xs ++ ys) x) (in_right xs ys x h)

-- two tests that agree on all of a list keep the same of it
pub filter_alike : (f g : List ℕ → Bool) (xs : List (List ℕ)) → ((x : List ℕ) → is_among xs x ≡ true → f x ≡ g x) → filter f xs ≡ filter g xs
filter_alike f g [] h = refl
filter_alike f g (x ∷ xs) h =
    (λ i. cond (h x (here x xs) i)
    (x ∷ filter_alike f g xs (λ y m. h y (or_right (same_text y x) (is_among xs y) m)) i)
    (filter_alike f g xs (λ y m. h y (or_right (same_text y x) (is_among xs y) m)) i))
