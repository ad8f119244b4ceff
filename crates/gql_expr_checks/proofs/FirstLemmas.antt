-- The first of two lists, and of those that pass a test.
use Rattle.std.proofs.Common.{◌≡◌, ℕ, Bool, true, false, not, ◌&&◌, ◌||◌, cond, List, [], ◌∷◌, ◌++◌, Option, Some, None, is_some, filter, refl, sym, ap, ◌∙◌}
use Rattle.std.specs.Prelude.{find, option_map}
use Rattle.std.specs.List.{list_any}
use Rattle.std.specs.Option.{option_or}
use Rattle.gql_values3.specs.Datum.{Datum}
use Rattle.gql_values3.specs.Texts.{same_text}
use Rattle.gql_expr_checks.specs.ExprParameters.{unset, is_set}
use Rattle.gql_ast.specs.RowAggregates.{RowAggregate}
use Rattle.gql_ast.specs.Projections.{has_none}
use Rattle.gql_expr_checks.specs.ExprMisuses.{are_two}
use Rattle.gql_expr_checks.specs.First.{first}
use Rattle.gql_expr_checks.proofs.KnowingLemmas.{same_text-refl}

pub first_in_two : {A : Type 0} (xs ys : List A) → first (xs ++ ys) ≡ option_or (first xs) (first ys)
first_in_two [] ys = refl
first_in_two (x ∷ xs) ys = refl

pub first-filter : {A : Type 0} (p : A → Bool) (xs : List A) → first (filter p xs) ≡ find p xs
first-filter p [] = refl
first-filter p (x ∷ xs) = by (p x) (first-filter p xs)
  where
    by : (b : Bool) → first (filter p xs) ≡ find p xs → first (cond b (x ∷ filter p xs) (filter p xs)) ≡ cond b (Some x) (find p xs)
    by true h = refl
    by false h = h

pub is_some-find : {A : Type 0} (p : A → Bool) (xs : List A) → is_some (find p xs) ≡ list_any p xs
is_some-find p [] = refl
is_some-find p (x ∷ xs) = by (p x) (is_some-find p xs)
  where
    by : (b : Bool) → is_some (find p xs) ≡ list_any p xs → is_some (cond b (Some x) (find p xs)) ≡ (b || list_any p xs)
    by true h = refl
    by false h = h

pub unset_in_two : (params : List (List ℕ × Datum)) (xs ys : List (List ℕ)) → first (unset params (xs ++ ys)) ≡ option_or (first (unset params xs)) (first (unset params ys))
unset_in_two params [] ys = refl
unset_in_two params (x ∷ xs) ys = by (not (is_set params x)) (unset_in_two params xs ys)
  where
    by : (b : Bool) → first (unset params (xs ++ ys)) ≡ option_or (first (unset params xs)) (first (unset params ys))
        → first (cond b (x ∷ unset params (xs ++ ys)) (unset params (xs ++ ys))) ≡ option_or (first (cond b (x ∷ unset params xs) (unset params xs))) (first (unset params ys))
    by true h = refl
    by false h = h

pub some_in_two : (xs ys : List RowAggregate) → not (has_none (xs ++ ys)) ≡ (not (has_none xs) || not (has_none ys))
some_in_two [] ys = refl
some_in_two (x ∷ xs) ys = refl

-- a test that holds of some of those that pass another
pub any_of_passing : {A : Type 0} (p q : A → Bool) (xs : List A) → list_any q (filter p xs) ≡ is_some (find (λ x. p x && q x) xs)
any_of_passing p q [] = refl
any_of_passing p q (x ∷ xs) = by (p x) (any_of_passing p q xs)
  where
    passes : (c : Bool) → list_any q (filter p xs) ≡ is_some (find (λ x. p x && q x) xs)
        → (c || list_any q (filter p xs)) ≡ is_some (cond c (Some x) (find (λ x. p x && q x) xs))
    passes true h = refl
    passes false h = h

    by : (b : Bool) → list_any q (filter p xs) ≡ is_some (find (λ x. p x && q x) xs)
        → list_any q (cond b (x ∷ filter p xs) (filter p xs)) ≡ is_some (cond (b && q x) (Some x) (find (λ x. p x && q x) xs))
    by true h = passes (q x) h
    by false h = h

-- where the first of those that pass isn't there, none passes
pub none_passes : {A : Type 0} (p : A → Bool) (xs : List A) → find p xs ≡ None → filter p xs ≡ []
none_passes p xs h = by (filter p xs) (first-filter p xs ∙ h)
  where
    by : {A : Type 0} (ys : List A) → first ys ≡ None → ys ≡ []
    by [] h = refl
    by (y ∷ ys) h = cc

-- two different ones pass exactly where one passes that is not the first
pub are_two-filter : (p : List ℕ → Bool) (xs : List (List ℕ)) (x : List ℕ) → find p xs ≡ Some x
    → are_two (filter p xs) ≡ is_some (find (λ y. p y && not (same_text x y)) xs)
are_two-filter p xs x h = by (filter p xs) refl ∙ any_of_passing p (λ y. not (same_text x y)) xs
  where
    by : (ys : List (List ℕ)) → filter p xs ≡ ys → are_two (filter p xs) ≡ list_any (λ y. not (same_text x y)) (filter p xs)
    by [] e = ap are_two e ∙ sym (ap (list_any (λ y. not (same_text x y))) e)
    by (y ∷ ys) e =
        let same : Some y ≡ Some x = sym (ap first e) ∙ first-filter p xs ∙ h in
        let one : y ≡ x = cc in
        ap are_two e ∙ ap (λ z. list_any (λ w. not (same_text z w)) ys) one
        ∙ sym (ap (list_any (λ w. not (same_text x w))) e ∙ ap (λ z. not (same_text x z) || list_any (λ w. not (same_text x w)) ys) one
        ∙ ap (λ b. not b || list_any (λ w. not (same_text x w)) ys) (same_text-refl x))

-- the first of two tests decides where it holds, and else the second
pub or_first : (a b s : Bool) → a ≡ true → s ≡ (a || b) → a ≡ s
or_first a b s h p = h ∙ sym (p ∙ ap (λ z. z || b) h)

pub or_second : (a b s : Bool) → a ≡ false → s ≡ (a || b) → b ≡ s
or_second a b s h p = sym (p ∙ ap (λ z. z || b) h)

-- a parameter is set exactly where it has a value
pub is_some-value : (params : List (List ℕ × Datum)) (p : List ℕ) → is_some (option_map (λ (q : List ℕ × Datum). q.1) (find (λ q. same_text p q.0) params)) ≡ is_set params p
is_some-value params p = kept (find (λ q. same_text p q.0) params) ∙ is_some-find (λ (q : List ℕ × Datum). same_text p q.0) params
  where
    kept : (o : Option (List ℕ × Datum)) → is_some (option_map (λ (q : List ℕ × Datum). q.1) o) ≡ is_some o
    kept None = refl
    kept (Some q) = refl
