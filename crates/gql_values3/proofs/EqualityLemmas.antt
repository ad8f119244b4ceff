-- The equality over the items of two lists.
use Rattle.std.proofs.Common.{◌≡◌, ◌≢◌, ℕ, ◌+◌, ◌<◌, List, [], ◌∷◌, length, map, drop, get_or, Option, Some, None, refl, ap, arith}
use Rattle.std.proofs.lemmas.Grind.{common_steps}
use Rattle.std.proofs.lemmas.Bool.Decides.{nat_tests}
use Rattle.gql_values3.specs.Datum.{Datum, data_of, items_of, list}
use Rattle.gql_values3.specs.Truth.{both}
use Rattle.gql_values3.specs.Comparison.{both_equalities, equality, items_equality}
use Rattle.gql_values3.specs.declared.truth.Truth.{Truth}
use Rattle.gql_values3.specs.declared.truth.Truth.TheVariants as truth

-- over the items from i on
abbrev pub equal_from : {A : Type 0} → (A → Datum) → List A → List A → ℕ → Option Truth
equal_from f xs ys i = items_equality (data_of (map f (drop i xs))) (data_of (map f (drop i ys)))

pub equal_step : {A : Type 0} (f : A → Datum) (xs ys : List A) (i : ℕ) (x y : A) → i < length xs → i < length ys → x ≡ get_or xs i x → y ≡ get_or ys i y
    → equal_from f xs ys i ≡ both_equalities (equality (f x) (f y)) (equal_from f xs ys (i + 1))
equal_step f xs ys i x y h k p q = grind (arith, common_steps)

pub both_assoc : (a b c : Truth) → both (both a b) c ≡ both a (both b c)
both_assoc truth.False b c = refl
both_assoc truth.True b c = refl
both_assoc truth.Unknown truth.False c = refl
both_assoc truth.Unknown truth.True c = refl
both_assoc truth.Unknown truth.Unknown truth.False = refl
both_assoc truth.Unknown truth.Unknown truth.Unknown = refl
both_assoc truth.Unknown truth.Unknown truth.True = refl

pub both_equalities_assoc : (a b : Truth) (c : Option Truth) → both_equalities (Some (both a b)) c ≡ both_equalities (Some a) (both_equalities (Some b) c)
both_equalities_assoc a b None = refl
both_equalities_assoc a b (Some c) = ap Some (both_assoc a b c)

pub both_equalities_true : (a : Option Truth) → both_equalities (Some truth.True) a ≡ a
both_equalities_true None = refl
both_equalities_true (Some a) = refl

pub items_of-data_of : (ds : List Datum) → items_of (data_of ds) ≡ ds
items_of-data_of [] = refl
items_of-data_of (d ∷ ds) = ap (λ es. d ∷ es) (items_of-data_of ds)

pub unequal_lists : (xs ys : List Datum) → length xs ≢ length ys → equality (list (data_of xs)) (list (data_of ys)) ≡ Some truth.False
unequal_lists xs ys h = rw (items_of-data_of xs, items_of-data_of ys) (grind (arith, nat_tests))

pub equal_lists : (xs ys : List Datum) → length xs ≡ length ys → equality (list (data_of xs)) (list (data_of ys)) ≡ items_equality (data_of xs) (data_of ys)
equal_lists xs ys h = rw (items_of-data_of xs, items_of-data_of ys) (grind (arith, nat_tests))
