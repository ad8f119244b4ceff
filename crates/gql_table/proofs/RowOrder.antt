-- Rows in the order of their values: what the order doesn't tell apart is the same row.
use Rattle.std.proofs.Common.{◌≡◌, true, List, [], ◌∷◌, ◌∙◌, refl, ap}
use Rattle.std.specs.Prelude.{◌&&◌}
use Rattle.std.specs.declared.cmp.Ordering.{Ordering}
use Rattle.std.specs.declared.cmp.Ordering.TheVariants.{Less, Equal, Greater}
use Rattle.std.specs.Ordering.{ordering_then, is_eq}
use Rattle.std.specs.Cmp.Lexicographic.{slice_cmp}
use Rattle.std.proofs.lemmas.Cmp.{tied_itself}
use Rattle.std.proofs.lemmas.Bool.{and_parts}
use Rattle.gql_values3.specs.Datum.{Datum}
use Rattle.gql_values3.specs.ValueOrder.{datum_cmp}
use Rattle.gql_values3.proofs.OrderLaws.{datum_cmp_total, exact_datum}
use Rattle.gql_table.specs.Distinct.{same_row}

both_equal : (o p : Ordering) → is_eq (ordering_then o p) ≡ (is_eq o && is_eq p)
both_equal Less p = refl
both_equal Equal p = refl
both_equal Greater p = refl

-- the test of equal rows is that of the order
pub same_row_is : (a b : List Datum) → is_eq (slice_cmp datum_cmp a b) ≡ same_row a b
same_row_is [] [] = refl
same_row_is [] (y ∷ ys) = refl
same_row_is (x ∷ xs) [] = refl
same_row_is (x ∷ xs) (y ∷ ys) = both_equal (datum_cmp x y) (slice_cmp datum_cmp xs ys) ∙ ap (λ b. is_eq (datum_cmp x y) && b) (same_row_is xs ys)

equal_if : (o : Ordering) → is_eq o ≡ true → o ≡ Equal
equal_if Less p = cc
equal_if Equal p = refl
equal_if Greater p = cc

pub same_row_exact : (a b : List Datum) → same_row a b ≡ true → a ≡ b
same_row_exact [] [] p = refl
same_row_exact [] (y ∷ ys) p = absurd (cc)
same_row_exact (x ∷ xs) [] p = absurd (cc)
same_row_exact (x ∷ xs) (y ∷ ys) p =
    let head : x ≡ y = exact_datum x y (equal_if (datum_cmp x y) (and_parts (is_eq (datum_cmp x y)) (same_row xs ys) p).0) in
    let rest : xs ≡ ys = same_row_exact xs ys (and_parts (is_eq (datum_cmp x y)) (same_row xs ys) p).1 in
    λ i. head i ∷ rest i

pub same_row_itself : (a : List Datum) → same_row a a ≡ true
same_row_itself [] = refl
same_row_itself (x ∷ xs) = (λ i. is_eq (tied_itself datum_cmp_total x i) && same_row xs xs) ∙ same_row_itself xs
