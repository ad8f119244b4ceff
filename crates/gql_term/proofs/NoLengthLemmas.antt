-- What one walk tells of lengths is what the definitions say.
use mathlib.Core.Bool.{and_assoc, or_assoc}
use Rattle.std.proofs.Common.{◌≡◌, ℕ, zero, suc, ◌+◌, ◌*◌, min, Bool, false, ◌&&◌, ◌||◌, ◌==◌, List, [], ◌∷◌, length, map, Option, refl, sym, ap, ◌∙◌, arith}
use Rattle.std.proofs.Math.Bool.{and-true, or-false}
use Rattle.std.specs.List.{list_any, list_all}
use Rattle.std.proofs.lemmas.Bool.Decides.{nat_tests}
use Rattle.std.proofs.lemmas.List.{length-map}
use Rattle.gql_norm.specs.NormalPattern.{Part, Concat, Union, Alt, Quant, in_a_row, side_by_side, sides_of}
use Rattle.gql_norm.specs.NormalData.{part_data}
use Rattle.gql_norm.specs.declared.part.Part.{Part as CodePart}
use Rattle.gql_norm.specs.Termination.{least_length, least_length_beside, has_empty_loop, has_empty_loop_beside}
use Rattle.gql_term.specs.Machinery.NoLength.{has_no_length, lengths_of, list_lengths_of, row_lengths, side_lengths, told_lengths, repeated_lengths}
use Rattle.gql_term.specs.declared.lengths.Lengths.{Lengths}

-- a sum, a least and a product that are 0
sum_is_none : (m n : ℕ) → ((m + n) == 0) ≡ ((m == 0) && (n == 0))
sum_is_none zero n = grind (arith, nat_tests)
sum_is_none (suc m) n = grind (arith, nat_tests)

least_is_none : (m n : ℕ) → (min m n == 0) ≡ ((m == 0) || (n == 0))
least_is_none zero n = grind (arith, nat_tests)
least_is_none (suc m) zero = grind (arith, nat_tests)
least_is_none (suc m) (suc n) = grind (arith, nat_tests)

product_is_none : (m n : ℕ) → ((m * n) == 0) ≡ ((m == 0) || (n == 0))
product_is_none zero n = grind (arith, nat_tests)
product_is_none (suc m) zero = grind (arith, nat_tests)
product_is_none (suc m) (suc n) = grind (arith, nat_tests)

abbrev two_lengths : Bool → Bool → Lengths
two_lengths a b = record { may_be_none = a; has_empty_loop = b }

same_lengths : (a b c d : Bool) → a ≡ c → b ≡ d → two_lengths a b ≡ two_lengths c d
same_lengths a b c d h k = λ i. two_lengths (h i) (k i)

-- a row
row_is_none : (p : Part) (ps : List Part) → has_no_length (in_a_row p ps) ≡ (has_no_length p && list_all has_no_length ps)
unfolding least_length
row_is_none p [] = sym (and-true (has_no_length p))
row_is_none p (r ∷ rs) = sum_is_none (least_length p) (least_length (in_a_row r rs)) ∙ ap (λ b. has_no_length p && b) (row_is_none r rs)

row_has_loop : (p : Part) (ps : List Part) → has_empty_loop (in_a_row p ps) ≡ (has_empty_loop p || list_any has_empty_loop ps)
unfolding has_empty_loop
row_has_loop p [] = sym (or-false (has_empty_loop p))
row_has_loop p (r ∷ rs) = ap (λ b. has_empty_loop p || b) (row_has_loop r rs)

pub rows_are : (p r : Part) (rs : List Part) → row_lengths (lengths_of p) (lengths_of r) (list_lengths_of rs) ≡ lengths_of (Concat p (in_a_row r rs))
rows_are p r rs =
    same_lengths _ _ _ _
    (and_assoc (has_no_length p) (has_no_length r) (list_all has_no_length rs) ∙ sym (row_is_none p (r ∷ rs)))
    (or_assoc (has_empty_loop p) (has_empty_loop r) (list_any has_empty_loop rs) ∙ sym (row_has_loop p (r ∷ rs)))

-- parts beside each other
beside_is_none : (p : Part) (ps : List Part) → has_no_length (side_by_side p ps) ≡ (has_no_length p || list_any has_no_length ps)
unfolding least_length
beside_is_none p [] = sym (or-false (has_no_length p))
beside_is_none p (r ∷ rs) = least_is_none (least_length p) (least_length (side_by_side r rs)) ∙ ap (λ b. has_no_length p || b) (beside_is_none r rs)

beside_has_loop : (p : Part) (ps : List Part) → has_empty_loop (side_by_side p ps) ≡ (has_empty_loop p || list_any has_empty_loop ps)
unfolding has_empty_loop
beside_has_loop p [] = sym (or-false (has_empty_loop p))
beside_has_loop p (r ∷ rs) = ap (λ b. has_empty_loop p || b) (beside_has_loop r rs)

pub sides_are : (p r : Part) (rs : List Part) → side_lengths (lengths_of p) (lengths_of r) (list_lengths_of rs) ≡ lengths_of (Union p (side_by_side r rs))
sides_are p r rs =
    same_lengths _ _ _ _
    (or_assoc (has_no_length p) (has_no_length r) (list_any has_no_length rs) ∙ sym (beside_is_none p (r ∷ rs)))
    (or_assoc (has_empty_loop p) (has_empty_loop r) (list_any has_empty_loop rs) ∙ sym (beside_has_loop p (r ∷ rs)))

-- sides whose number is told
sides_are_none : (k : ℕ) (ps : List Part) → (least_length_beside k (sides_of ps) == 0) ≡ ((k == 0) || list_any has_no_length ps)
unfolding least_length
sides_are_none k [] = sym (or-false (k == 0))
sides_are_none k (p ∷ ps) = least_is_none k (least_length_beside (least_length p) (sides_of ps)) ∙ ap (λ b. (k == 0) || b) (sides_are_none (least_length p) ps)

is_some_side : (p : Part) (ps : List Part) → (length (p ∷ ps) == 0) ≡ false
is_some_side p ps = grind (arith, nat_tests)

told_is_none : (ps : List Part) → has_no_length (Alt (sides_of ps)) ≡ ((length ps == 0) || list_any has_no_length ps)
unfolding least_length
told_is_none [] = refl
told_is_none (p ∷ ps) = sides_are_none (least_length p) ps ∙ ap (λ b. b || list_any has_no_length (p ∷ ps)) (sym (is_some_side p ps))

sides_have_loop : (ps : List Part) → has_empty_loop_beside (sides_of ps) ≡ list_any has_empty_loop ps
unfolding has_empty_loop
sides_have_loop [] = refl
sides_have_loop (p ∷ ps) = ap (λ b. has_empty_loop p || b) (sides_have_loop ps)

told_has_loop : (ps : List Part) → has_empty_loop (Alt (sides_of ps)) ≡ list_any has_empty_loop ps
unfolding has_empty_loop
told_has_loop ps = sides_have_loop ps

told_all : (ps : List Part) → told_lengths (length ps == 0) (list_lengths_of ps) ≡ lengths_of (Alt (sides_of ps))
told_all ps = same_lengths _ _ _ _ (sym (told_is_none ps)) (sym (told_has_loop ps))

pub told_are : (sides : List CodePart) → told_lengths (length sides == 0) (list_lengths_of (map part_data sides)) ≡ lengths_of (Alt (sides_of (map part_data sides)))
told_are sides = ap (λ n. told_lengths (n == 0) (list_lengths_of (map part_data sides))) (sym (length-map sides part_data)) ∙ told_all (map part_data sides)

-- a quantifier
pub repeated_are : (p : Part) (l : ℕ) (n : Option ℕ) → repeated_lengths (lengths_of p) l ≡ lengths_of (Quant p l n)
unfolding least_length has_empty_loop
repeated_are p l n = same_lengths _ _ _ _ (sym (product_is_none l (least_length p))) refl
