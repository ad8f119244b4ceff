-- Names in order by bytes: two lists of them are one set exactly where they are the same from the left.
use Rattle.std.proofs.Common.{◌≡◌, ◌≢◌, ℕ, suc, Bool, true, false, ◌&&◌, ◌||◌, List, [], ◌∷◌, length, refl, sym, ap, ◌∙◌}
use Rattle.std.proofs.Math.Bool.{and-false}
use Rattle.std.specs.List.{list_all}
use Rattle.std.specs.declared.cmp.Ordering.{Ordering}
use Rattle.std.specs.declared.cmp.Ordering.TheVariants.{Less, Equal, Greater}
use Rattle.std.proofs.lemmas.Map.Lookups.{exact_bytes}
use Rattle.gql_values3.specs.Texts.{same_text, ascend_above, texts_ascend}
use Rattle.gql_type.specs.Conformance.{contains_name, same_set}
use Rattle.gql_type.specs.Machinery.InOrder.{same_names}
use Rattle.gql_graph.proofs.AscendingTexts.{text_cmp, first_above, lower, above_rest, above_ascends, turned, apart, apart_turned, tied}

pub same_names-lengths : (xs ys : List (List ℕ)) → length xs ≢ length ys → false ≡ same_names xs ys
same_names-lengths [] [] h = absurd (h refl)
same_names-lengths [] (y ∷ ys) h = refl
same_names-lengths (x ∷ xs) [] h = refl
same_names-lengths (x ∷ xs) (y ∷ ys) h = both_fail (same_text x y) (same_names xs ys) (same_names-lengths xs ys (λ e. h (ap suc e)))
  where
    both_fail : (a b : Bool) → false ≡ b → false ≡ (a && b)
    both_fail true b e = e
    both_fail false b e = refl

-- a text below all of a list is not in it
pub is_below : (a : List ℕ) (ks : List (List ℕ)) → ascend_above a ks ≡ true → contains_name ks a ≡ false
is_below a [] h = refl
is_below a (k ∷ ks) h = λ i. apart a k (first_above a k ks h) i || is_below a ks (above_rest a k ks h) i

-- a text below all of the names plays no part in whether each is in the list
pub head_apart : (a : List ℕ) (ks js : List (List ℕ)) → ascend_above a js ≡ true → list_all (contains_name (a ∷ ks)) js ≡ list_all (contains_name ks) js
head_apart a ks [] h = refl
head_apart a ks (j ∷ js) h = λ i. (apart_turned a j (first_above a j js h) i || contains_name ks j) && head_apart a ks js (above_rest a j js h) i

set_case : (o : Ordering) (x y : List ℕ) (xs ys : List (List ℕ)) → text_cmp x y ≡ o → ascend_above x xs ≡ true → ascend_above y ys ≡ true
    → same_names xs ys ≡ same_set xs ys → same_names (x ∷ xs) (y ∷ ys) ≡ same_set (x ∷ xs) (y ∷ ys)
set_case Less x y xs ys p h k more =
    let none : contains_name (y ∷ ys) x ≡ false = λ i. apart x y p i || is_below x ys (lower x y ys p k) i in
    let left : same_names (x ∷ xs) (y ∷ ys) ≡ false = ap (λ (b : Bool). b && same_names xs ys) (apart x y p) in
    let right : same_set (x ∷ xs) (y ∷ ys) ≡ false = ap (λ (b : Bool). (b && list_all (contains_name (y ∷ ys)) xs) && list_all (contains_name (x ∷ xs)) (y ∷ ys)) none in
    left ∙ sym right
set_case Greater x y xs ys p h k more =
    let q : text_cmp y x ≡ Less = turned x y p in
    let none : contains_name (x ∷ xs) y ≡ false = λ i. apart y x q i || is_below y xs (lower y x xs q h) i in
    let left : same_names (x ∷ xs) (y ∷ ys) ≡ false = ap (λ (b : Bool). b && same_names xs ys) (apart_turned y x q) in
    let right : same_set (x ∷ xs) (y ∷ ys) ≡ false = ap (λ (b : Bool). list_all (contains_name (y ∷ ys)) (x ∷ xs) && (b && list_all (contains_name (x ∷ xs)) ys)) none ∙ and-false (list_all (contains_name (y ∷ ys)) (x ∷ xs)) in
    left ∙ sym right
set_case Equal x y xs ys p h k more =
    let e : x ≡ y = exact_bytes x y p in
    let left : same_names (x ∷ xs) (y ∷ ys) ≡ same_set xs ys = ap (λ (b : Bool). b && same_names xs ys) (tied x y p) ∙ more in
    let one : list_all (contains_name (y ∷ ys)) (x ∷ xs) ≡ list_all (contains_name ys) xs =
    ap (λ (b : Bool). (b || contains_name ys x) && list_all (contains_name (y ∷ ys)) xs) (tied x y p) ∙ head_apart y ys xs (ap (λ (z : List ℕ). ascend_above z xs) (sym e) ∙ h) in
    let other : list_all (contains_name (x ∷ xs)) (y ∷ ys) ≡ list_all (contains_name xs) ys =
    ap (λ (b : Bool). (b || contains_name xs y) && list_all (contains_name (x ∷ xs)) ys) (tied y x (ap (λ (z : List ℕ). text_cmp z x) (sym e) ∙ ap (text_cmp x) e ∙ p)) ∙ head_apart x xs ys (ap (λ (z : List ℕ). ascend_above z ys) e ∙ k) in
    left ∙ λ i. sym one i && sym other i

pub same_names-in_order : (xs ys : List (List ℕ)) → texts_ascend xs ≡ true → texts_ascend ys ≡ true → same_names xs ys ≡ same_set xs ys
same_names-in_order [] [] h k = refl
same_names-in_order [] (y ∷ ys) h k = refl
same_names-in_order (x ∷ xs) [] h k = refl
same_names-in_order (x ∷ xs) (y ∷ ys) h k =
    set_case (text_cmp x y) x y xs ys refl h k (same_names-in_order xs ys (above_ascends x xs h) (above_ascends y ys k))
