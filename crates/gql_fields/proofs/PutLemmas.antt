-- Items that are written one behind the other, as a loop does.
use Rattle.std.proofs.Common.{◌≡◌, ℕ, ◌+◌, ◌<◌, ◌≤◌, List, [], ◌∷◌, ◌++◌, map, length, get_or, take, refl, sym, ap, subst, ◌∙◌, append_assoc}
use Rattle.std.specs.Prelude.{Result, Ok, Err, OnOk}
use Rattle.std.specs.Int.{w64, to_be_bytes}
use Rattle.std.specs.List.{flat_map, AllByRecursion}
use Rattle.std.proofs.lemmas.List.{take_more, take_all, append-nil}
use Rattle.std.proofs.lemmas.List.Concat.{flat_map-append, flat_map-cons}
use Rattle.gql_fields.proofs.ItemLemmas.{counted_spelled}

-- a predicate of one more item
pub all_more : {A : Type 0} (P : A → Type 0) (xs : List A) (x : A) → AllByRecursion P xs → P x → AllByRecursion P (xs ++ x ∷ [])
all_more P [] x h last = (last, tt)
all_more P (y ∷ ys) x h last = (h.0, all_more P ys x h.1 last)

taken_more : {A : Type 0} (xs : List A) (i : ℕ) (x : A) → i < length xs → x ≡ get_or xs i x → take (i + 1) xs ≡ take i xs ++ x ∷ []
taken_more {A} xs i x lt is = take_more xs i x lt ∙ ap (λ (y : A). take i xs ++ y ∷ []) (sym is)

-- the same of the items so far
pub kept_more : {A : Type 0} (P : A → Type 0) (xs : List A) (i : ℕ) (x : A) → i < length xs → x ≡ get_or xs i x → AllByRecursion P (take i xs) → P x → AllByRecursion P (take (i + 1) xs)
kept_more P xs i x lt is h last = subst (AllByRecursion P) (sym (taken_more xs i x lt is)) (all_more P (take i xs) x h last)

-- of all of them
pub kept_all : {A : Type 0} (P : A → Type 0) (xs : List A) (i : ℕ) → length xs ≤ i → AllByRecursion P (take i xs) → AllByRecursion P xs
kept_all P xs i le h = subst (AllByRecursion P) (take_all i xs le) h

-- what is written with one more item
pub put_more : {A : Type 0} (spell : A → List ℕ) (before now : List ℕ) (xs : List A) (i : ℕ) (x : A) → i < length xs → x ≡ get_or xs i x → now ≡ before ++ flat_map spell (take i xs) → now ++ spell x ≡ before ++ flat_map spell (take (i + 1) xs)
put_more spell before now xs i x lt is so_far =
    let one : flat_map spell (x ∷ []) ≡ spell x = flat_map-cons spell x [] ∙ append-nil (spell x) in
    let more : flat_map spell (take (i + 1) xs) ≡ flat_map spell (take i xs) ++ spell x = ap (flat_map spell) (taken_more xs i x lt is) ∙ flat_map-append spell (take i xs) (x ∷ []) ∙ ap (λ (bytes : List ℕ). flat_map spell (take i xs) ++ bytes) one in
    ap (λ (bytes : List ℕ). bytes ++ spell x) so_far ∙ append_assoc before (flat_map spell (take i xs)) (spell x) ∙ ap (λ (bytes : List ℕ). before ++ bytes) (sym more)

-- with all of them
pub put_all : {A : Type 0} (spell : A → List ℕ) (before now : List ℕ) (xs : List A) (i : ℕ) → length xs ≤ i → now ≡ before ++ flat_map spell (take i xs) → now ≡ before ++ flat_map spell xs
put_all {A} spell before now xs i le so_far = so_far ∙ ap (λ (ys : List A). before ++ flat_map spell ys) (take_all i xs le)

-- with none
pub put_none : {A : Type 0} (spell : A → List ℕ) (before : List ℕ) (xs : List A) → before ≡ before ++ flat_map spell (take 0 xs)
put_none spell before xs = sym (append-nil before)

-- items by what they mean
pub flat_map-map : {A B : Type 0} (view : A → B) (spell : B → List ℕ) (xs : List A) → flat_map spell (map view xs) ≡ flat_map (λ x. spell (view x)) xs
flat_map-map view spell [] = refl
flat_map-map {A} view spell (x ∷ xs) =
    flat_map-cons spell (view x) (map view xs) ∙ ap (λ (bytes : List ℕ). spell (view x) ++ bytes) (flat_map-map view spell xs) ∙ sym (flat_map-cons (λ (y : A). spell (view y)) x xs)

pub all_map : {A B : Type 0} (view : A → B) (P : B → Type 0) (xs : List A) → AllByRecursion (λ x. P (view x)) xs → AllByRecursion P (map view xs)
all_map view P [] h = tt
all_map view P (x ∷ xs) h = (h.0, all_map view P xs h.1)

-- what follows of what holds behind an Ok
pub on_ok : {X E : Type 0} {P Q : Type 0} (r : Result X E) → (P → Q) → OnOk r P → OnOk r Q
on_ok (Ok x) f h = f h
on_ok (Err e) f h = tt

-- a count, and then items by what they mean
pub counted_written : {A B : Type 0} (view : A → B) (spell : B → List ℕ) (before mid after : List ℕ) (len : ℕ) (xs : List A) (ys : List B) → map view xs ≡ ys → len ≡ length ys
    → mid ≡ before ++ to_be_bytes w64 len → after ≡ mid ++ flat_map (λ x. spell (view x)) xs → after ≡ before ++ counted_spelled spell ys
counted_written {A} view spell before mid after len xs ys e many first second =
    let tail : flat_map (λ (x : A). spell (view x)) xs ≡ flat_map spell ys = sym (flat_map-map view spell xs) ∙ ap (flat_map spell) e in
    second ∙ ap (λ (bytes : List ℕ). bytes ++ flat_map (λ (x : A). spell (view x)) xs) first ∙ append_assoc before (to_be_bytes w64 len) (flat_map (λ (x : A). spell (view x)) xs)
    ∙ (λ i. before ++ (to_be_bytes w64 (many i) ++ tail i))
