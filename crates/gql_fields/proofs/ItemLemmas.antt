-- Items one behind the other: what is read of them was spelled, and what was spelled is read, if that holds of each.
use Rattle.std.proofs.Common.{◌≡◌, ℕ, zero, suc, ◌^◌, ◌<◌, List, [], ◌∷◌, ◌++◌, length, Option, Some, refl, sym, ap, subst, ◌∙◌, append_assoc, arith}
use Rattle.std.specs.Int.{w64, to_be_bytes}
use Rattle.std.specs.List.{flat_map, AllByRecursion}
use Rattle.std.proofs.lemmas.List.Concat.{flat_map-cons}
use Rattle.gql_fields.specs.Machinery.Reading.{◌>>=◌, number_at, items_at, counted_at}
use Rattle.gql_fields.proofs.FieldLemmas.{IsBytes, Takes, Takes-then, bind_some, some_is, wide64, number_takes, number_again}

-- what is read at the front was spelled, and is kept
abbrev pub IsSpelled : {A : Type 0} → (A → List ℕ) → (A → Type 0) → (List ℕ → Option (A × List ℕ)) → Type 0
IsSpelled spell Kept read = (bytes : List ℕ) (x : _) → IsBytes bytes → read bytes ≡ Some x → Takes bytes (spell x.0) x.1 × Kept x.0

-- what is kept and was spelled is read, whatever stands behind it
abbrev pub IsReadAgain : {A : Type 0} → (A → List ℕ) → (A → Type 0) → (List ℕ → Option (A × List ℕ)) → Type 0
IsReadAgain spell Kept read = (a : _) (rest : List ℕ) → Kept a → read (spell a ++ rest) ≡ Some (a, rest)

abbrev AreTaken : {A : Type 0} → (A → List ℕ) → (A → Type 0) → ℕ → List ℕ → List A × List ℕ → Type 0
AreTaken spell Kept n bytes x = Takes bytes (flat_map spell x.0) x.1 × (length x.0 ≡ n) × AllByRecursion Kept x.0

-- items that are read were spelled
pub items_take : {A : Type 0} (spell : A → List ℕ) (Kept : A → Type 0) (read : List ℕ → Option (A × List ℕ)) → IsSpelled spell Kept read
    → (n : ℕ) (bytes : List ℕ) (x : List A × List ℕ) → IsBytes bytes → items_at read n bytes ≡ Some x → Takes bytes (flat_map spell x.0) x.1 × (length x.0 ≡ n) × AllByRecursion Kept x.0
unfolding items_at
items_take spell Kept read law zero bytes x fits e =
    subst (AreTaken spell Kept 0 bytes) (some_is ([], bytes) x e) (record { parts = refl; rest_fits = fits }, refl, tt)
items_take {A} spell Kept read law (suc n) bytes x fits e =
    let a = bind_some (read bytes) (λ first. items_at read n first.1 >>= λ others. Some (first.0 ∷ others.0, others.1)) x e in
    let b = bind_some (items_at read n a.0.1) (λ others. Some (a.0.0 ∷ others.0, others.1)) x a.2 in
    let first = law bytes a.0 fits a.1 in
    let second = items_take spell Kept read law n a.0.1 b.0 first.0.rest_fits b.1 in
    let both = Takes-then bytes (spell a.0.0) a.0.1 (flat_map spell b.0.0) b.0.1 first.0 second.0 in
    let made : List A × List ℕ = (a.0.0 ∷ b.0.0, b.0.1) in
    subst (AreTaken spell Kept (suc n) bytes) (some_is made x b.2) (rw flat_map-cons both, ap suc second.1, (first.1, second.2))

-- items that were spelled are read
pub items_again : {A : Type 0} (spell : A → List ℕ) (Kept : A → Type 0) (read : List ℕ → Option (A × List ℕ)) → IsReadAgain spell Kept read
    → (xs : List A) (rest : List ℕ) → AllByRecursion Kept xs → items_at read (length xs) (flat_map spell xs ++ rest) ≡ Some (xs, rest)
unfolding items_at
items_again spell Kept read law [] rest fits = refl
items_again spell Kept read law (a ∷ xs) rest fits =
    let regrouped : flat_map spell (a ∷ xs) ++ rest ≡ spell a ++ (flat_map spell xs ++ rest) = ap (λ (x : List ℕ). x ++ rest) (flat_map-cons spell a xs) ∙ append_assoc (spell a) (flat_map spell xs) rest in
    ap (items_at read (suc (length xs))) regrouped ∙ rw (law a (flat_map spell xs ++ rest) fits.0, items_again spell Kept read law xs rest fits.1) refl

-- items behind their count
abbrev pub counted_spelled : {A : Type 0} → (A → List ℕ) → List A → List ℕ
counted_spelled spell xs = to_be_bytes w64 (length xs) ++ flat_map spell xs

-- there are not too many, and each is kept
abbrev pub AreKept : {A : Type 0} → (A → Type 0) → List A → Type 0
AreKept Kept xs = (length xs < 2 ^ 64) × AllByRecursion Kept xs

pub counted_takes : {A : Type 0} (spell : A → List ℕ) (Kept : A → Type 0) (read : List ℕ → Option (A × List ℕ)) → IsSpelled spell Kept read → IsSpelled (counted_spelled spell) (AreKept Kept) (counted_at read)
counted_takes spell Kept read law bytes x fits e =
    let a = bind_some (number_at w64 bytes) (λ n. items_at read n.0 n.1) x e in
    let first = number_takes w64 (2 ^ 64) wide64 bytes a.0.0 a.0.1 fits a.1 in
    let second = items_take spell Kept read law a.0.0 a.0.1 x first.0.rest_fits a.2 in
    let both = Takes-then bytes (to_be_bytes w64 a.0.0) a.0.1 (flat_map spell x.0) x.1 first.0 second.0 in
    (subst (λ (k : ℕ). Takes bytes (to_be_bytes w64 k ++ flat_map spell x.0) x.1) (sym second.1) both, (omega (arith, second.1, first.1), second.2))

pub counted_again : {A : Type 0} (spell : A → List ℕ) (Kept : A → Type 0) (read : List ℕ → Option (A × List ℕ)) → IsReadAgain spell Kept read → IsReadAgain (counted_spelled spell) (AreKept Kept) (counted_at read)
counted_again spell Kept read law xs rest fits =
    let regrouped : counted_spelled spell xs ++ rest ≡ to_be_bytes w64 (length xs) ++ (flat_map spell xs ++ rest) = append_assoc (to_be_bytes w64 (length xs)) (flat_map spell xs) rest in
    ap (counted_at read) regrouped ∙ rw (number_again w64 (2 ^ 64) wide64 (length xs) (flat_map spell xs ++ rest) fits.0) (items_again spell Kept read law xs rest fits.1)
