-- A text's place among texts in order, and what is put there.
use Rattle.std.proofs.Common.{◌≡◌, ℕ, Bool, true, false, cond, not, List, [], ◌∷◌, map, drop, refl, ap, Result, Ok, Err}
use Rattle.std.specs.Prelude.{filter}
use Rattle.std.specs.declared.cmp.Ordering.{Ordering}
use Rattle.std.specs.declared.cmp.Ordering.TheVariants.{Less, Equal, Greater}
use Rattle.std.specs.Ordering.{nat_cmp}
use Rattle.std.specs.Cmp.Lexicographic.{slice_cmp}
use Rattle.gql_values3.specs.Datum.{Datum}
use Rattle.gql_values3.specs.Meaning.{datum_of}
use Rattle.gql_values3.specs.Texts.{same_text}
use Rattle.gql_values3.specs.declared.value.Value.{Value}
use Rattle.gql_change.specs.Storing.{PropertyList, by_order, put_property, without_property, put_label}
use Rattle.gql_change.specs.Machinery.Places.{further, one_further, place_in_order, put_at, joined_at}

-- what a pair of the code means
abbrev pub shown : List ℕ × Value → List ℕ × Datum
shown p = (p.0, datum_of p.1)

abbrev pub name_of : {B : Type 0} → List ℕ × B → List ℕ
name_of p = p.0

put_case : (o : Ordering) (r : Result ℕ ℕ) (x : List ℕ) (v : Value) (p : List ℕ × Value) (ps : List (List ℕ × Value)) (rest : PropertyList)
    → map shown (put_at r (x, v) ps) ≡ rest
    → map shown (put_at (by_order o (Err 0) (Ok 0) (one_further r)) (x, v) (p ∷ ps)) ≡ by_order o ((x, datum_of v) ∷ shown p ∷ map shown ps) ((x, datum_of v) ∷ map shown ps) (shown p ∷ rest)
put_case Less r x v p ps rest h = refl
put_case Equal r x v p ps rest h = refl
put_case Greater (Ok i) x v p ps rest h = ap (λ qs. shown p ∷ qs) h
put_case Greater (Err i) x v p ps rest h = ap (λ qs. shown p ∷ qs) h

pub put_shown : (x : List ℕ) (v : Value) (ps : List (List ℕ × Value))
    → map shown (put_at (place_in_order x (map name_of ps)) (x, v) ps) ≡ put_property x (datum_of v) (map shown ps)
put_shown x v [] = refl
put_shown x v (p ∷ ps) =
    put_case (slice_cmp nat_cmp x p.0) (place_in_order x (map name_of ps)) x v p ps (put_property x (datum_of v) (map shown ps)) (put_shown x v ps)

joined_case : (o : Ordering) (r : Result ℕ ℕ) (l k : List ℕ) (ks rest : List (List ℕ)) → joined_at r l ks ≡ rest
    → joined_at (by_order o (Err 0) (Ok 0) (one_further r)) l (k ∷ ks) ≡ by_order o (l ∷ k ∷ ks) (k ∷ ks) (k ∷ rest)
joined_case Less r l k ks rest h = refl
joined_case Equal r l k ks rest h = refl
joined_case Greater (Ok i) l k ks rest h = ap (λ ls. k ∷ ls) h
joined_case Greater (Err i) l k ks rest h = ap (λ ls. k ∷ ls) h

pub label_joined : (l : List ℕ) (ks : List (List ℕ)) → joined_at (place_in_order l ks) l ks ≡ put_label l ks
label_joined l [] = refl
label_joined l (k ∷ ks) = joined_case (slice_cmp nat_cmp l k) (place_in_order l ks) l k ks (put_label l ks) (label_joined l ks)

-- the place, as far as a loop has come
abbrev pub place_from : {A : Type 0} → (A → List ℕ) → List ℕ → List A → ℕ → Result ℕ ℕ
place_from key x xs i = further i (place_in_order x (map key (drop i xs)))

kept_or_not : (b : Bool) (p : List ℕ × Value) (ps : List (List ℕ × Value)) (qs : PropertyList) → map shown ps ≡ qs
    → map shown (cond b (p ∷ ps) ps) ≡ cond b (shown p ∷ qs) qs
kept_or_not true p ps qs h = ap (λ rs. shown p ∷ rs) h
kept_or_not false p ps qs h = h

pub without_shown : (x : List ℕ) (ps : List (List ℕ × Value)) → map shown (filter (λ (p : List ℕ × Value). not (same_text x p.0)) ps) ≡ without_property x (map shown ps)
without_shown x [] = refl
without_shown x (p ∷ ps) =
    kept_or_not (not (same_text x p.0)) p (filter (λ (q : List ℕ × Value). not (same_text x q.0)) ps) (without_property x (map shown ps)) (without_shown x ps)
