-- The names of a set, by its keys.
use Rattle.std.proofs.Common.{◌≡◌, ℕ, zero, suc, Bool, true, false, ◌||◌, List, [], ◌∷◌, ◌++◌, map, take, refl, sym, ap, ◌∙◌}
use Rattle.std.specs.List.{list_any}
use Rattle.std.specs.Prelude.{if◌then◌else◌}
use Rattle.std.specs.Str.{bytes_eq}
use Rattle.std.specs.declared.string.String.{String}
use Rattle.std.specs.String.{string_bytes, string_eq}
use Rattle.std.proofs.lemmas.List.{map-append}
use Rattle.std.proofs.lemmas.List.Folds.{list_any-append}
use Rattle.indexmap.specs.IndexSet.{insert_key}
use Rattle.gql_values3.specs.Texts.{same_text}
use Rattle.gql_values3.proofs.WordLemmas.{same_is}
use Rattle.gql_expr_checks.specs.Repeated.{is_among}
use Rattle.gql_expr_checks.specs.Machinery.NameList.{with_name}

pub among_keys : {Y : Type 0} (x : List ℕ) (ks : List (String Y)) → list_any (λ k. bytes_eq x (string_bytes k)) ks ≡ is_among (map string_bytes ks) x
among_keys x [] = refl
among_keys x (k ∷ ks) = ap (λ b. bytes_eq x (string_bytes k) || b) (among_keys x ks)

pub take_keys : {Y : Type 0} (n : ℕ) (ks : List (String Y)) → map string_bytes (take n ks) ≡ take n (map string_bytes ks)
take_keys zero [] = refl
take_keys zero (k ∷ ks) = refl
take_keys (suc n) [] = refl
take_keys (suc n) (k ∷ ks) = ap (λ xs. string_bytes k ∷ xs) (take_keys n ks)

pub inserted_key : {Y : Type 0} (ks : List (String Y)) (k : String Y) → map string_bytes (insert_key string_eq ks k) ≡ with_name (map string_bytes ks) (string_bytes k)
inserted_key ks k = by (list_any (string_eq k) ks) ∙ ap (λ b. if b then map string_bytes ks else map string_bytes ks ++ string_bytes k ∷ []) (among_keys (string_bytes k) ks)
  where
    by : (b : Bool) → map string_bytes (if b then ks else ks ++ k ∷ []) ≡ (if b then map string_bytes ks else map string_bytes ks ++ string_bytes k ∷ [])
    by true = refl
    by false = map-append string_bytes ks (k ∷ [])

-- a name that is there stays there
pub with_known : (names : List (List ℕ)) (x : List ℕ) → is_among names x ≡ true → names ≡ with_name names x
with_known names x h = sym (ap (λ b. if b then names else names ++ x ∷ []) h)

-- a name that is there twice is there as it was
there_already : (same : Bool) (names : List (List ℕ)) (k x : List ℕ) → same_text x k ≡ same → is_among names k ≡ true → is_among names x ≡ (same || is_among names x)
there_already true names k x same there = ap (is_among names) (same_is x k same) ∙ there
there_already false names k x same there = refl

put_behind : (a b : Bool) → (b || (a || false)) ≡ (a || b)
put_behind true true = refl
put_behind true false = refl
put_behind false true = refl
put_behind false false = refl

-- the names that are there behind one more
pub among_with : (names : List (List ℕ)) (k x : List ℕ) → is_among (with_name names k) x ≡ is_among (k ∷ names) x
among_with names k x = by (is_among names k) refl
  where
    by : (b : Bool) → is_among names k ≡ b → is_among (if b then names else names ++ k ∷ []) x ≡ (same_text x k || is_among names x)
    by true there = there_already (same_text x k) names k x refl there
    by false there = list_any-append (same_text x) names (k ∷ []) ∙ put_behind (same_text x k) (is_among names x)
