-- The top of a stack, which is the last of its list.
use Rattle.std.proofs.Common.{◌≡◌, ◌-◌, Bool, List, [], ◌∷◌, ◌++◌, length, Some, slice_get, sym, ap, ◌∙◌, arith}
use Rattle.std.specs.Prelude.{unwrap_or}
use Rattle.gql_values3.specs.Datum.{Datum}
use Rattle.gql_eval.specs.Machinery.Turned.{turned}

some_same : (x y : Datum) → Some x ≡ Some y → x ≡ y
some_same x y p = ap (λ o. unwrap_or o x) p

at_end : (x : Datum) (xs : List Datum) → slice_get (x ∷ xs) (length (x ∷ xs) - 1) ≡ slice_get (x ∷ xs) (length xs)
at_end x xs = ap (λ k. slice_get (x ∷ xs) k) (omega arith)

top_at : (x : Datum) (xs : List Datum) (d : Datum) → Some d ≡ slice_get (x ∷ xs) (length xs) → (rest : List Datum) × (turned (λ (e : Datum). e) (x ∷ xs) ≡ d ∷ rest)
top_at x [] d e = ([], ap (λ z. z ∷ []) (sym (some_same d x e)))
top_at x (y ∷ ys) d e = let k = top_at y ys d e in (k.0 ++ x ∷ [], ap (λ zs. zs ++ x ∷ []) k.1)

-- what is asked of it
pub top_is : (asked : List Datum → Bool) (xs : List Datum) (d : Datum) → Some d ≡ slice_get xs (length xs - 1) → (rest : List Datum) × (asked (turned (λ (e : Datum). e) xs) ≡ asked (d ∷ rest))
top_is asked [] d e = absurd cc
top_is asked (x ∷ xs) d e = let k = top_at x xs d (e ∙ at_end x xs) in (k.0, ap asked k.1)
