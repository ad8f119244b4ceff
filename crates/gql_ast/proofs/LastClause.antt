-- The last clause of a query, by its place.
use Rattle.std.proofs.Common.{◌≡◌, ◌-◌, List, [], ◌∷◌, length, Some, slice_get, refl, sym, ap, ◌∙◌, arith}
use Rattle.std.specs.Prelude.{unwrap_or}
use Rattle.gql_ast.specs.declared.clause.Clause.{Clause}
use Rattle.gql_ast.specs.LastClause.{is_change, ends_in_change}

last_at : (c : Clause) (cs : List Clause) → (x : Clause) × (slice_get (c ∷ cs) (length cs) ≡ Some x) × (is_change x ≡ ends_in_change (c ∷ cs))
last_at c [] = (c, refl, refl)
last_at c (d ∷ ds) = last_at d ds

at_end : (c : Clause) (cs : List Clause) → slice_get (c ∷ cs) (length (c ∷ cs) - 1) ≡ slice_get (c ∷ cs) (length cs)
at_end c cs = ap (λ k. slice_get (c ∷ cs) k) (omega arith)

some_same : (x y : Clause) → Some x ≡ Some y → x ≡ y
some_same x y p = ap (λ o. unwrap_or o x) p

-- whether it is a change
pub last_is : (cs : List Clause) (c : Clause) → slice_get cs (length cs - 1) ≡ Some c → is_change c ≡ ends_in_change cs
last_is [] c e = absurd cc
last_is (x ∷ xs) c e =
    let k = last_at x xs in
    ap is_change (some_same c k.0 (sym e ∙ at_end x xs ∙ k.1)) ∙ k.2
