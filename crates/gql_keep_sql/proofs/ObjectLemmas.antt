-- The objects of a database: none, one or more.
use Rattle.std.proofs.Common.{◌≡◌, ◌<◌, ◌≤◌, false, List, [], ◌∷◌, length, arith, refl, sym, ap}
use Rattle.std.specs.Prelude.{slice_index_or}
use Rattle.sqlite.specs.declared.types.Value.{Value}
use Rattle.gql_keep_sql.specs.Established.{are_ours}

pub no_item : {X : Type 0} (xs : List X) → length xs < 1 → xs ≡ []
no_item [] none = refl
no_item (x ∷ xs) none = absurd (omega (arith, none))

pub one_item : {X : Type 0} (xs : List X) (x : X) → 1 ≤ length xs → length xs < 2 → x ≡ slice_index_or xs 0 x → xs ≡ x ∷ []
one_item [] x least most is = absurd (omega (arith, least))
one_item (y ∷ []) x least most is = ap (λ z. z ∷ []) (sym is)
one_item (y ∷ z ∷ xs) x least most is = absurd (omega (arith, most))

pub not_ours : (rows : List (List Value)) → 2 ≤ length rows → are_ours rows ≡ false
not_ours [] least = absurd (omega (arith, least))
not_ours (row ∷ []) least = absurd (omega (arith, least))
not_ours (row ∷ other ∷ more) least = refl
