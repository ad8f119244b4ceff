-- The items of a list's data.
use Rattle.std.proofs.Common.{◌≡◌, List, [], ◌∷◌, refl, ap}
use Rattle.gql_values3.specs.Datum.{Datum, data_of, items_of}

pub items_again : (ds : List Datum) → items_of (data_of ds) ≡ ds
items_again [] = refl
items_again (d ∷ ds) = ap (λ es. d ∷ es) (items_again ds)
