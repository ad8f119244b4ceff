-- Rows of which the first values are put out.
use Rattle.std.proofs.Common.{◌≡◌, ℕ, [], ◌∷◌, map, refl, ap, Option}
use Rattle.gql_eval.specs.RowLists.{RowList}
use Rattle.gql_table.specs.Paging.{Sortable}
use Rattle.gql_table.specs.Machinery.Width.{shown, seen}

pub shown_seen : (width : Option ℕ) (rows : RowList) → map (λ (r : Sortable). r.0) (map (seen width) rows) ≡ map (shown width) rows
shown_seen width [] = refl
shown_seen width (r ∷ rs) = ap (λ xs. shown width r ∷ xs) (shown_seen width rs)
