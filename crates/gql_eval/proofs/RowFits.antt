-- Rows that fit their columns: longer ones, and those of one value.
use Rattle.std.proofs.Common.{◌≡◌, ℕ, true, List, [], ◌∷◌, ◌++◌, refl}
use Rattle.std.proofs.lemmas.Bool.{and_parts, and_from}
use Rattle.gql_values3.specs.Datum.{Datum}
use Rattle.gql_values3.specs.Rows.{fits_kind}
use Rattle.gql_values3.specs.declared.table.ColumnKind.{ColumnKind}
use Rattle.gql_ast.specs.ClauseColumns.{ColumnList}
use Rattle.gql_eval.specs.RowLists.{row_fits}

abbrev pub Fits : ColumnList → List Datum → Type 0
Fits columns row = row_fits columns row ≡ true

-- more columns, and as many values that fit them
pub row_append : (columns more : ColumnList) (row ds : List Datum) → Fits columns row → Fits more ds → Fits (columns ++ more) (row ++ ds)
row_append [] more [] ds p q = q
row_append [] more (v ∷ row) ds p q = absurd (cc)
row_append (c ∷ cs) more [] ds p q = absurd (cc)
row_append (c ∷ cs) more (v ∷ row) ds p q =
    let both = and_parts (fits_kind c.1 v) (row_fits cs row) p in
    and_from (fits_kind c.1 v) (row_fits (cs ++ more) (row ++ ds)) both.0 (row_append cs more row ds both.1 q)

pub one_fits : (x : List ℕ) (k : ColumnKind) (d : Datum) → fits_kind k d ≡ true → Fits ((x, k) ∷ []) (d ∷ [])
one_fits x k d h = and_from (fits_kind k d) true h refl
