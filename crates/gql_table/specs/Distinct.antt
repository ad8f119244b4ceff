-- DISTINCT: the first of equal rows. Two NULLs are the same here.
use Rattle.std.specs.Prelude.{Bool, not, List, [], ◌∷◌, filter}
use Rattle.std.specs.Cmp.Lexicographic.{pointwise}
use Rattle.std.specs.Ordering.{is_eq}
use Rattle.gql_values3.specs.Datum.{Datum}
use Rattle.gql_values3.specs.ValueOrder.{datum_cmp}
use Rattle.gql_ast.specs.declared.words.SetQuantifier.{SetQuantifier}
use Rattle.gql_ast.specs.declared.words.SetQuantifier.TheVariants as quantifier
use Rattle.gql_eval.specs.RowLists.{RowList}

-- two rows hold the same values in the same order
abbrev pub same_row : List Datum → List Datum → Bool
same_row a b = pointwise (λ x y. is_eq (datum_cmp x y)) a b

-- of equal rows the first stays
abbrev pub distinct_rows : RowList → RowList
distinct_rows [] = []
distinct_rows (r ∷ rs) = r ∷ filter (λ s. not (same_row r s)) (distinct_rows rs)

-- the rows that are left of all, or of the first of equal ones
abbrev pub left_of : SetQuantifier → RowList → RowList
left_of quantifier.All rows = rows
left_of quantifier.Distinct rows = distinct_rows rows
