-- What is prepared once for all rows gives in each row what the definitions say.
use Rattle.std.proofs.Common.{◌≡◌, ℕ, ◌+◌, ◌<◌, ◌≤◌, ◌⊎◌, inl, inr, cond, List, [], ◌∷◌, ◌++◌, length, map, take, drop, set, get_or, refl, sym, ap, ◌∙◌, append_assoc, arith, Result, Ok}
use Rattle.std.specs.List.{swap}
use Rattle.std.proofs.lemmas.List.{length-set, take-set, take-set-le, take_more_set, drop-set-lt}
use Rattle.std.proofs.lemmas.Bool.{cases_eq}
use Rattle.std.proofs.lemmas.List.Edits.{swap_is}
use Rattle.gql_values3.specs.Datum.{Datum}
use Rattle.gql_values3.specs.PropertyGraph.{PropertyGraph}
use Rattle.gql_values3.specs.declared.truth.Truth.{Truth}
use Rattle.gql_values3.specs.declared.truth.Truth.TheVariants as truth
use Rattle.gql_ast.specs.Tree.{Tree}
use Rattle.gql_ast.specs.Meaning.{tree_of}
use Rattle.gql_ast.specs.Scope.{row_scope}
use Rattle.gql_ast.specs.Faults.{each}
use Rattle.gql_ast.specs.Evaluation.{value_of}
use Rattle.gql_ast.specs.ClauseColumns.{ColumnList}
use Rattle.gql_ast.specs.declared.clause.LetItem.{LetItem}
use Rattle.gql_ast.specs.declared.page.SortItem.{SortItem}
use Rattle.gql_ast.specs.declared.fault.DataFault.{DataFault}
use Rattle.gql_eval.specs.Machinery.Next.{next}
use Rattle.gql_eval.specs.Preparation.{Preparation}
use Rattle.gql_eval.specs.RowLists.{RowList}
use Rattle.gql_table.specs.Filter.{kept_if}
use Rattle.gql_table.specs.Let.{let_row}
use Rattle.gql_table.specs.Paging.{Sortable, keyed}
use Rattle.gql_table.specs.Projection.{output_row}
use Rattle.gql_table.specs.Machinery.Preparations.{prepared_under, prepared_lets, prepared_value, row_with, is_kept, keyed_by}
use Rattle.gql_table.proofs.LetLemmas.{grown}

pub kept_is : (t : Truth) (row : List Datum) → kept_if t row ≡ cond (is_kept t) (row ∷ []) []
kept_is truth.True row = refl
kept_is truth.Unknown row = refl
kept_is truth.False row = refl

module _ (params : List (List ℕ × Datum)) where
  -- one item of LET more
  pub lets_step : (done : List Preparation) (columns : ColumnList) (i : LetItem) (left is : List LetItem) → left ≡ i ∷ is
      → done ++ prepared_lets columns params left ≡ (done ++ prepared_under columns params (tree_of i.value) ∷ []) ++ prepared_lets (grown columns i) params is
  lets_step done columns i left is p =
      ap (λ l. done ++ prepared_lets columns params l) p ∙ sym (append_assoc done (prepared_under columns params (tree_of i.value) ∷ []) (prepared_lets (grown columns i) params is))

module _ (g : PropertyGraph) (params : List (List ℕ × Datum)) where
  pub lets_are : (columns : ColumnList) (items : List LetItem) (row : List Datum) → row_with g (prepared_lets columns params items) row ≡ let_row g params columns items row
  lets_are columns [] row = refl
  lets_are columns (i ∷ is) row =
      ap (λ (k : Datum → Result (List Datum) DataFault). next (value_of g params (row_scope columns row) (tree_of i.value)) k) (λ j d. lets_are (grown columns i) is (row ++ d ∷ []) j)

  -- all rows of LET
  pub let_rows_are : (columns : ColumnList) (items : List LetItem) (rows : RowList)
      → each (row_with g (prepared_lets columns params items)) rows ≡ each (let_row g params columns items) rows
  let_rows_are columns items rows = λ j. each (λ row. lets_are columns items row j) rows

  pub outputs_are : (columns : ColumnList) (es : List Tree) (row : List Datum)
      → each (λ (p : Preparation). prepared_value g p row) (map (prepared_under columns params) es) ≡ output_row g params columns es row
  outputs_are columns [] row = refl
  outputs_are columns (e ∷ es) row =
      ap (λ (r : Result (List Datum) DataFault). next (value_of g params (row_scope columns row) e) (λ d. next r (λ ds. Ok (d ∷ ds)))) (outputs_are columns es row)

  pub keys_are : (columns : ColumnList) (items : List SortItem) (row : List Datum)
      → each (λ (p : Preparation). prepared_value g p row) (map (prepared_under columns params) (map (λ (i : SortItem). tree_of i.key) items))
      ≡ each (λ (i : SortItem). value_of g params (row_scope columns row) (tree_of i.key)) items
  keys_are columns [] row = refl
  keys_are columns (i ∷ is) row =
      ap (λ (r : Result (List Datum) DataFault). next (value_of g params (row_scope columns row) (tree_of i.key)) (λ d. next r (λ ds. Ok (d ∷ ds)))) (keys_are columns is row)

  pub keyed_are : (columns : ColumnList) (items : List SortItem) (rows : List Sortable)
      → each (keyed_by g (map (prepared_under columns params) (map (λ (i : SortItem). tree_of i.key) items))) rows ≡ each (keyed g params columns items) rows
  keyed_are columns items rows = λ j. each (λ (r : Sortable). next (keys_are columns items r.1 j) (λ keys. Ok (keys, r.0))) rows

-- an item that goes to an earlier place
pub swapped_rest : {A : Type 0} (xs : List A) (k i : ℕ) (x : A) → k ≤ i → i < length xs → x ≡ get_or xs i x → drop (i + 1) (swap xs k i) ≡ drop (i + 1) xs
swapped_rest xs k i x le below here =
    ap (drop (i + 1)) (sym (swap_is xs k i x (omega (arith, le, below)) below))
    ∙ drop-set-lt (i + 1) (set xs k (get_or xs i x)) i (get_or xs k x) (omega arith)
    ∙ drop-set-lt (i + 1) xs k (get_or xs i x) (omega (arith, le))

front_case : {A : Type 0} (xs : List A) (k i : ℕ) (x y : A) → k ≤ i → i < length xs → (k ≡ i) ⊎ (k ≡ i → ⊥)
    → (k ≡ i → y ≡ x) → take (k + 1) (set (set xs k x) i y) ≡ take k xs ++ x ∷ []
front_case xs k i x y le below (inl same) h =
    ap (λ j. take (k + 1) (set (set xs k x) j y)) (sym same)
    ∙ take_more_set (set xs k x) k y (omega (arith, same, below, length-set xs k x))
    ∙ (λ j. take-set xs k x j ++ h same j ∷ [])
front_case xs k i x y le below (inr other) h =
    take-set-le (k + 1) (set xs k x) i y (omega (arith, le, other)) ∙ take_more_set xs k x (omega (arith, le, below))

pub swapped_front : {A : Type 0} (xs : List A) (k i : ℕ) (x : A) → k ≤ i → i < length xs → x ≡ get_or xs i x → take (k + 1) (swap xs k i) ≡ take k xs ++ x ∷ []
swapped_front xs k i x le below here =
    ap (take (k + 1)) (sym (swap_is xs k i x (omega (arith, le, below)) below))
    ∙ front_case xs k i (get_or xs i x) (get_or xs k x) le below (cases_eq k i) (λ p. ap (λ n. get_or xs n x) p)
    ∙ ap (λ y. take k xs ++ y ∷ []) (sym here)
