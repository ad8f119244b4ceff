-- LET, FILTER, FOR and the page clauses keep rows that fit their columns.
use Rattle.std.proofs.Common.{◌≡◌, ℕ, suc, true, List, [], ◌∷◌, ◌++◌, map, All, Option, Some, None, Ok, refl, sym, subst}
use Rattle.std.proofs.lemmas.List.Elements.{All-nil, All-cons, All-head, All-tail, All-same, All-map}
use Rattle.gql_values3.specs.Datum.{Datum, null, list, items_of}
use Rattle.gql_values3.specs.PropertyGraph.{PropertyGraph}
use Rattle.gql_values3.specs.Rows.{fits_kind}
use Rattle.gql_values3.specs.declared.table.ColumnKind.{ColumnKind}
use Rattle.gql_values3.specs.declared.table.ColumnKind.TheVariants as kind
use Rattle.gql_values3.specs.declared.truth.Truth.{Truth}
use Rattle.gql_values3.specs.declared.truth.Truth.TheVariants as truth
use Rattle.gql_ast.specs.Tree.{Tree}
use Rattle.gql_ast.specs.Meaning.{tree_of}
use Rattle.gql_ast.specs.Scope.{row_scope}
use Rattle.gql_ast.specs.Operators.{counted}
use Rattle.gql_ast.specs.TruthValues.{truth_in}
use Rattle.gql_ast.specs.Evaluation.{value_of}
use Rattle.gql_ast.specs.Outputs.{element_kind, kind_of}
use Rattle.gql_ast.specs.declared.clause.Counting.{Counting}
use Rattle.gql_ast.specs.declared.clause.For.{For}
use Rattle.gql_ast.specs.declared.clause.LetItem.{LetItem}
use Rattle.gql_ast.specs.declared.page.Page.{Page}
use Rattle.gql_ast.specs.declared.page.Page.TheVariants as page
use Rattle.gql_ast.specs.ClauseColumns.{ColumnList, let_columns, counter_column, for_columns}
use Rattle.gql_eval.specs.Machinery.Next.{next}
use Rattle.gql_eval.specs.RowLists.{RowList}
use Rattle.gql_table.specs.Let.{let_row, let_rows}
use Rattle.gql_table.specs.Filter.{filter_row, filter_rows, kept_if}
use Rattle.gql_table.specs.For.{for_row, for_rows, item_rows, rows_over, start_count}
use Rattle.gql_table.specs.Paging.{Sortable}
use Rattle.gql_table.specs.Projection.{output_alone}
use Rattle.gql_table.specs.Clauses.{page_rows}
use Rattle.gql_table.proofs.FitSteps.{each_keeps, each_some_keeps, given_is, next_gives, paged_keeps}
use Rattle.gql_table.proofs.FitValues.{items_fit, plain_fits, two_fit, value_fits}
use Rattle.gql_eval.proofs.RowFits.{Fits, one_fits, row_append}

-- rows that sort keys see as they are
pub alone_keep : (Q : List Datum → Type 0) (rows : RowList) → All Q rows → All (λ (o : Sortable). Q o.0) (map output_alone rows)
alone_keep Q rows all = All-map (λ (o : Sortable). Q o.0) output_alone rows all

kept_keeps : (Q : List Datum → Type 0) (t : Truth) (row : List Datum) → Q row → All Q (kept_if t row)
kept_keeps Q truth.True row here = All-cons Q row [] here (All-nil Q)
kept_keeps Q _ row here = All-nil Q

module _ (columns : ColumnList) (x : List ℕ) (k : ColumnKind) (row : List Datum) (fit : Fits columns row) where
  item_rows_fit : (counter : Option (Counting × List ℕ)) (n : ℕ) (ds : List Datum) (rows : RowList) → All (λ d. fits_kind k d ≡ true) ds
      → item_rows counter n row ds ≡ Ok rows → All (Fits (columns ++ (x, k) ∷ counter_column counter)) rows
  item_rows_fit counter n [] rows all p =
      let Q = Fits (columns ++ (x, k) ∷ counter_column counter) in
      All-same Q rows [] (given_is [] rows (Ok []) refl p) (All-nil Q)
  item_rows_fit None n (d ∷ ds) rows all p =
      let Q = Fits (columns ++ (x, k) ∷ []) in
      let F = λ (v : Datum). fits_kind k v ≡ true in
      let one = row ++ d ∷ [] in
      let rest = next_gives (item_rows None n row ds) (λ rs. Ok (one ∷ rs)) rows p in
      All-same Q rows (one ∷ rest.0) (given_is (one ∷ rest.0) rows (Ok (one ∷ rest.0)) refl rest.2)
      (All-cons Q one rest.0 (row_append columns ((x, k) ∷ []) row (d ∷ []) fit (one_fits x k d (All-head F d ds all)))
      (item_rows_fit None n ds rest.0 (All-tail F d ds all) rest.1))
  item_rows_fit (Some c) n (d ∷ ds) rows all p =
      let Q = Fits (columns ++ (x, k) ∷ (c.1, kind.Plain) ∷ []) in
      let F = λ (v : Datum). fits_kind k v ≡ true in
      let count = next_gives (counted n) (λ j. next (item_rows (Some c) (suc n) row ds) (λ rs. Ok ((row ++ d ∷ j ∷ []) ∷ rs))) rows p in
      let one = row ++ d ∷ count.0 ∷ [] in
      let rest = next_gives (item_rows (Some c) (suc n) row ds) (λ rs. Ok (one ∷ rs)) rows count.2 in
      All-same Q rows (one ∷ rest.0) (given_is (one ∷ rest.0) rows (Ok (one ∷ rest.0)) refl rest.2)
      (All-cons Q one rest.0
      (row_append columns ((x, k) ∷ (c.1, kind.Plain) ∷ []) row (d ∷ count.0 ∷ []) fit (two_fit x c.1 k kind.Plain d count.0 (All-head F d ds all) (plain_fits count.0)))
      (item_rows_fit (Some c) (suc n) ds rest.0 (All-tail F d ds all) rest.1))

rows_over_fit : (columns : ColumnList) (f : For) (row : List Datum) (d : Datum) (rows : RowList) → Fits columns row → fits_kind (kind_of columns (tree_of f.list)) d ≡ true
    → rows_over f row d ≡ Ok rows → All (Fits (for_columns columns f)) rows
rows_over_fit columns f row null rows fit here p =
    let Q = Fits (for_columns columns f) in
    All-same Q rows [] (given_is [] rows (Ok []) refl p) (All-nil Q)
rows_over_fit columns f row (list ds) rows fit here p =
    let k = kind_of columns (tree_of f.list) in
    item_rows_fit columns f.name (element_kind k) row fit f.counter (start_count f.counter) (items_of ds) rows (items_fit k ds here) p
rows_over_fit columns f row _ rows fit here p = absurd (cc)

module _ (g : PropertyGraph) (params : List (List ℕ × Datum)) where
  let_row_fits : (items : List LetItem) (columns : ColumnList) (row out : List Datum) → Fits columns row → let_row g params columns items row ≡ Ok out → Fits (let_columns columns items) out
  let_row_fits [] columns row out fit p = subst (Fits columns) (sym (given_is row out (Ok row) refl p)) fit
  let_row_fits (i ∷ is) columns row out fit p =
      let k = kind_of columns (tree_of i.value) in
      let more = columns ++ (i.name, k) ∷ [] in
      let value = next_gives (value_of g params (row_scope columns row) (tree_of i.value)) (λ d. let_row g params more is (row ++ d ∷ [])) out p in
      let_row_fits is more (row ++ value.0 ∷ []) out
      (row_append columns ((i.name, k) ∷ []) row (value.0 ∷ []) fit (one_fits i.name k value.0 (value_fits g params columns row fit (tree_of i.value) value.0 value.1))) value.2

  pub let_rows_fit : (columns : ColumnList) (items : List LetItem) (rows outs : RowList) → All (Fits columns) rows → let_rows g params columns items rows ≡ Ok outs
      → All (Fits (let_columns columns items)) outs
  let_rows_fit columns items rows outs all p =
      each_keeps (let_row g params columns items) (Fits columns) (Fits (let_columns columns items)) (let_row_fits items columns) rows outs all p

  module _ (columns : ColumnList) where
    filter_row_fits : (e : Tree) (row : List Datum) (outs : RowList) → Fits columns row → filter_row g params columns e row ≡ Ok outs → All (Fits columns) outs
    filter_row_fits e row outs fit p =
        let t = next_gives (next (value_of g params (row_scope columns row) e) truth_in) (λ u. Ok (kept_if u row)) outs p in
        All-same (Fits columns) outs (kept_if t.0 row) (given_is (kept_if t.0 row) outs (Ok (kept_if t.0 row)) refl t.2) (kept_keeps (Fits columns) t.0 row fit)

    pub filter_rows_fit : (e : Tree) (rows outs : RowList) → All (Fits columns) rows → filter_rows g params columns e rows ≡ Ok outs → All (Fits columns) outs
    filter_rows_fit e rows outs all p = each_some_keeps (filter_row g params columns e) (Fits columns) (Fits columns) (filter_row_fits e) rows outs all p

    for_row_fits : (f : For) (row : List Datum) (outs : RowList) → Fits columns row → for_row g params columns f row ≡ Ok outs → All (Fits (for_columns columns f)) outs
    for_row_fits f row outs fit p =
        let value = next_gives (value_of g params (row_scope columns row) (tree_of f.list)) (rows_over f row) outs p in
        rows_over_fit columns f row value.0 outs fit (value_fits g params columns row fit (tree_of f.list) value.0 value.1) value.2

    pub for_rows_fit : (f : For) (rows outs : RowList) → All (Fits columns) rows → for_rows g params columns f rows ≡ Ok outs → All (Fits (for_columns columns f)) outs
    for_rows_fit f rows outs all p = each_some_keeps (for_row g params columns f) (Fits columns) (Fits (for_columns columns f)) (for_row_fits f) rows outs all p

    pub page_rows_fit : (p : Page) (rows outs : RowList) → All (Fits columns) rows → page_rows g params columns p rows ≡ Ok outs → All (Fits columns) outs
    page_rows_fit (page.Order items skip limit) rows outs all p =
        paged_keeps g params columns (Fits columns) (Some items) skip limit (map output_alone rows) outs (alone_keep (Fits columns) rows all) p
    page_rows_fit (page.Skip skip limit) rows outs all p =
        paged_keeps g params columns (Fits columns) None (Some skip) limit (map output_alone rows) outs (alone_keep (Fits columns) rows all) p
    page_rows_fit (page.Limit limit) rows outs all p =
        paged_keeps g params columns (Fits columns) None None (Some limit) (map output_alone rows) outs (alone_keep (Fits columns) rows all) p
