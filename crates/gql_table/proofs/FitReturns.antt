-- RETURN gives rows that fit its columns: the columns of items hold what the items' values are, and those of a grouped
-- `*`, whose values are found by their names, hold what they held, since the names differ.
use Rattle.std.proofs.Common.{◌≡◌, ℕ, Bool, true, false, cond, not, List, [], ◌∷◌, ◌++◌, map, find, All, Some, Ok, option_map, unwrap_or, is_some, refl, sym, ap, subst, ◌∙◌}
use Rattle.std.specs.Prelude.{◌&&◌, ◌||◌}
use Rattle.std.specs.List.{list_any}
use Rattle.std.specs.Cmp.Lexicographic.{bytes_decides}
use Rattle.std.proofs.lemmas.Bool.{and_parts, both_ways, false_from_ne_true, not-true, or_parts}
use Rattle.std.proofs.lemmas.List.Elements.{All-map, All-same, All-weaker}
use Rattle.gql_values3.specs.Datum.{Datum}
use Rattle.gql_values3.specs.PropertyGraph.{PropertyGraph}
use Rattle.gql_values3.specs.Rows.{are_columns, fit_kinds}
use Rattle.gql_values3.specs.Texts.{same_text, texts_differ}
use Rattle.gql_values3.specs.declared.table.ColumnKind.{ColumnKind}
use Rattle.gql_values3.specs.declared.table.ColumnKind.TheVariants as kind
use Rattle.gql_ast.specs.Tree.{Tree, name}
use Rattle.gql_ast.specs.Meaning.{tree_of}
use Rattle.gql_ast.specs.Outputs.{item_column, kind_of, kind_of_name}
use Rattle.gql_ast.specs.declared.projection.Return.{Return}
use Rattle.gql_ast.specs.declared.projection.ReturnItem.{ReturnItem}
use Rattle.gql_ast.specs.declared.projection.ReturnItems.{ReturnItems}
use Rattle.gql_ast.specs.declared.projection.ReturnItems.TheVariants as items
use Rattle.gql_ast.specs.declared.words.SetQuantifier.{SetQuantifier}
use Rattle.gql_ast.specs.declared.words.SetQuantifier.TheVariants as quantifier
use Rattle.gql_ast.specs.ClauseColumns.{ColumnList}
use Rattle.gql_ast.specs.Projections.{is_key, is_grouped, output_columns, output_trees}
use Rattle.gql_eval.specs.RowLists.{RowList}
use Rattle.gql_table.specs.Distinct.{distinct_rows}
use Rattle.gql_table.specs.Grouping.{grouped_rows}
use Rattle.gql_table.specs.Paging.{Sortable, paged}
use Rattle.gql_table.specs.Projection.{all_alone, distinct_outputs, grouped_outputs, output_of, output_row, outputs, plain_outputs, returned_rows, row_outputs, sort_key_columns}
use Rattle.gql_table.specs.Fitting.{is_all}
use Rattle.gql_eval.specs.RowLists.{column_kinds}
use Rattle.gql_table.proofs.AggregationLemmas.{no_name_has_one}
use Rattle.gql_table.proofs.FitSteps.{distinct_keeps, each_keeps, given_is, next_gives, paged_keeps}
use Rattle.gql_table.proofs.FitValues.{values_fit}
use Rattle.gql_eval.proofs.RowFits.{Fits}
use Rattle.gql_table.proofs.FitClauses.{alone_keep}
use Rattle.gql_table.proofs.FitGroups.{grouped_rows_fit}

-- what the values of items are is what their columns hold
listed_kinds : (columns : ColumnList) (is : List ReturnItem) → map (kind_of columns) (map (λ (i : ReturnItem). tree_of i.value) is) ≡ column_kinds (map (item_column columns) is)
listed_kinds columns [] = refl
listed_kinds columns (i ∷ is) = ap (λ ks. kind_of columns (tree_of i.value) ∷ ks) (listed_kinds columns is)

apart_turned : (a b : List ℕ) → same_text a b ≡ false → same_text b a ≡ false
apart_turned a b h = false_from_ne_true (same_text b a) (λ e. both_ways (same_text a b) h ((bytes_decides a b).1 (sym ((bytes_decides b a).0 e))))

-- a column of another name in front changes no kind
other_kinds : (c : List ℕ × ColumnKind) (cs more : ColumnList) → list_any (same_text c.0) (map (λ (d : List ℕ × ColumnKind). d.0) more) ≡ false
    → map (kind_of (c ∷ cs)) (map (λ (d : List ℕ × ColumnKind). name d.0) more) ≡ map (kind_of cs) (map (λ (d : List ℕ × ColumnKind). name d.0) more)
other_kinds c cs [] h = refl
other_kinds c cs (m ∷ ms) h =
    let apart = or_parts (same_text c.0 m.0) (list_any (same_text c.0) (map (λ (d : List ℕ × ColumnKind). d.0) ms)) h in
    let skipped : kind_of_name (c ∷ cs) m.0 ≡ kind_of_name cs m.0 =
    ap (λ b. unwrap_or (option_map (λ (d : List ℕ × ColumnKind). d.1) (cond b (Some c) (find (λ (d : List ℕ × ColumnKind). same_text m.0 d.0) cs))) kind.Plain) (apart_turned c.0 m.0 apart.0) in
    let others = other_kinds c cs ms apart.1 in
    λ i. skipped i ∷ others i

-- by its name each column has its own kind, where the names differ
own_kinds : (cs : ColumnList) → are_columns cs ≡ true → map (kind_of cs) (map (λ (d : List ℕ × ColumnKind). name d.0) cs) ≡ column_kinds cs
own_kinds [] h = refl
own_kinds (c ∷ cs) h =
    let texts = map (λ (d : List ℕ × ColumnKind). d.0) cs in
    let both = and_parts (not (list_any (same_text c.0) texts)) (texts_differ texts) h in
    let own : kind_of_name (c ∷ cs) c.0 ≡ c.1 =
    ap (λ b. unwrap_or (option_map (λ (d : List ℕ × ColumnKind). d.1) (cond b (Some c) (find (λ (d : List ℕ × ColumnKind). same_text c.0 d.0) cs))) kind.Plain) ((bytes_decides c.0 c.0).1 refl) in
    let others = other_kinds c cs cs (not-true (list_any (same_text c.0) texts) both.0) ∙ own_kinds cs both.1 in
    λ i. own i ∷ others i

or_none : (b c : Bool) → c ≡ false → (b || c) ≡ true → b ≡ true
or_none true c p q = refl
or_none false c p q = sym p ∙ q

told : (b c : Bool) → b ≡ true → (not b || c) ≡ true → c ≡ true
told true c p q = q
told false c p q = absurd (cc)

-- what the values are in a grouped RETURN is what its columns hold. `*` has no aggregate, so GROUP BY alone groups it.
grouped_kinds : (columns : ColumnList) (is : ReturnItems) (grouping : Bool) → (not (is_all is && grouping) || are_columns columns) ≡ true
    → (grouping || list_any (λ e. not (is_key columns e)) (output_trees columns is)) ≡ true
    → map (kind_of columns) (output_trees columns is) ≡ column_kinds (output_columns columns is)
grouped_kinds columns items.All grouping names h =
    let trees = map (λ (c : List ℕ × ColumnKind). name c.0) columns in
    own_kinds columns (told grouping (are_columns columns) (or_none grouping (list_any (λ e. not (is_key columns e)) trees) (no_name_has_one columns columns) h) names)
grouped_kinds columns (items.Listed is) grouping names h = listed_kinds columns is

module _ (g : PropertyGraph) (params : List (List ℕ × Datum)) (columns : ColumnList) where
  output_of_fits : (is : List ReturnItem) (row : List Datum) (o : Sortable) → Fits columns row → output_of g params columns (map (λ (i : ReturnItem). tree_of i.value) is) row ≡ Ok o
      → Fits (map (item_column columns) is) o.0
  output_of_fits is row o fit p =
      let es = map (λ (i : ReturnItem). tree_of i.value) is in
      let out = next_gives (output_row g params columns es row) (λ v. Ok (v, v ++ row)) o p in
      subst (λ (q : Sortable). Fits (map (item_column columns) is) q.0) (sym (given_is (out.0, out.0 ++ row) o (Ok (out.0, out.0 ++ row)) refl out.2))
      (subst (λ ks. fit_kinds ks out.0 ≡ true) (listed_kinds columns is) (values_fit g params columns row fit es out.0 out.1))

  row_outputs_fit : (is : ReturnItems) (rows : RowList) (outs : List Sortable) → All (Fits columns) rows → row_outputs g params columns is rows ≡ Ok outs
      → All (λ (o : Sortable). Fits (output_columns columns is) o.0) outs
  row_outputs_fit items.All rows outs all p =
      All-same (λ (o : Sortable). Fits columns o.0) outs (all_alone rows) (given_is (all_alone rows) outs (Ok (all_alone rows)) refl p) (alone_keep (Fits columns) rows all)
  row_outputs_fit (items.Listed is) rows outs all p =
      each_keeps (output_of g params columns (map (λ (i : ReturnItem). tree_of i.value) is)) (Fits columns) (λ (o : Sortable). Fits (map (item_column columns) is) o.0)
      (output_of_fits is) rows outs all p

  plain_outputs_fit : (q : SetQuantifier) (is : ReturnItems) (rows : RowList) (outs : List Sortable) → All (Fits columns) rows → plain_outputs g params columns q is rows ≡ Ok outs
      → All (λ (o : Sortable). Fits (output_columns columns is) o.0) outs
  plain_outputs_fit quantifier.All is rows outs all p = row_outputs_fit is rows outs all p
  plain_outputs_fit quantifier.Distinct is rows outs all p =
      let Q = Fits (output_columns columns is) in
      let made = next_gives (row_outputs g params columns is rows) (λ os. Ok (distinct_outputs os)) outs p in
      let firsts = map (λ (o : Sortable). o.0) made.0 in
      All-same (λ (o : Sortable). Q o.0) outs (distinct_outputs made.0) (given_is (distinct_outputs made.0) outs (Ok (distinct_outputs made.0)) refl made.2)
      (alone_keep Q (distinct_rows firsts) (distinct_keeps Q firsts (All-map Q (λ (o : Sortable). o.0) made.0 (row_outputs_fit is rows made.0 all made.1))))

  groups_fit : (es : List Tree) (out : ColumnList) → map (kind_of columns) es ≡ column_kinds out → (rows outs : RowList) → All (Fits columns) rows
      → grouped_rows g params columns es rows ≡ Ok outs → All (Fits out) outs
  groups_fit es out same rows outs all p =
      All-weaker (λ row. fit_kinds (map (kind_of columns) es) row ≡ true) (Fits out) (λ row h. subst (λ ks. fit_kinds ks row ≡ true) same h) outs
      (grouped_rows_fit g params columns es rows outs all p)

  grouped_outputs_fit : (q : SetQuantifier) (es : List Tree) (out : ColumnList) → map (kind_of columns) es ≡ column_kinds out → (rows : RowList) (outs : List Sortable)
      → All (Fits columns) rows → grouped_outputs g params columns q es rows ≡ Ok outs → All (λ (o : Sortable). Fits out o.0) outs
  grouped_outputs_fit quantifier.All es out same rows outs all p =
      let made = next_gives (grouped_rows g params columns es rows) (λ os. Ok (all_alone os)) outs p in
      All-same (λ (o : Sortable). Fits out o.0) outs (all_alone made.0) (given_is (all_alone made.0) outs (Ok (all_alone made.0)) refl made.2)
      (alone_keep (Fits out) made.0 (groups_fit es out same rows made.0 all made.1))
  grouped_outputs_fit quantifier.Distinct es out same rows outs all p =
      let made = next_gives (grouped_rows g params columns es rows) (λ os. Ok (all_alone (distinct_rows os))) outs p in
      let firsts = distinct_rows made.0 in
      All-same (λ (o : Sortable). Fits out o.0) outs (all_alone firsts) (given_is (all_alone firsts) outs (Ok (all_alone firsts)) refl made.2)
      (alone_keep (Fits out) firsts (distinct_keeps (Fits out) made.0 (groups_fit es out same rows made.0 all made.1)))

  module _ (r : Return) (names : (not (is_all r.items && is_some r.grouping) || are_columns columns) ≡ true) where
    outputs_case : (b : Bool) → is_grouped columns r ≡ b → (rows : RowList) (outs : List Sortable) → All (Fits columns) rows
        → cond b (grouped_outputs g params columns r.quantifier (output_trees columns r.items) rows) (plain_outputs g params columns r.quantifier r.items rows) ≡ Ok outs
        → All (λ (o : Sortable). Fits (output_columns columns r.items) o.0) outs
    outputs_case true h rows outs all p =
        grouped_outputs_fit r.quantifier (output_trees columns r.items) (output_columns columns r.items) (grouped_kinds columns r.items (is_some r.grouping) names h) rows outs all p
    outputs_case false h rows outs all p = plain_outputs_fit r.quantifier r.items rows outs all p

    pub returned_rows_fit : (rows outs : RowList) → All (Fits columns) rows → returned_rows g params columns r rows ≡ Ok outs → All (Fits (output_columns columns r.items)) outs
    returned_rows_fit rows outs all p =
        let made = next_gives (outputs g params columns r rows) (paged g params (sort_key_columns columns r) r.order r.skip r.limit) outs p in
        paged_keeps g params (sort_key_columns columns r) (Fits (output_columns columns r.items)) r.order r.skip r.limit made.0 outs
        (outputs_case (is_grouped columns r) refl rows made.0 all made.1) made.2
