-- Grouping: what a bare variable stands for in a group is what was noted of the group's first row, and that fits the
-- variable's kind; a group without rows gives NULL there. Every other item is plain.
use Rattle.std.proofs.Common.{◌≡◌, ℕ, suc, true, List, [], ◌∷◌, map, slice_index_or, All, Ok, refl, sym, ap, subst, ◌∙◌}
use Rattle.std.proofs.lemmas.Bool.{and_from}
use Rattle.std.proofs.lemmas.List.Elements.{All-head, All-map, All-filter}
use Rattle.gql_values3.specs.Datum.{Datum, null}
use Rattle.gql_values3.specs.PropertyGraph.{PropertyGraph}
use Rattle.gql_values3.specs.Rows.{fit_kinds, fits_kind}
use Rattle.gql_ast.specs.Tree.{Tree, name}
use Rattle.gql_ast.specs.Scope.{row_scope}
use Rattle.gql_ast.specs.Faults.{each}
use Rattle.gql_ast.specs.Evaluation.{value_of}
use Rattle.gql_ast.specs.Outputs.{kind_of, kind_of_name}
use Rattle.gql_ast.specs.RowAggregates.{row_aggregates}
use Rattle.gql_ast.specs.ClauseColumns.{ColumnList}
use Rattle.gql_eval.specs.Machinery.Next.{next}
use Rattle.gql_eval.specs.RowLists.{RowList}
use Rattle.gql_table.specs.Distinct.{same_row}
use Rattle.gql_table.specs.Grouping.{Note, group_keys, group_part, group_parts, group_row, group_with, grouped_rows, groups_of, item_value, item_values, key_in, note_of, note_row, notes_at}
use Rattle.gql_table.proofs.FitSteps.{cons_gives, each_keeps, given_is, next_gives}
use Rattle.gql_table.proofs.FitValues.{plain_fits, value_fits}
use Rattle.gql_eval.proofs.RowFits.{Fits}

-- what was noted of the first row
abbrev lead : List Note → Note
lead [] = []
lead (n ∷ ns) = n

module _ (columns : ColumnList) where
  -- the values noted for the items, from place i on, fit the items' kinds
  abbrev Noted : ℕ → List Tree → Note → Type 0
  Noted i [] n = Unit {0}
  Noted i (e ∷ es) n = (fits_kind (kind_of columns e) (slice_index_or (slice_index_or n i []) 0 null) ≡ true) × Noted (suc i) es n

  noted_shift : (i : ℕ) (es : List Tree) (p : List Datum) (n : Note) → Noted i es n → Noted (suc i) es (p ∷ n)
  noted_shift i [] p n h = tt
  noted_shift i (e ∷ es) p n h = (h.0, noted_shift (suc i) es p n h.1)

  noted_none : (i : ℕ) (es : List Tree) → Noted i es []
  noted_none i [] = tt
  noted_none i (e ∷ es) = (refl, noted_none (suc i) es)

  lead_noted : (es : List Tree) (group : List Note) → All (Noted 0 es) group → Noted 0 es (lead group)
  lead_noted es [] all = noted_none 0 es
  lead_noted es (n ∷ ns) all = All-head (Noted 0 es) n ns all

  groups_noted : (es : List Tree) (notes : List Note) → All (Noted 0 es) notes → All (All (Noted 0 es)) (groups_of columns es notes)
  groups_noted es notes all =
      All-map (All (Noted 0 es)) (group_with columns es notes) (group_keys columns es notes)
      (λ k d below. All-filter (λ n. same_row (slice_index_or (group_keys columns es notes) k d) (key_in columns es n)) (Noted 0 es) notes all)

module _ (g : PropertyGraph) (params : List (List ℕ × Datum)) (columns : ColumnList) where
  -- a bare variable is a key
  note_of_name : (x : List ℕ) (row : List Datum) → note_of g params columns (name x) row ≡ next (value_of g params (row_scope columns row) (name x)) (λ d. Ok (d ∷ []))
  unfolding row_aggregates
  note_of_name x row = refl

  part_of_name : (x : List ℕ) (i : ℕ) (group : List Note) → group_part g params columns (name x) (notes_at i group) ≡ Ok (slice_index_or (lead group) i [])
  unfolding row_aggregates
  part_of_name x i [] = refl
  part_of_name x i (n ∷ ns) = refl

  item_of_name : (x : List ℕ) (part : List Datum) → item_value g params columns (name x) part ≡ Ok (slice_index_or part 0 null)
  unfolding row_aggregates
  item_of_name x part = refl

  note_fits : (row : List Datum) → Fits columns row → (e : Tree) (p : List Datum) → note_of g params columns e row ≡ Ok p → fits_kind (kind_of columns e) (slice_index_or p 0 null) ≡ true
  note_fits row fit (name x) p q =
      let value = next_gives (value_of g params (row_scope columns row) (name x)) (λ d. Ok (d ∷ [])) p (sym (note_of_name x row) ∙ q) in
      subst (λ l. fits_kind (kind_of_name columns x) (slice_index_or l 0 null) ≡ true) (sym (given_is (value.0 ∷ []) p (Ok (value.0 ∷ [])) refl value.2))
      (value_fits g params columns row fit (name x) value.0 value.1)
  note_fits row fit _ p q = plain_fits (slice_index_or p 0 null)

  notes_fit : (row : List Datum) → Fits columns row → (es : List Tree) (n : Note) → each (λ e. note_of g params columns e row) es ≡ Ok n → Noted columns 0 es n
  notes_fit row fit [] n p = tt
  notes_fit row fit (e ∷ es) n p =
      let given = cons_gives (note_of g params columns e row) (each (λ t. note_of g params columns t row) es) n p in
      subst (Noted columns 0 (e ∷ es)) (sym given.4)
      (note_fits row fit e given.0 given.2, noted_shift columns 0 es given.0 given.1 (notes_fit row fit es given.1 given.3))

  item_fits : (e : Tree) (i : ℕ) (group : List Note) (p : List Datum) (d : Datum) → fits_kind (kind_of columns e) (slice_index_or (slice_index_or (lead group) i []) 0 null) ≡ true
      → group_part g params columns e (notes_at i group) ≡ Ok p → item_value g params columns e p ≡ Ok d → fits_kind (kind_of columns e) d ≡ true
  item_fits (name x) i group p d fit q r =
      let first = slice_index_or (lead group) i [] in
      let part : p ≡ first = given_is first p (group_part g params columns (name x) (notes_at i group)) (part_of_name x i group) q in
      let value : d ≡ slice_index_or p 0 null = given_is (slice_index_or p 0 null) d (item_value g params columns (name x) p) (item_of_name x p) r in
      subst (λ v. fits_kind (kind_of_name columns x) v ≡ true) (sym (value ∙ ap (λ l. slice_index_or l 0 null) part)) fit
  item_fits _ i group p d fit q r = plain_fits d

  item_values_fit : (es : List Tree) (i : ℕ) (group : List Note) (ps : List (List Datum)) (ds : List Datum) → Noted columns i es (lead group)
      → group_parts g params columns i es group ≡ Ok ps → item_values g params columns es ps ≡ Ok ds → fit_kinds (map (kind_of columns) es) ds ≡ true
  item_values_fit [] i group ps ds h q r = subst (λ vs. fit_kinds [] vs ≡ true) (sym (given_is [] ds (Ok []) refl r)) refl
  item_values_fit (e ∷ es) i group ps ds h q r =
      let parts = cons_gives (group_part g params columns e (notes_at i group)) (group_parts g params columns (suc i) es group) ps q in
      let values = cons_gives (item_value g params columns e parts.0) (item_values g params columns es parts.1) ds
      (sym (ap (item_values g params columns (e ∷ es)) parts.4) ∙ r) in
      subst (λ vs. fit_kinds (map (kind_of columns) (e ∷ es)) vs ≡ true) (sym {b = values.0 ∷ values.1} values.4)
      (and_from (fits_kind (kind_of columns e) values.0) (fit_kinds (map (kind_of columns) es) values.1) (item_fits e i group parts.0 values.0 h.0 parts.2 values.2)
      (item_values_fit es (suc i) group parts.1 values.1 h.1 parts.3 values.3))

  group_row_fits : (es : List Tree) (group : List Note) (out : List Datum) → All (Noted columns 0 es) group → group_row g params columns es group ≡ Ok out
      → fit_kinds (map (kind_of columns) es) out ≡ true
  group_row_fits es group out all p =
      let parts = next_gives (group_parts g params columns 0 es group) (item_values g params columns es) out p in
      item_values_fit es 0 group parts.0 out (lead_noted columns es group all) parts.1 parts.2

  pub grouped_rows_fit : (es : List Tree) (rows outs : RowList) → All (Fits columns) rows → grouped_rows g params columns es rows ≡ Ok outs
      → All (λ out. fit_kinds (map (kind_of columns) es) out ≡ true) outs
  grouped_rows_fit es rows outs all p =
      let notes = next_gives (each (note_row g params columns es) rows) (λ ns. each (group_row g params columns es) (groups_of columns es ns)) outs p in
      each_keeps (group_row g params columns es) (All (Noted columns 0 es)) (λ out. fit_kinds (map (kind_of columns) es) out ≡ true) (group_row_fits es) (groups_of columns es notes.0) outs
      (groups_noted columns es notes.0 (each_keeps (note_row g params columns es) (Fits columns) (Noted columns 0 es) (λ row n fit q. notes_fit row fit es n q) rows notes.0 all notes.1)) notes.2
