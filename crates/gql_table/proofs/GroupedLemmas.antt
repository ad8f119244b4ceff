-- The rows of a grouped RETURN, as they are worked out, are those that are defined.
use Rattle.std.proofs.Common.{◌≡◌, ℕ, ◌<◌, Bool, true, false, cond, not, List, [], ◌∷◌, length, map, refl, sym, ap, ◌∙◌, arith, Result, Ok, Err}
use Rattle.std.proofs.lemmas.Bool.{or_right, or_left}
use Rattle.std.specs.Prelude.{filter, ◌||◌}
use Rattle.std.specs.List.{list_any, AllByRecursion}
use Rattle.gql_values3.specs.Datum.{Datum}
use Rattle.gql_values3.specs.PropertyGraph.{PropertyGraph}
use Rattle.gql_ast.specs.Tree.{Tree}
use Rattle.gql_ast.specs.Faults.{each}
use Rattle.gql_ast.specs.ClauseColumns.{ColumnList}
use Rattle.gql_ast.specs.Projections.{is_key}
use Rattle.gql_ast.specs.declared.fault.DataFault.{DataFault}
use Rattle.gql_eval.specs.Machinery.Next.{next}
use Rattle.gql_eval.specs.RowLists.{RowList}
use Rattle.gql_table.specs.Distinct.{same_row, distinct_rows}
use Rattle.gql_table.specs.Machinery.Places.{among}
use Rattle.gql_table.specs.Grouping.{Note, key_in, group_with, groups_of, note_row, group_row, grouped_rows, item_values}
use Rattle.gql_table.specs.Machinery.GroupPlan.{all_groups, has_key, rows_kept_behind, values_in_group, row_of_group, rows_of_groups}
use Rattle.gql_table.proofs.RowOrder.{same_row_exact, same_row_itself}
use Rattle.gql_table.proofs.ReturnLemmas.{next_next, map_long}
use Rattle.gql_table.proofs.PlaceLemmas.{or_rest}
use Rattle.gql_table.proofs.GatherLemmas.{with_key, whole_group, gathered_all, differ}
use Rattle.gql_table.proofs.NoteLemmas.{plans, arguments_in, Shaped, rows_kept_is, note_shaped, each_all, filter_keeps, no_keys}
use Rattle.gql_table.proofs.ResultLemmas.{parts_from, parts_are, none_dropped, behind_is, parts_shaped, parts_keys, values_are}

-- two second steps that agree on what the first gives
pub next_same : {A B : Type 0} (r : Result A DataFault) (f h : A → Result B DataFault) → ((x : A) → r ≡ Ok x → f x ≡ h x) → next r f ≡ next r h
next_same (Err e) f h same = refl
next_same (Ok x) f h same = same x refl

-- the rows of a key are those whose noted key it is
with_key_is : (f h : Note → List Datum) (key : List Datum) (notes : List Note) → with_key key (map f notes) (map h notes) ≡ map h (filter (λ n. same_row key (f n)) notes)
with_key_is f h key [] = refl
with_key_is f h key (n ∷ ns) = kept_case (same_row key (f n)) n (with_key key (map f ns) (map h ns)) (filter (λ m. same_row key (f m)) ns) (with_key_is f h key ns)
  where
    kept_case : (b : Bool) (n : Note) (rows : RowList) (more : List Note) → rows ≡ map h more → cond b (h n ∷ rows) rows ≡ map h (cond b (n ∷ more) more)
    kept_case true n rows more p = ap (λ l. h n ∷ l) p
    kept_case false n rows more p = p

-- the first row of a key that is among the keys
abbrev First : (Note → List Datum) → List Datum → List Note → Type 0
First f key group = (n : Note) × (ns : List Note) × (group ≡ n ∷ ns) × (key ≡ f n)

first_case : (f : Note → List Datum) (key : List Datum) (b : Bool) (n : Note) (more : List Note) → same_row key (f n) ≡ b → (b ≡ false → First f key more) → First f key (cond b (n ∷ more) more)
first_case f key true n more p rest = (n, more, refl, same_row_exact key (f n) p)
first_case f key false n more p rest = rest refl

first_of : (f : Note → List Datum) (key : List Datum) (notes : List Note) → among (map f notes) key ≡ true → First f key (filter (λ n. same_row key (f n)) notes)
first_of f key [] p = absurd (cc)
first_of f key (n ∷ ns) p =
    first_case f key (same_row key (f n)) n (filter (λ m. same_row key (f m)) ns) refl
    (λ q. first_of f key ns (or_rest (same_row (f n) key) (among (map f ns) key) p (differ key (f n) q)))

-- the first of each kind are among all
more_among : (r : List Datum) (rs ds : RowList) → AllByRecursion (λ d. among rs d ≡ true) ds → AllByRecursion (λ d. among (r ∷ rs) d ≡ true) ds
more_among r rs [] all = tt
more_among r rs (d ∷ ds) all = (or_right (same_row r d) (among rs d) all.0, more_among r rs ds all.1)

distinct_among : (rs : RowList) → AllByRecursion (λ d. among rs d ≡ true) (distinct_rows rs)
distinct_among [] = tt
distinct_among (r ∷ rs) = (
  or_left (same_row r r) (among rs r) (same_row_itself r),
  filter_keeps (λ d. among (r ∷ rs) d ≡ true) (λ s. not (same_row r s)) (distinct_rows rs) (more_among r rs (distinct_rows rs) (distinct_among rs)),
)

-- steps that agree, one by one
each_same : {A B C D : Type 0} (P : C → Type 0) (f : A → Result D DataFault) (h : B → Result D DataFault) (F : C → A) (H : C → B) → ((z : C) → P z → f (F z) ≡ h (H z))
    → (zs : List C) → AllByRecursion P zs → each f (map F zs) ≡ each h (map H zs)
each_same P f h F H same [] all = refl
each_same P f h F H same (z ∷ zs) all =
    λ i. next (same z all.0 i) (λ y. next (each_same P f h F H same zs all.1 i) (λ ys. Ok (y ∷ ys)))

any_planned : (params : List (List ℕ × Datum)) (columns : ColumnList) (es : List Tree) → has_key (plans params columns es) ≡ list_any (is_key columns) es
any_planned params columns [] = refl
any_planned params columns (e ∷ es) = ap (λ b. is_key columns e || b) (any_planned params columns es)

all_pass : (f : Note → List Datum) (notes : List Note) → ((n : Note) → f n ≡ []) → filter (λ n. same_row [] (f n)) notes ≡ notes
all_pass f [] none = refl
all_pass f (n ∷ ns) none =
    ap (λ k. cond (same_row [] k) (n ∷ filter (λ m. same_row [] (f m)) ns) (filter (λ m. same_row [] (f m)) ns)) (none n) ∙ ap (λ l. n ∷ l) (all_pass f ns none)

module _ (g : PropertyGraph) (params : List (List ℕ × Datum)) (columns : ColumnList) (es : List Tree) where
  -- a group's row, where its key is known
  group_is : (key : List Datum) (group : List Note) → AllByRecursion (Shaped columns es) group → (list_any (is_key columns) es ≡ true → 0 < length group)
      → ((parts : Note) → parts_from g params columns es group ≡ Ok parts → key_in columns es parts ≡ key)
      → row_of_group g (plans params columns es) (key, map (arguments_in columns es) group) ≡ group_row g params columns es group
  group_is key group shaped some keys =
      let rows : RowList = map (arguments_in columns es) group in
      let parts = parts_from g params columns es group in
      ap (λ (r : Result (List Datum) DataFault). next r (values_in_group g (plans params columns es) key)) (behind_is g params columns es [] rows group shaped (none_dropped rows))
      ∙ next_next parts (λ ps. arguments_in columns es ps) (values_in_group g (plans params columns es) key)
      ∙ next_same parts (λ ps. values_in_group g (plans params columns es) key (arguments_in columns es ps)) (item_values g params columns es)
      (λ ps p. ap (λ (k : List Datum). values_in_group g (plans params columns es) k (arguments_in columns es ps)) (sym (keys ps p))
      ∙ values_are g params columns es ps (parts_shaped g params columns es group ps some shaped p))
      ∙ ap (λ (r : Result (List (List Datum)) DataFault). next r (item_values g params columns es)) (sym (parts_are g params columns 0 es group ∙ ap (parts_from g params columns es) (none_dropped group)))

  -- a group of rows of which one at least is there
  first_group : (key : List Datum) (group : List Note) → First (key_in columns es) key group → AllByRecursion (Shaped columns es) group
      → row_of_group g (plans params columns es) (key, map (arguments_in columns es) group) ≡ group_row g params columns es group
  first_group key [] first shaped = absurd (cc)
  first_group key (m ∷ ms) first shaped =
      let same : m ≡ first.0 = cc in
      group_is key (m ∷ ms) shaped (λ q. omega arith) (λ ps p. parts_keys g params columns es m ms ps shaped.0 p ∙ ap (key_in columns es) same ∙ sym first.3)

  key_group : (notes : List Note) (key : List Datum) → AllByRecursion (Shaped columns es) notes → among (map (key_in columns es) notes) key ≡ true
      → row_of_group g (plans params columns es) (whole_group (map (key_in columns es) notes) (map (arguments_in columns es) notes) key)
      ≡ group_row g params columns es (group_with columns es notes key)
  key_group notes key shaped there =
      ap (λ (rows : RowList). row_of_group g (plans params columns es) (key, rows)) (with_key_is (key_in columns es) (arguments_in columns es) key notes)
      ∙ first_group key (group_with columns es notes key) (first_of (key_in columns es) key notes there) (filter_keeps (Shaped columns es) (λ n. same_row key (key_in columns es n)) notes shaped)

  one_group : (notes : List Note) → AllByRecursion (Shaped columns es) notes → list_any (is_key columns) es ≡ false
      → row_of_group g (plans params columns es) ([], map (arguments_in columns es) notes) ≡ group_row g params columns es (group_with columns es notes [])
  one_group notes shaped none =
      group_is [] notes shaped (λ q. absurd (cc)) (λ ps p. no_keys columns es ps none)
      ∙ ap (group_row g params columns es) (sym (all_pass (key_in columns es) notes (λ n. no_keys columns es n none)))

  all_case : (b : Bool) (notes : List Note) → list_any (is_key columns) es ≡ b → AllByRecursion (Shaped columns es) notes
      → each (row_of_group g (plans params columns es)) (all_groups b (map (key_in columns es) notes) (map (arguments_in columns es) notes))
      ≡ each (group_row g params columns es) (map (group_with columns es notes) (cond b (distinct_rows (map (key_in columns es) notes)) ([] ∷ [])))
  all_case true notes q shaped =
      let keys : RowList = map (key_in columns es) notes in
      let rows : RowList = map (arguments_in columns es) notes in
      let long : length keys ≡ length rows = map_long (key_in columns es) notes ∙ sym (map_long (arguments_in columns es) notes) in
      ap (each (row_of_group g (plans params columns es))) (gathered_all keys rows long)
      ∙ each_same (λ key. among keys key ≡ true) (row_of_group g (plans params columns es)) (group_row g params columns es) (whole_group keys rows) (group_with columns es notes) (λ key there. key_group notes key shaped there) (distinct_rows keys) (distinct_among keys)
  all_case false notes q shaped = ap (λ (r : Result (List Datum) DataFault). next r (λ y. Ok (y ∷ []))) (one_group notes shaped q)

  all_are : (rows : RowList) (notes : List Note) → each (note_row g params columns es) rows ≡ Ok notes
      → rows_of_groups g (plans params columns es) (map (key_in columns es) notes, map (arguments_in columns es) notes) ≡ each (group_row g params columns es) (groups_of columns es notes)
  all_are rows notes given =
      ap (λ b. each (row_of_group g (plans params columns es)) (all_groups b (map (key_in columns es) notes) (map (arguments_in columns es) notes))) (any_planned params columns es)
      ∙ all_case (list_any (is_key columns) es) notes refl (each_all (note_row g params columns es) (Shaped columns es) (λ row n p. note_shaped g params columns es row n p) rows notes given)

  -- all rows
  pub grouped_is : (rows : RowList) → next (rows_kept_behind g [] [] (plans params columns es) rows) (rows_of_groups g (plans params columns es)) ≡ grouped_rows g params columns es rows
  grouped_is rows =
      let notes = each (note_row g params columns es) rows in
      ap (λ (r : Result (RowList × RowList) DataFault). next r (rows_of_groups g (plans params columns es))) (rows_kept_is g params columns es [] [] rows)
      ∙ next_next notes (λ ns. (map (key_in columns es) ns, map (arguments_in columns es) ns)) (rows_of_groups g (plans params columns es))
      ∙ next_same notes (λ ns. rows_of_groups g (plans params columns es) (map (key_in columns es) ns, map (arguments_in columns es) ns)) (λ ns. each (group_row g params columns es) (groups_of columns es ns)) (λ ns p. all_are rows ns p)
