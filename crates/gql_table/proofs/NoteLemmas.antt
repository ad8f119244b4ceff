-- What is kept of rows, against what is noted of them: the keys, and the arguments, each in one list.
use Rattle.std.proofs.Common.{◌≡◌, ℕ, Bool, true, false, cond, List, [], ◌∷◌, ◌++◌, length, map, refl, sym, ap, subst, ◌∙◌, append_assoc, append-nil, Result, Ok, Err}
use Rattle.std.proofs.lemmas.Bool.{or_parts}
use Rattle.std.specs.Prelude.{filter, ◌||◌}
use Rattle.std.specs.List.{list_any, AllByRecursion}
use Rattle.gql_values3.specs.Datum.{Datum}
use Rattle.gql_values3.specs.PropertyGraph.{PropertyGraph}
use Rattle.gql_ast.specs.Tree.{Tree}
use Rattle.gql_ast.specs.Scope.{row_scope}
use Rattle.gql_ast.specs.Faults.{each}
use Rattle.gql_ast.specs.Evaluation.{value_of}
use Rattle.gql_ast.specs.ClauseColumns.{ColumnList}
use Rattle.gql_ast.specs.Projections.{has_none, is_key}
use Rattle.gql_ast.specs.RowAggregates.{RowAggregate, row_aggregates}
use Rattle.gql_ast.specs.declared.fault.DataFault.{DataFault}
use Rattle.gql_eval.specs.Machinery.Next.{next}
use Rattle.gql_eval.specs.Preparation.{Preparation}
use Rattle.gql_eval.specs.RowLists.{RowList}
use Rattle.gql_table.specs.Grouping.{Note, key_in, note_of, note_row}
use Rattle.gql_table.specs.Machinery.Preparations.{prepared_under, prepared_value}
use Rattle.gql_table.specs.Machinery.GroupPlan.{PreparedPlan, Kept, planned, prepared_plan, kept_with, note_in, kept_behind, rows_kept_behind}
use Rattle.gql_table.proofs.ReturnLemmas.{next_next, each_length}

-- what is prepared of the items
abbrev pub plan_of : List (List ℕ × Datum) → ColumnList → Tree → PreparedPlan
plan_of params columns e = prepared_plan columns params (planned columns e)

abbrev pub plans : List (List ℕ × Datum) → ColumnList → List Tree → List PreparedPlan
plans params columns es = map (plan_of params columns) es

pub plans_are : (params : List (List ℕ × Datum)) (columns : ColumnList) (es : List Tree) → map (prepared_plan columns params) (map (planned columns) es) ≡ plans params columns es
plans_are params columns [] = refl
plans_are params columns (e ∷ es) = ap (λ l. plan_of params columns e ∷ l) (plans_are params columns es)

module _ (columns : ColumnList) where
  -- the arguments among what is noted
  abbrev pub arguments_in : List Tree → Note → List Datum
  arguments_in (e ∷ es) (n ∷ ns) = cond (is_key columns e) (arguments_in es ns) (n ++ arguments_in es ns)
  arguments_in _ _ = []

kept_case : (b : Bool) (kept : Kept) (n K A : List Datum)
    → ◌≡◌ {A = Kept} ((cond {A = Kept} b (kept.0 ++ n, kept.1) (kept.0, kept.1 ++ n)).0 ++ K, (cond {A = Kept} b (kept.0 ++ n, kept.1) (kept.0, kept.1 ++ n)).1 ++ A)
    (kept.0 ++ cond b (n ++ K) K, kept.1 ++ cond b A (n ++ A))
kept_case true kept n K A = λ i. (append_assoc kept.0 n K i, kept.1 ++ A)
kept_case false kept n K A = λ i. (kept.0 ++ K, append_assoc kept.1 n A i)

module _ (g : PropertyGraph) (params : List (List ℕ × Datum)) (columns : ColumnList) where
  -- what is noted for an item
  arguments_are : (made : List RowAggregate) (row : List Datum)
      → each (λ (q : Preparation). prepared_value g q row) (map (prepared_under columns params) (map (λ (a : RowAggregate). a.argument) made))
      ≡ each (λ (a : RowAggregate). value_of g params (row_scope columns row) a.argument) made
  arguments_are [] row = refl
  arguments_are (a ∷ made) row =
      ap (λ (r : Result (List Datum) DataFault). next (value_of g params (row_scope columns row) a.argument) (λ d. next r (λ ds. Ok (d ∷ ds)))) (arguments_are made row)

  noted_case : (made : List RowAggregate) (e : Tree) (row : List Datum)
      → each (λ (q : Preparation). prepared_value g q row) (map (prepared_under columns params) (cond (has_none made) (e ∷ []) (map (λ (a : RowAggregate). a.argument) made)))
      ≡ cond (has_none made) (next (value_of g params (row_scope columns row) e) (λ d. Ok (d ∷ []))) (each (λ (a : RowAggregate). value_of g params (row_scope columns row) a.argument) made)
  noted_case [] e row = refl
  noted_case (a ∷ made) e row = arguments_are (a ∷ made) row

  note_is : (e : Tree) (row : List Datum) → note_in g (plan_of params columns e) row ≡ note_of g params columns e row
  note_is e row = noted_case (row_aggregates columns e) e row

  kept_step : (e : Tree) (es : List Tree) (kept : Kept) (row : List Datum) (r : Result (List Datum) DataFault)
      → ((k : Kept) → kept_behind g k (plans params columns es) row ≡ next (note_row g params columns es row) (λ n. Ok (k.0 ++ key_in columns es n, k.1 ++ arguments_in columns es n)))
      → next r (λ n. kept_behind g (kept_with (plan_of params columns e) kept n) (plans params columns es) row)
      ≡ next (next r (λ n. next (note_row g params columns es row) (λ ns. Ok (n ∷ ns)))) (λ n. Ok (kept.0 ++ key_in columns (e ∷ es) n, kept.1 ++ arguments_in columns (e ∷ es) n))
  kept_step e es kept row (Err f) more = refl
  kept_step e es kept row (Ok n) more =
      more (kept_with (plan_of params columns e) kept n)
      ∙ ap (λ (k : Note → Result Kept DataFault). next (note_row g params columns es row) k) (λ i ns. Ok (kept_case (is_key columns e) kept n (key_in columns es ns) (arguments_in columns es ns) i))
      ∙ sym (next_next (note_row g params columns es row) (λ ns. n ∷ ns) (λ m. Ok (kept.0 ++ key_in columns (e ∷ es) m, kept.1 ++ arguments_in columns (e ∷ es) m)))

  -- what is kept of a row
  kept_is : (es : List Tree) (kept : Kept) (row : List Datum)
      → kept_behind g kept (plans params columns es) row ≡ next (note_row g params columns es row) (λ n. Ok (kept.0 ++ key_in columns es n, kept.1 ++ arguments_in columns es n))
  kept_is [] kept row = λ i. Ok (sym (append-nil kept.0) i, sym (append-nil kept.1) i)
  kept_is (e ∷ es) kept row =
      ap (λ (r : Result (List Datum) DataFault). next r (λ n. kept_behind g (kept_with (plan_of params columns e) kept n) (plans params columns es) row)) (note_is e row)
      ∙ kept_step e es kept row (note_of g params columns e row) (λ k. kept_is es k row)

  rows_step : (es : List Tree) (keys arguments rows : RowList) (r : Result Note DataFault)
      → ((ks made : RowList) → rows_kept_behind g ks made (plans params columns es) rows
      ≡ next (each (note_row g params columns es) rows) (λ notes. Ok (ks ++ map (key_in columns es) notes, made ++ map (arguments_in columns es) notes)))
      → next (next r (λ n. Ok (key_in columns es n, arguments_in columns es n))) (λ (kept : Kept). rows_kept_behind g (keys ++ kept.0 ∷ []) (arguments ++ kept.1 ∷ []) (plans params columns es) rows)
      ≡ next (next r (λ n. next (each (note_row g params columns es) rows) (λ ns. Ok (n ∷ ns)))) (λ notes. Ok (keys ++ map (key_in columns es) notes, arguments ++ map (arguments_in columns es) notes))
  rows_step es keys arguments rows (Err f) more = refl
  rows_step es keys arguments rows (Ok n) more =
      more (keys ++ key_in columns es n ∷ []) (arguments ++ arguments_in columns es n ∷ [])
      ∙ ap (λ (k : List Note → Result (RowList × RowList) DataFault). next (each (note_row g params columns es) rows) k)
      (λ i ns. Ok (append_assoc keys (key_in columns es n ∷ []) (map (key_in columns es) ns) i, append_assoc arguments (arguments_in columns es n ∷ []) (map (arguments_in columns es) ns) i))
      ∙ sym (next_next (each (note_row g params columns es) rows) (λ ns. n ∷ ns) (λ notes. Ok (keys ++ map (key_in columns es) notes, arguments ++ map (arguments_in columns es) notes)))

  -- what is kept of all rows
  pub rows_kept_is : (es : List Tree) (keys arguments rows : RowList)
      → rows_kept_behind g keys arguments (plans params columns es) rows
      ≡ next (each (note_row g params columns es) rows) (λ notes. Ok (keys ++ map (key_in columns es) notes, arguments ++ map (arguments_in columns es) notes))
  rows_kept_is es keys arguments [] = λ i. Ok (sym (append-nil keys) i, sym (append-nil arguments) i)
  rows_kept_is es keys arguments (row ∷ rows) =
      ap (λ (r : Result Kept DataFault). next r (λ kept. rows_kept_behind g (keys ++ kept.0 ∷ []) (arguments ++ kept.1 ∷ []) (plans params columns es) rows)) (kept_is es ([], []) row)
      ∙ rows_step es keys arguments rows (note_row g params columns es row) (λ ks made. rows_kept_is es ks made rows)

-- how many values are noted for an item
abbrev pub width_of : List RowAggregate → ℕ
width_of [] = 1
width_of (a ∷ made) = length (a ∷ made)

-- so many values for each item
abbrev pub Shaped : ColumnList → List Tree → Note → Type 0
Shaped columns [] [] = Unit {0}
Shaped columns [] (n ∷ ns) = ⊥
Shaped columns (e ∷ es) [] = ⊥
Shaped columns (e ∷ es) (n ∷ ns) = (length n ≡ width_of (row_aggregates columns e)) × Shaped columns es ns

pub inside : {A : Type 0} {x y : A} → ◌≡◌ {A = Result A DataFault} (Ok x) (Ok y) → x ≡ y
inside p = cc

-- two steps that came to something
pub both_ok : {A : Type 0} (r : Result A DataFault) (s : Result (List A) DataFault) (ys : List A) → next r (λ y. next s (λ zs. Ok (y ∷ zs))) ≡ Ok ys
    → (y : A) × (zs : List A) × (r ≡ Ok y) × (s ≡ Ok zs) × (y ∷ zs ≡ ys)
both_ok (Err e) s ys p = absurd (cc)
both_ok (Ok y) (Err e) ys p = absurd (cc)
both_ok (Ok y) (Ok zs) ys p = (y, zs, refl, refl, inside p)

one_long : (r : Result Datum DataFault) (n : List Datum) → next r (λ d. Ok (d ∷ [])) ≡ Ok n → length n ≡ 1
one_long (Err e) n p = absurd (cc)
one_long (Ok d) n p = sym (ap length (inside p))

note_long : (made : List RowAggregate) (r : Result Datum DataFault) (f : RowAggregate → Result Datum DataFault) (n : List Datum)
    → cond (has_none made) (next r (λ d. Ok (d ∷ []))) (each f made) ≡ Ok n → length n ≡ width_of made
note_long [] r f n p = one_long r n p
note_long (a ∷ made) r f n p = each_length f (a ∷ made) n p

module _ (g : PropertyGraph) (params : List (List ℕ × Datum)) (columns : ColumnList) where
  pub note_shaped : (es : List Tree) (row : List Datum) (note : Note) → note_row g params columns es row ≡ Ok note → Shaped columns es note
  note_shaped [] row note p = subst (Shaped columns []) (inside p) tt
  note_shaped (e ∷ es) row note p =
      let both = both_ok (note_of g params columns e row) (note_row g params columns es row) note p in
      let long = note_long (row_aggregates columns e) (value_of g params (row_scope columns row) e) (λ a. value_of g params (row_scope columns row) a.argument) both.0 both.2 in
      subst (Shaped columns (e ∷ es)) both.4 (long, note_shaped es row both.1 both.3)

-- what each step gives
pub each_all : {A B : Type 0} (f : A → Result B DataFault) (P : B → Type 0) → ((x : A) (y : B) → f x ≡ Ok y → P y) → (xs : List A) (ys : List B) → each f xs ≡ Ok ys → AllByRecursion P ys
each_all f P h [] ys p = subst (AllByRecursion P) (inside p) tt
each_all f P h (x ∷ xs) ys p =
    let both = both_ok (f x) (each f xs) ys p in
    subst (AllByRecursion P) both.4 (h x both.0 both.2, each_all f P h xs both.1 both.3)

keeps_case : {A : Type 0} (P : A → Type 0) (b : Bool) (x : A) (xs : List A) → P x → AllByRecursion P xs → AllByRecursion P (cond b (x ∷ xs) xs)
keeps_case P true x xs p all = (p, all)
keeps_case P false x xs p all = all

pub filter_keeps : {A : Type 0} (P : A → Type 0) (t : A → Bool) (xs : List A) → AllByRecursion P xs → AllByRecursion P (filter t xs)
filter_keeps P t [] all = tt
filter_keeps P t (x ∷ xs) all = keeps_case P (t x) x (filter t xs) all.0 (filter_keeps P t xs all.1)

none_key : (b c : Bool) (n K : List Datum) → (b || c) ≡ false → K ≡ [] → cond b (n ++ K) K ≡ []
none_key true c n K p q = absurd (cc)
none_key false c n K p q = q

-- items of which none is a key have none
pub no_keys : (columns : ColumnList) (es : List Tree) (note : Note) → list_any (is_key columns) es ≡ false → key_in columns es note ≡ []
no_keys columns [] note p = refl
no_keys columns (e ∷ es) [] p = refl
no_keys columns (e ∷ es) (n ∷ ns) p =
    none_key (is_key columns e) (list_any (is_key columns) es) n (key_in columns es ns) p
    (no_keys columns es ns (or_parts (is_key columns e) (list_any (is_key columns) es) p).1)
