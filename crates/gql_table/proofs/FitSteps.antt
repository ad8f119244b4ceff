-- What all items have, all have that come of them: by a step for each, by a sort, behind a cut and in DISTINCT.
use Rattle.std.proofs.Common.{◌≡◌, ℕ, Bool, not, List, [], ◌∷◌, map, filter, All, Option, Some, None, Result, Ok, Err, refl, sym, subst}
use Rattle.std.specs.List.{flat_map}
use Rattle.std.specs.Ordering.{is_lt}
use Rattle.std.proofs.lemmas.Bool.{cond_both}
use Rattle.std.proofs.lemmas.List.Elements.{All-nil, All-cons, All-head, All-tail, All-same, All-append, All-map, All-take, All-drop, All-filter}
use Rattle.gql_values3.specs.Datum.{Datum}
use Rattle.gql_values3.specs.PropertyGraph.{PropertyGraph}
use Rattle.gql_ast.specs.Faults.{each}
use Rattle.gql_ast.specs.Meaning.{tree_of}
use Rattle.gql_ast.specs.Scope.{row_scope}
use Rattle.gql_ast.specs.Evaluation.{value_of}
use Rattle.gql_ast.specs.declared.fault.DataFault.{DataFault}
use Rattle.gql_ast.specs.declared.page.SortItem.{SortItem}
use Rattle.gql_ast.specs.declared.page.RowCount.{RowCount}
use Rattle.gql_ast.specs.ClauseColumns.{ColumnList}
use Rattle.gql_eval.specs.Machinery.Next.{next}
use Rattle.gql_eval.specs.RowLists.{RowList, each_some}
use Rattle.gql_table.specs.Distinct.{same_row, distinct_rows}
use Rattle.gql_eval.specs.StableSort.{inserted_in_order, stably_sorted}
use Rattle.gql_table.specs.Sorting.{sorted_by_keys, keys_cmp}
use Rattle.gql_table.specs.Paging.{Sortable, count_if, cut, keyed, no_more_than, ordered, paged, without_first}

-- a step that gave b was given something
pub next_gives : {A B : Type 0} (r : Result A DataFault) (f : A → Result B DataFault) (b : B) → next r f ≡ Ok b → (a : A) × (r ≡ Ok a) × (f a ≡ Ok b)
next_gives (Ok a) f b p = (a, refl, p)
next_gives (Err e) f b p = absurd (cc)

-- one thing is given
pub given_is : {A : Type 0} (a b : A) (r : Result A DataFault) → r ≡ Ok a → r ≡ Ok b → b ≡ a
given_is a b (Ok x) p q = cc
given_is a b (Err e) p q = absurd (cc)

-- a step for the first, and then for the others
pub cons_gives : {A : Type 0} (r : Result A DataFault) (s : Result (List A) DataFault) (ys : List A) → next r (λ y. next s (λ zs. Ok (y ∷ zs))) ≡ Ok ys
    → (z : A) × (zs : List A) × (r ≡ Ok z) × (s ≡ Ok zs) × (ys ≡ z ∷ zs)
cons_gives (Ok z) (Ok zs) ys p = (z, zs, refl, refl, given_is (z ∷ zs) ys (Ok (z ∷ zs)) refl p)
cons_gives (Ok z) (Err e) ys p = absurd (cc)
cons_gives (Err e) s ys p = absurd (cc)

module _ {A B : Type 0} (f : A → Result B DataFault) (P : A → Type 0) (Q : B → Type 0) (step : (x : A) (y : B) → P x → f x ≡ Ok y → Q y) where
  pub each_keeps : (xs : List A) (ys : List B) → All P xs → each f xs ≡ Ok ys → All Q ys
  each_keeps [] ys all p = All-same Q ys [] (given_is [] ys (Ok []) refl p) (All-nil Q)
  each_keeps (x ∷ xs) ys all p =
      let given = cons_gives (f x) (each f xs) ys p in
      All-same Q ys (given.0 ∷ given.1) given.4
      (All-cons Q given.0 given.1 (step x given.0 (All-head P x xs all) given.2) (each_keeps xs given.1 (All-tail P x xs all) given.3))

pub joined_keeps : {B : Type 0} (Q : B → Type 0) (yss : List (List B)) → All (All Q) yss → All Q (flat_map (λ zs. zs) yss)
joined_keeps Q [] all = All-nil Q
joined_keeps Q (ys ∷ yss) all = All-append Q ys (flat_map (λ zs. zs) yss) (All-head (All Q) ys yss all) (joined_keeps Q yss (All-tail (All Q) ys yss all))

module _ {A B : Type 0} (f : A → Result (List B) DataFault) (P : A → Type 0) (Q : B → Type 0) (step : (x : A) (ys : List B) → P x → f x ≡ Ok ys → All Q ys) where
  pub each_some_keeps : (xs : List A) (ys : List B) → All P xs → each_some f xs ≡ Ok ys → All Q ys
  each_some_keeps xs ys all p =
      let given = next_gives (each f xs) (λ yss. Ok (flat_map (λ zs. zs) yss)) ys p in
      All-same Q ys (flat_map (λ zs. zs) given.0) (given_is (flat_map (λ zs. zs) given.0) ys (Ok (flat_map (λ zs. zs) given.0)) refl given.2)
      (joined_keeps Q given.0 (each_keeps f P (All Q) step xs given.0 all given.1))

module _ {X : Type 0} (before : X → X → Bool) (Q : X → Type 0) where
  inserted_keeps : (x : X) (ys : List X) → Q x → All Q ys → All Q (inserted_in_order before x ys)
  inserted_keeps x [] here all = All-cons Q x [] here all
  inserted_keeps x (y ∷ ys) here all =
      cond_both (before y x) (y ∷ inserted_in_order before x ys) (x ∷ y ∷ ys) (All Q)
      (λ _. All-cons Q y (inserted_in_order before x ys) (All-head Q y ys all) (inserted_keeps x ys here (All-tail Q y ys all)))
      (λ _. All-cons Q x (y ∷ ys) here all)

  pub sorted_keeps : (xs : List X) → All Q xs → All Q (stably_sorted before xs)
  sorted_keeps [] all = all
  sorted_keeps (x ∷ xs) all = inserted_keeps x (stably_sorted before xs) (All-head Q x xs all) (sorted_keeps xs (All-tail Q x xs all))

pub distinct_keeps : (Q : List Datum → Type 0) (rows : RowList) → All Q rows → All Q (distinct_rows rows)
distinct_keeps Q [] all = all
distinct_keeps Q (r ∷ rs) all =
    All-cons Q r (filter (λ s. not (same_row r s)) (distinct_rows rs)) (All-head Q r rs all)
    (All-filter (λ s. not (same_row r s)) Q (distinct_rows rs) (distinct_keeps Q rs (All-tail Q r rs all)))

module _ (g : PropertyGraph) (params : List (List ℕ × Datum)) (columns : ColumnList) (Q : List Datum → Type 0) where
  keyed_keeps : (items : List SortItem) (o : Sortable) (k : List Datum × List Datum) → Q o.0 → keyed g params columns items o ≡ Ok k → Q k.1
  keyed_keeps items o k here p =
      let keys = next_gives (each (λ (i : SortItem). value_of g params (row_scope columns o.1) (tree_of i.key)) items) (λ ks. Ok (ks, o.0)) k p in
      subst (λ (x : List Datum × List Datum). Q x.1) (sym (given_is (keys.0, o.0) k (Ok (keys.0, o.0)) refl keys.2)) here

  pub ordered_keeps : (order : Option (List SortItem)) (given : List Sortable) (rows : RowList) → All (λ (o : Sortable). Q o.0) given
      → ordered g params columns order given ≡ Ok rows → All Q rows
  ordered_keeps None given rows all p =
      let outs = map (λ (o : Sortable). o.0) given in
      All-same Q rows outs (given_is outs rows (Ok outs) refl p) (All-map Q (λ (o : Sortable). o.0) given all)
  ordered_keeps (Some items) given rows all p =
      let keys = next_gives (each (keyed g params columns items) given) (λ ks. Ok (map (λ (k : List Datum × List Datum). k.1) (sorted_by_keys items ks))) rows p in
      let outs = map (λ (k : List Datum × List Datum). k.1) (sorted_by_keys items keys.0) in
      All-same Q rows outs (given_is outs rows (Ok outs) refl keys.2)
      (All-map Q (λ (k : List Datum × List Datum). k.1) (sorted_by_keys items keys.0)
      (sorted_keeps (λ (a b : List Datum × List Datum). is_lt (keys_cmp items a.0 b.0)) (λ (k : List Datum × List Datum). Q k.1) keys.0
      (each_keeps (keyed g params columns items) (λ (o : Sortable). Q o.0) (λ (k : List Datum × List Datum). Q k.1) (keyed_keeps items) given keys.0 all keys.1)))

  without_keeps : (n : Option ℕ) (rows : RowList) → All Q rows → All Q (without_first n rows)
  without_keeps None rows all = all
  without_keeps (Some n) rows all = All-drop Q n rows all

  no_more_keeps : (n : Option ℕ) (rows : RowList) → All Q rows → All Q (no_more_than n rows)
  no_more_keeps None rows all = all
  no_more_keeps (Some n) rows all = All-take Q n rows all

  cut_keeps : (skip limit : Option RowCount) (given rows : RowList) → All Q given → cut params skip limit given ≡ Ok rows → All Q rows
  cut_keeps skip limit given rows all p =
      let s = next_gives (count_if params skip) (λ m. next (count_if params limit) (λ l. Ok (no_more_than l (without_first m given)))) rows p in
      let l = next_gives (count_if params limit) (λ n. Ok (no_more_than n (without_first s.0 given))) rows s.2 in
      let left = no_more_than l.0 (without_first s.0 given) in
      All-same Q rows left (given_is left rows (Ok left) refl l.2) (no_more_keeps l.0 (without_first s.0 given) (without_keeps s.0 given all))

  pub paged_keeps : (order : Option (List SortItem)) (skip limit : Option RowCount) (given : List Sortable) (rows : RowList) → All (λ (o : Sortable). Q o.0) given
      → paged g params columns order skip limit given ≡ Ok rows → All Q rows
  paged_keeps order skip limit given rows all p =
      let outs = next_gives (ordered g params columns order given) (λ rs. cut params skip limit rs) rows p in
      cut_keeps skip limit outs.0 rows (ordered_keeps order given outs.0 all outs.1) outs.2
