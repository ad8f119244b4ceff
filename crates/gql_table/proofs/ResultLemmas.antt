-- The results of all items stand in one list, and arguments in one list a row: the parts of the items are pieces of them.
use Rattle.std.proofs.Common.{◌≡◌, ℕ, zero, suc, ◌+◌, ◌<◌, ◌≤◌, Bool, true, false, cond, not, List, [], ◌∷◌, ◌++◌, length, map, take, drop, refl, sym, ap, subst, ◌∙◌, append_assoc, append-nil, add-zero, add-suc, length-append, arith, Result, Ok, Err}
use Rattle.std.specs.Prelude.{slice_index_or, filter}
use Rattle.std.specs.List.{list_any, AllByRecursion}
use Rattle.std.proofs.lemmas.List.{get_or_append_left, get_or-drop}
use Rattle.std.proofs.Common.{drop-drop}
use Rattle.std.proofs.lemmas.Bool.{or_right, or_left}
use Rattle.gql_values3.specs.Datum.{Datum, null}
use Rattle.gql_values3.specs.Datum.{is_null}
use Rattle.gql_values3.specs.PropertyGraph.{PropertyGraph}
use Rattle.gql_values3.specs.declared.table.ColumnKind.TheVariants as kind
use Rattle.gql_ast.specs.Tree.{Tree}
use Rattle.gql_ast.specs.Scope.{row_scope}
use Rattle.gql_ast.specs.Evaluation.{value_of}
use Rattle.gql_ast.specs.Aggregates.{considered, distinct, aggregated}
use Rattle.gql_ast.specs.declared.words.SetQuantifier.{SetQuantifier}
use Rattle.gql_ast.specs.declared.words.SetQuantifier.TheVariants as quantifier
use Rattle.gql_ast.specs.ClauseColumns.{ColumnList}
use Rattle.gql_ast.specs.Projections.{has_none, is_key}
use Rattle.gql_ast.specs.RowAggregates.{RowAggregate, row_aggregates, around, result_name}
use Rattle.gql_ast.specs.declared.fault.DataFault.{DataFault}
use Rattle.gql_eval.specs.Machinery.Next.{next}
use Rattle.gql_eval.specs.RowLists.{RowList}
use Rattle.gql_table.specs.Sorting.{first_key, later_keys}
use Rattle.gql_table.specs.Grouping.{Note, key_in, notes_at, results, result_columns, group_part, group_parts, item_value, item_values}
use Rattle.gql_table.specs.Machinery.GroupPlan.{names_from, results_behind, value_in_group, values_in_group, keys_behind}
use Rattle.gql_table.proofs.ReturnLemmas.{next_next, each_length_cons}
use Rattle.gql_table.proofs.NoteLemmas.{plan_of, plans, arguments_in, Shaped, width_of, both_ok}

-- the note of the first item, and those of the later ones
abbrev pub first_note : Note → List Datum
first_note [] = []
first_note (n ∷ ns) = n

abbrev pub later_notes : Note → Note
later_notes [] = []
later_notes (n ∷ ns) = ns

first_at : (i : ℕ) (n : Note) → slice_index_or n i [] ≡ first_note (drop i n)
first_at zero [] = refl
first_at zero (x ∷ xs) = refl
first_at (suc i) [] = refl
first_at (suc i) (x ∷ xs) = first_at i xs

later_at : (i : ℕ) (n : Note) → drop (suc i) n ≡ later_notes (drop i n)
later_at zero [] = refl
later_at zero (x ∷ xs) = refl
later_at (suc i) [] = refl
later_at (suc i) (x ∷ xs) = later_at i xs

firsts_at : (i : ℕ) (group : List Note) → notes_at i group ≡ map first_note (map (drop i) group)
firsts_at i [] = refl
firsts_at i (n ∷ ns) = λ k. first_at i n k ∷ firsts_at i ns k

laters_at : (i : ℕ) (group : List Note) → map (drop (suc i)) group ≡ map later_notes (map (drop i) group)
laters_at i [] = refl
laters_at i (n ∷ ns) = λ k. later_at i n k ∷ laters_at i ns k

pub none_dropped : {A : Type 0} (xss : List (List A)) → map (drop 0) xss ≡ xss
none_dropped [] = refl
none_dropped (xs ∷ xss) = ap (λ l. xs ∷ l) (none_dropped xss)

none_empty : (made : List RowAggregate) → has_none made ≡ true → made ≡ []
none_empty [] p = refl
none_empty (a ∷ made) p = absurd (cc)

width_other : (made : List RowAggregate) → has_none made ≡ false → width_of made ≡ length made
width_other [] p = absurd (cc)
width_other (a ∷ made) p = refl

width_key : (made : List RowAggregate) → has_none made ≡ true → width_of made ≡ 1
width_key [] p = refl
width_key (a ∷ made) p = absurd (cc)

-- what an argument was in each row
abbrev values_at : ℕ → RowList → List Datum
values_at j rows = map (λ (r : List Datum). slice_index_or r j null) rows

values_shift : (s j : ℕ) (rows : RowList) → values_at (s + j) rows ≡ values_at j (map (drop s) rows)
values_shift s j [] = refl
values_shift s j (r ∷ rs) = λ k. sym (get_or-drop s r j null) k ∷ values_shift s j rs k

results_shift : (s j : ℕ) (made : List RowAggregate) (rows : RowList) → results (s + j) made rows ≡ results j made (map (drop s) rows)
results_shift s j [] rows = refl
results_shift s j (a ∷ made) rows =
    let more : results (suc (s + j)) made rows ≡ results (suc j) made (map (drop s) rows) = ap (λ n. results n made rows) (sym (add-suc s j)) ∙ results_shift s (suc j) made rows in
    λ k. next (aggregated a.makes (considered a.quantifier (values_shift s j rows k))) (λ d. next (more k) (λ ds. Ok (d ∷ ds)))

values_front : (j : ℕ) (f h : Note → List Datum) (G : List Note) → AllByRecursion (λ n. j < length (f n)) G → values_at j (map (λ n. f n ++ h n) G) ≡ values_at j (map f G)
values_front j f h [] all = refl
values_front j f h (n ∷ ns) all = λ k. get_or_append_left (f n) (h n) null j all.0 k ∷ values_front j f h ns all.1 k

within : (made : List RowAggregate) (j : ℕ) (f : Note → List Datum) (G : List Note) → AllByRecursion (λ n. j + suc (length made) ≤ length (f n)) G → AllByRecursion (λ n. j < length (f n)) G
within made j f [] all = tt
within made j f (n ∷ ns) all = (omega (arith, all.0), within made j f ns all.1)

onward : (made : List RowAggregate) (j : ℕ) (f : Note → List Datum) (G : List Note) → AllByRecursion (λ n. j + suc (length made) ≤ length (f n)) G → AllByRecursion (λ n. suc j + length made ≤ length (f n)) G
onward made j f [] all = tt
onward made j f (n ∷ ns) all = (omega (arith, all.0), onward made j f ns all.1)

-- results look at the front of the arguments alone
results_front : (j : ℕ) (made : List RowAggregate) (f h : Note → List Datum) (G : List Note) → AllByRecursion (λ n. j + length made ≤ length (f n)) G
    → results j made (map (λ n. f n ++ h n) G) ≡ results j made (map f G)
results_front j [] f h G all = refl
results_front j (a ∷ made) f h G all =
    let here = values_front j f h G (within made j f G all) in
    let more = results_front (suc j) made f h G (onward made j f G all) in
    λ k. next (aggregated a.makes (considered a.quantifier (here k))) (λ d. next (more k) (λ ds. Ok (d ∷ ds)))

results_long : (j : ℕ) (made : List RowAggregate) (rows : RowList) (ds : List Datum) → results j made rows ≡ Ok ds → length ds ≡ length made
results_long j [] rows ds p = sym (ap length (inside p))
  where
    inside : {x y : List Datum} → ◌≡◌ {A = Result (List Datum) DataFault} (Ok x) (Ok y) → x ≡ y
    inside q = cc
results_long j (a ∷ made) rows ds p =
    each_length_cons (aggregated a.makes (considered a.quantifier (values_at j rows))) (results (suc j) made rows) made ds p (λ zs q. results_long (suc j) made rows zs q)

dropped_front : (a : ℕ) (x y : List Datum) → length x ≡ a → drop a (x ++ y) ≡ y
dropped_front a x y p = ap (λ n. drop n (x ++ y)) (sym p) ∙ front x y
  where
    front : (x y : List Datum) → drop (length x) (x ++ y) ≡ y
    front [] y = refl
    front (d ∷ ds) y = front ds y

module _ (g : PropertyGraph) (params : List (List ℕ × Datum)) (columns : ColumnList) where
  -- the parts of a group, item by item
  abbrev pub parts_from : List Tree → List Note → Result (List (List Datum)) DataFault
  parts_from [] G = Ok []
  parts_from (e ∷ es) G = next (group_part g params columns e (map first_note G)) (λ p. next (parts_from es (map later_notes G)) (λ ps. Ok (p ∷ ps)))

  pub parts_are : (i : ℕ) (es : List Tree) (group : List Note) → group_parts g params columns i es group ≡ parts_from es (map (drop i) group)
  parts_are i [] group = refl
  parts_are i (e ∷ es) group =
      let more : group_parts g params columns (suc i) es group ≡ parts_from es (map later_notes (map (drop i) group)) = parts_are (suc i) es group ∙ ap (parts_from es) (laters_at i group) in
      λ k. next (group_part g params columns e (firsts_at i group k)) (λ p. next (more k) (λ ps. Ok (p ∷ ps)))

  -- the first of a list of notes
  abbrev pub head_note : RowList → List Datum
  head_note [] = []
  head_note (n ∷ ns) = n

  key_part : (e : Tree) (G : RowList) → is_key columns e ≡ true → group_part g params columns e G ≡ Ok (head_note G)
  key_part e [] k = ap (λ b. cond b (Ok []) (results 0 (row_aggregates columns e) [])) k
  key_part e (n ∷ ns) k = ap (λ b. cond b (Ok n) (results 0 (row_aggregates columns e) (n ∷ ns))) k

  other_part : (e : Tree) (G : RowList) → is_key columns e ≡ false → group_part g params columns e G ≡ results 0 (row_aggregates columns e) G
  other_part e [] k = ap (λ b. cond b (Ok []) (results 0 (row_aggregates columns e) [])) k
  other_part e (n ∷ ns) k = ap (λ b. cond b (Ok n) (results 0 (row_aggregates columns e) (n ∷ ns))) k

  later_shaped : (e : Tree) (es : List Tree) (G : List Note) → AllByRecursion (Shaped columns (e ∷ es)) G → AllByRecursion (Shaped columns es) (map later_notes G)
  later_shaped e es [] all = tt
  later_shaped e es ([] ∷ ns) all = absurd all.0
  later_shaped e es ((x ∷ xs) ∷ ns) all = (all.0.1, later_shaped e es ns all.1)

  key_arguments : (e : Tree) (es : List Tree) (G : List Note) → is_key columns e ≡ true → AllByRecursion (Shaped columns (e ∷ es)) G
      → map (arguments_in columns (e ∷ es)) G ≡ map (arguments_in columns es) (map later_notes G)
  key_arguments e es [] k all = refl
  key_arguments e es ([] ∷ ns) k all = absurd all.0
  key_arguments e es ((x ∷ xs) ∷ ns) k all = λ i. cond (k i) (arguments_in columns es xs) (x ++ arguments_in columns es xs) ∷ key_arguments e es ns k all.1 i

  other_arguments : (e : Tree) (es : List Tree) (G : List Note) → is_key columns e ≡ false → AllByRecursion (Shaped columns (e ∷ es)) G
      → map (arguments_in columns (e ∷ es)) G ≡ map (λ (n : Note). first_note n ++ arguments_in columns es (later_notes n)) G
  other_arguments e es [] k all = refl
  other_arguments e es ([] ∷ ns) k all = absurd all.0
  other_arguments e es ((x ∷ xs) ∷ ns) k all = λ i. cond (k i) (arguments_in columns es xs) (x ++ arguments_in columns es xs) ∷ other_arguments e es ns k all.1 i

  first_long : (e : Tree) (es : List Tree) (G : List Note) → is_key columns e ≡ false → AllByRecursion (Shaped columns (e ∷ es)) G
      → AllByRecursion (λ (n : Note). 0 + length (row_aggregates columns e) ≤ length (first_note n)) G
  first_long e es [] k all = tt
  first_long e es ([] ∷ ns) k all = absurd all.0
  first_long e es ((x ∷ xs) ∷ ns) k all = (omega (arith, all.0.0, width_other (row_aggregates columns e) k), first_long e es ns k all.1)

  -- the arguments behind those of an item
  rest_arguments : (e : Tree) (es : List Tree) (G : List Note) → is_key columns e ≡ false → AllByRecursion (Shaped columns (e ∷ es)) G
      → map (drop (length (row_aggregates columns e))) (map (λ (n : Note). first_note n ++ arguments_in columns es (later_notes n)) G) ≡ map (arguments_in columns es) (map later_notes G)
  rest_arguments e es [] k all = refl
  rest_arguments e es ([] ∷ ns) k all = absurd all.0
  rest_arguments e es ((x ∷ xs) ∷ ns) k all =
      λ i. dropped_front (length (row_aggregates columns e)) x (arguments_in columns es xs) (all.0.0 ∙ width_other (row_aggregates columns e) k) i ∷ rest_arguments e es ns k all.1 i

  dropped_twice : (s a : ℕ) (rows : RowList) → map (drop (s + a)) rows ≡ map (drop a) (map (drop s) rows)
  dropped_twice s a [] = refl
  dropped_twice s a (r ∷ rs) = λ i. dropped s a r i ∷ dropped_twice s a rs i
    where
      dropped : (s a : ℕ) (r : List Datum) → drop (s + a) r ≡ drop a (drop s r)
      dropped s a r = sym (drop-drop a s r)

  -- what the results of items come to
  abbrev Behind : List Tree → List Datum → RowList → List Note → Type 0
  Behind es done rows G = results_behind done (plans params columns es) rows ≡ next (parts_from es G) (λ parts. Ok (done ++ arguments_in columns es parts))

  behind_key : (e : Tree) (es : List Tree) (done : List Datum) (rows : RowList) (G : List Note) → is_key columns e ≡ true
      → Behind es done rows (map later_notes G) → Behind (e ∷ es) done rows G
  behind_key e es done rows G k more =
      ap (λ made. next (results (length done) made rows) (λ ds. results_behind (done ++ ds) (plans params columns es) rows)) (none_empty (row_aggregates columns e) k)
      ∙ ap (λ d. results_behind d (plans params columns es) rows) (append-nil done)
      ∙ more
      ∙ ap (λ (f : Note → Result (List Datum) DataFault). next (parts_from es (map later_notes G)) f)
      (λ i ps. Ok (done ++ cond (sym k i) (arguments_in columns es ps) (head_note (map first_note G) ++ arguments_in columns es ps)))
      ∙ sym (next_next (parts_from es (map later_notes G)) (λ ps. head_note (map first_note G) ∷ ps) (λ parts. Ok (done ++ arguments_in columns (e ∷ es) parts)))
      ∙ ap (λ (r : Result (List Datum) DataFault). next (next r (λ p. next (parts_from es (map later_notes G)) (λ ps. Ok (p ∷ ps)))) (λ parts. Ok (done ++ arguments_in columns (e ∷ es) parts)))
      (sym (key_part e (map first_note G) k))

  behind_case : (e : Tree) (es : List Tree) (done : List Datum) (rows : RowList) (G : List Note) (r : Result (List Datum) DataFault) → is_key columns e ≡ false
      → ((ds : List Datum) → r ≡ Ok ds → Behind es (done ++ ds) rows (map later_notes G))
      → next r (λ ds. results_behind (done ++ ds) (plans params columns es) rows)
      ≡ next (next r (λ p. next (parts_from es (map later_notes G)) (λ ps. Ok (p ∷ ps)))) (λ parts. Ok (done ++ arguments_in columns (e ∷ es) parts))
  behind_case e es done rows G (Err f) k more = refl
  behind_case e es done rows G (Ok ds) k more =
      more ds refl
      ∙ ap (λ (f : Note → Result (List Datum) DataFault). next (parts_from es (map later_notes G)) f)
      (λ i ps. Ok ((append_assoc done ds (arguments_in columns es ps) ∙ (λ j. done ++ cond (sym k j) (arguments_in columns es ps) (ds ++ arguments_in columns es ps))) i))
      ∙ sym (next_next (parts_from es (map later_notes G)) (λ ps. ds ∷ ps) (λ parts. Ok (done ++ arguments_in columns (e ∷ es) parts)))

  behind_other : (e : Tree) (es : List Tree) (done : List Datum) (rows : RowList) (G : List Note) → is_key columns e ≡ false → AllByRecursion (Shaped columns (e ∷ es)) G
      → map (drop (length done)) rows ≡ map (arguments_in columns (e ∷ es)) G
      → ((ds : List Datum) → map (drop (length (done ++ ds))) rows ≡ map (arguments_in columns es) (map later_notes G) → Behind es (done ++ ds) rows (map later_notes G))
      → Behind (e ∷ es) done rows G
  behind_other e es done rows G k shaped h more =
      let made = row_aggregates columns e in
      let s = length done in
      let split : map (drop s) rows ≡ map (λ (n : Note). first_note n ++ arguments_in columns es (later_notes n)) G = h ∙ other_arguments e es G k shaped in
      let here : results s made rows ≡ results 0 made (map first_note G) =
      ap (λ n. results n made rows) (sym (add-zero s)) ∙ results_shift s 0 made rows ∙ ap (results 0 made) split
      ∙ results_front 0 made first_note (λ n. arguments_in columns es (later_notes n)) G (first_long e es G k shaped) in
      let left : (ds : List Datum) → results s made rows ≡ Ok ds → map (drop (length (done ++ ds))) rows ≡ map (arguments_in columns es) (map later_notes G) =
      λ ds q. ap (λ n. map (drop n) rows) (length-append done ds ∙ ap (λ n. s + n) (results_long s made rows ds q)) ∙ dropped_twice s (length made) rows ∙ ap (map (drop (length made))) split
      ∙ rest_arguments e es G k shaped in
      behind_case e es done rows G (results s made rows) k (λ ds q. more ds (left ds q))
      ∙ ap (λ (r : Result (List Datum) DataFault). next (next r (λ p. next (parts_from es (map later_notes G)) (λ ps. Ok (p ∷ ps)))) (λ parts. Ok (done ++ arguments_in columns (e ∷ es) parts)))
      (here ∙ sym (other_part e (map first_note G) k))

  behind_either : (e : Tree) (es : List Tree) (done : List Datum) (rows : RowList) (G : List Note) (b : Bool) → is_key columns e ≡ b → AllByRecursion (Shaped columns (e ∷ es)) G
      → map (drop (length done)) rows ≡ map (arguments_in columns (e ∷ es)) G
      → ((d : List Datum) → map (drop (length d)) rows ≡ map (arguments_in columns es) (map later_notes G) → Behind es d rows (map later_notes G))
      → Behind (e ∷ es) done rows G
  behind_either e es done rows G true k shaped h more = behind_key e es done rows G k (more done (h ∙ key_arguments e es G k shaped))
  behind_either e es done rows G false k shaped h more = behind_other e es done rows G k shaped h (λ ds. more (done ++ ds))

  -- the results of all items
  pub behind_is : (es : List Tree) (done : List Datum) (rows : RowList) (G : List Note) → AllByRecursion (Shaped columns es) G
      → map (drop (length done)) rows ≡ map (arguments_in columns es) G
      → results_behind done (plans params columns es) rows ≡ next (parts_from es G) (λ parts. Ok (done ++ arguments_in columns es parts))
  behind_is [] done rows G shaped h = ap Ok (sym (append-nil done))
  behind_is (e ∷ es) done rows G shaped h =
      behind_either e es done rows G (is_key columns e) refl shaped h (λ d. behind_is es d rows (map later_notes G) (later_shaped e es G shaped))

  nonempty_case : (b : Bool) (e : Tree) (es : List Tree) (G : List Note) (p : List Datum) → is_key columns e ≡ b → group_part g params columns e (map first_note G) ≡ Ok p
      → (b ≡ true → 0 < length G) → AllByRecursion (Shaped columns (e ∷ es)) G → length p ≡ width_of (row_aggregates columns e)
  nonempty_case true e es [] p k given some shaped = absurd (omega (arith, some refl))
  nonempty_case true e es ([] ∷ ns) p k given some shaped = absurd shaped.0
  nonempty_case true e es ((x ∷ xs) ∷ ns) p k given some shaped =
      let same : ◌≡◌ {A = Result (List Datum) DataFault} (Ok x) (Ok p) = sym (key_part e (map first_note ((x ∷ xs) ∷ ns)) k) ∙ given in
      let it : x ≡ p = cc in
      sym (ap length it) ∙ shaped.0.0
  nonempty_case false e es G p k given some shaped =
      results_long 0 (row_aggregates columns e) (map first_note G) p (sym (other_part e (map first_note G) k) ∙ given) ∙ sym (width_other (row_aggregates columns e) k)

  map_some : {A B : Type 0} (f : A → B) (xs : List A) → 0 < length xs → 0 < length (map f xs)
  map_some f [] p = p
  map_some f (x ∷ xs) p = omega arith

  -- parts are shaped made notes are
  pub parts_shaped : (es : List Tree) (G : List Note) (parts : Note) → (list_any (is_key columns) es ≡ true → 0 < length G) → AllByRecursion (Shaped columns es) G
      → parts_from es G ≡ Ok parts → Shaped columns es parts
  parts_shaped [] G [] some shaped given = tt
  parts_shaped [] G (p ∷ ps) some shaped given = absurd (cc)
  parts_shaped (e ∷ es) G parts some shaped given =
      let both = both_ok (group_part g params columns e (map first_note G)) (parts_from es (map later_notes G)) parts given in
      let long = nonempty_case (is_key columns e) e es G both.0 refl both.2 (λ q. some (or_left (is_key columns e) (list_any (is_key columns) es) q)) shaped in
      let more = parts_shaped es (map later_notes G) both.1 (λ q. map_some later_notes G (some (or_right (is_key columns e) (list_any (is_key columns) es) q))) (later_shaped e es G shaped) both.3 in
      subst (Shaped columns (e ∷ es)) both.4 (long, more)

  key_case : (b : Bool) (e : Tree) (x p : List Datum) (xs K L : List Datum) (ns : List Note) → is_key columns e ≡ b → group_part g params columns e (x ∷ map first_note ns) ≡ Ok p → K ≡ L
      → cond b (p ++ K) K ≡ cond b (x ++ L) L
  key_case true e x p xs K L ns k given q =
      let same : ◌≡◌ {A = Result (List Datum) DataFault} (Ok x) (Ok p) = sym (key_part e (x ∷ map first_note ns) k) ∙ given in
      let it : p ≡ x = cc in
      λ i. it i ++ q i
  key_case false e x p xs K L ns k given q = q

  -- the keys of a group are those of its first row
  pub parts_keys : (es : List Tree) (n : Note) (ns : List Note) (parts : Note) → Shaped columns es n → parts_from es (n ∷ ns) ≡ Ok parts → key_in columns es parts ≡ key_in columns es n
  parts_keys [] n ns parts shaped given = refl
  parts_keys (e ∷ es) [] ns parts shaped given = absurd shaped
  parts_keys (e ∷ es) (x ∷ xs) ns parts shaped given =
      let both = both_ok (group_part g params columns e (x ∷ map first_note ns)) (parts_from es (xs ∷ map later_notes ns)) parts given in
      let more = parts_keys es xs (map later_notes ns) both.1 shaped.1 both.3 in
      sym (ap (key_in columns (e ∷ es)) both.4)
      ∙ key_case (is_key columns e) e x both.0 [] (key_in columns es both.1) (key_in columns es xs) ns refl both.2 more

names_are : (n : ℕ) (part : List Datum) → names_from n (length part) ≡ result_columns n part
names_are n [] = refl
names_are n (d ∷ ds) = ap (λ cs. (result_name n, kind.Plain) ∷ cs) (names_are (suc n) ds)

taken_front : (a : ℕ) (x y : List Datum) → length x ≡ a → take a (x ++ y) ≡ x
taken_front a x y p = ap (λ n. take n (x ++ y)) (sym p) ∙ front x y
  where
    front : (x y : List Datum) → take (length x) (x ++ y) ≡ x
    front [] y = refl
    front (d ∷ ds) y = ap (λ l. d ∷ l) (front ds y)

module _ (g : PropertyGraph) (params : List (List ℕ × Datum)) (columns : ColumnList) where
  -- the first item's value, and what is left for the others
  abbrev One : Tree → List Datum → List Datum → List Datum → List Datum → List Datum → Type 0
  One e p K A keys done =
      (value_in_group g (plan_of params columns e) keys (take (length (row_aggregates columns e)) done) ≡ item_value g params columns e p)
      × (keys_behind (plan_of params columns e) keys ≡ K) × (drop (length (row_aggregates columns e)) done ≡ A)

  one_key : (e : Tree) (p K A : List Datum) → is_key columns e ≡ true → length p ≡ 1 → One e p K A (p ++ K) A
  one_key e [] K A k long = absurd (omega (arith, long))
  one_key e (d ∷ []) K A k long = (
    ap (λ b. cond b (Ok d) (value_of g params (row_scope (names_from 0 (length (row_aggregates columns e))) (take (length (row_aggregates columns e)) A)) (around columns 0 e))) k
        ∙ sym (ap (λ b. cond b (Ok d) (value_of g params (row_scope (result_columns 0 (d ∷ [])) (d ∷ [])) (around columns 0 e))) k),
    ap (λ b. cond b K (d ∷ K)) k,
    ap (λ made. drop (length made) A) (none_empty (row_aggregates columns e) k),
  )
  one_key e (d ∷ c ∷ more) K A k long = absurd (omega (arith, long))

  one_other : (e : Tree) (p K A : List Datum) → is_key columns e ≡ false → length p ≡ length (row_aggregates columns e) → One e p K A K (p ++ A)
  one_other e p K A k long =
      let made = row_aggregates columns e in
      let front : take (length made) (p ++ A) ≡ p = taken_front (length made) p A long in
      let names : names_from 0 (length made) ≡ result_columns 0 p = ap (names_from 0) (sym long) ∙ names_are 0 p in (
        ap (λ b. cond b (Ok (first_key K)) (value_of g params (row_scope (names_from 0 (length made)) (take (length made) (p ++ A))) (around columns 0 e))) k
            ∙ (λ i. value_of g params (row_scope (names i) (front i)) (around columns 0 e))
            ∙ sym (ap (λ b. cond b (Ok (slice_index_or p 0 null)) (value_of g params (row_scope (result_columns 0 p) p) (around columns 0 e))) k),
        ap (λ b. cond b (later_keys K) K) k,
        dropped_front (length made) p A long,
      )

  one_case : (b : Bool) (e : Tree) (p K A : List Datum) → is_key columns e ≡ b → length p ≡ width_of (row_aggregates columns e)
      → One e p K A (cond b (p ++ K) K) (cond b A (p ++ A))
  one_case true e p K A k long = one_key e p K A k (long ∙ width_key (row_aggregates columns e) k)
  one_case false e p K A k long = one_other e p K A k (long ∙ width_other (row_aggregates columns e) k)

  -- the items around the parts
  pub values_are : (es : List Tree) (parts : Note) → Shaped columns es parts
      → values_in_group g (plans params columns es) (key_in columns es parts) (arguments_in columns es parts) ≡ item_values g params columns es parts
  values_are [] [] shaped = refl
  values_are [] (p ∷ ps) shaped = absurd shaped
  values_are (e ∷ es) [] shaped = absurd shaped
  values_are (e ∷ es) (p ∷ ps) shaped =
      let one = one_case (is_key columns e) e p (key_in columns es ps) (arguments_in columns es ps) refl shaped.0 in
      let rest = values_are es ps shaped.1 in
      (λ i. next (one.0 i) (λ d. next (values_in_group g (plans params columns es) (one.1 i) (one.2 i)) (λ ds. Ok (d ∷ ds))))
      ∙ ap (λ (r : Result (List Datum) DataFault). next (item_value g params columns e p) (λ d. next r (λ ds. Ok (d ∷ ds)))) rest

-- aggregates look at no NULL
pub considered_same : (q : SetQuantifier) (ds es : List Datum) → filter (λ d. not (is_null d)) ds ≡ filter (λ d. not (is_null d)) es → considered q ds ≡ considered q es
considered_same quantifier.All ds es p = p
considered_same quantifier.Distinct ds es p = ap distinct p
