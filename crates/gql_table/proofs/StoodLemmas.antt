-- Groups that run over rows, one after the other, are the groups of all rows, each with what its aggregates have come to.
use Rattle.std.proofs.Common.{◌≡◌, ℕ, zero, suc, ◌<◌, ◌≤◌, ◌+◌, Bool, true, false, cond, List, [], ◌∷◌, ◌++◌, length, map, take, drop, get_or, set, refl, sym, ap, subst, ◌∙◌, length-append, append_assoc, append-nil, add-one, arith, Result, Ok, Err}
use Rattle.std.specs.List.{AllByRecursion}
use Rattle.std.proofs.lemmas.List.{map-append, take_more_set, drop-set-lt, drop_all, take_all}
use Rattle.std.proofs.lemmas.Bool.{or_parts}
use Rattle.gql_values3.specs.Datum.{Datum}
use Rattle.gql_values3.specs.PropertyGraph.{PropertyGraph}
use Rattle.gql_ast.specs.Faults.{each}
use Rattle.gql_ast.specs.Projections.{has_none}
use Rattle.gql_ast.specs.declared.fault.DataFault.{DataFault}
use Rattle.gql_eval.specs.Machinery.Next.{next}
use Rattle.gql_eval.specs.RowLists.{RowList}
use Rattle.gql_table.specs.Distinct.{same_row}
use Rattle.gql_table.specs.Sorting.{first_key, later_keys}
use Rattle.gql_table.specs.Machinery.Places.{among, place}
use Rattle.gql_table.specs.Machinery.GroupPlan.{PreparedPlan, Kept, Gathered, joined_group, gathered_rows, all_groups, has_key, kept_with, note_in, kept_behind, rows_kept_behind, values_in_group, row_of_group, rows_with_plan, result_count}
use Rattle.gql_table.specs.Machinery.Running.{Standing, Stood, at_start, all_at_start, past, row_past, stood_keys, with_stood, joined_stood, first_stood, stood_behind, row_of_stood, Wide}
use Rattle.gql_eval.proofs.EachSteps.{drop_here}
use Rattle.gql_table.proofs.RowOrder.{same_row_itself}
use Rattle.gql_table.proofs.KeyLemmas.{later_drop}
use Rattle.gql_table.proofs.ReturnLemmas.{next_next, map_long}
use Rattle.gql_table.proofs.PlaceLemmas.{place_new, place_known, place_last}
use Rattle.gql_table.proofs.RunningLemmas.{after, after_last, finished_behind}
use Rattle.gql_table.proofs.NoteLemmas.{inside}

-- a group with what its aggregates have come to, in place of its rows
abbrev pub run : List Standing → Gathered → Stood
run fresh g = (g.0, after row_past fresh g.1)

run_case : (b : Bool) (fresh : List Standing) (g : Gathered) (gs more : List Gathered) (r : List Datum) (rest : List Stood) → map (run fresh) more ≡ rest
    → map (run fresh) (cond b ((g.0, g.1 ++ r ∷ []) ∷ gs) (g ∷ more)) ≡ cond b ((g.0, row_past (after row_past fresh g.1) r) ∷ map (run fresh) gs) (run fresh g ∷ rest)
run_case true fresh g gs more r rest p = λ i. (g.0, after_last row_past fresh g.1 r i) ∷ map (run fresh) gs
run_case false fresh g gs more r rest p = ap (λ l. run fresh g ∷ l) p

-- a row that joins
run_joined : (fresh : List Standing) (gs : List Gathered) (k r : List Datum) → map (run fresh) (joined_group gs k r) ≡ joined_stood fresh (map (run fresh) gs) k r
run_joined fresh [] k r = refl
run_joined fresh (g ∷ gs) k r = run_case (same_row g.0 k) fresh g gs (joined_group gs k r) r (joined_stood fresh (map (run fresh) gs) k r) (run_joined fresh gs k r)

gathered_last : (gs : List Gathered) (keys rows : RowList) (k r : List Datum) → length keys ≡ length rows
    → gathered_rows gs (keys ++ k ∷ []) (rows ++ r ∷ []) ≡ joined_group (gathered_rows gs keys rows) k r
gathered_last gs [] [] k r long = refl
gathered_last gs [] (x ∷ xs) k r long = absurd (omega (arith, long))
gathered_last gs (x ∷ xs) [] k r long = absurd (omega (arith, long))
gathered_last gs (x ∷ xs) (y ∷ ys) k r long = gathered_last (joined_group gs x y) xs ys k r (omega (arith, long))

module _ (g : PropertyGraph) where
  -- items of which none is a key keep none
  no_key_case : (p : PreparedPlan) (ps : List PreparedPlan) (kept after_all : Kept) (row : List Datum) (r : Result (List Datum) DataFault) → has_none p.aggregates ≡ false
      → ((made : List Datum) → kept_behind g (kept.0, made) ps row ≡ Ok after_all → after_all.0 ≡ kept.0)
      → next r (λ note. kept_behind g (kept_with p kept note) ps row) ≡ Ok after_all → after_all.0 ≡ kept.0
  no_key_case p ps kept after_all row (Err f) none more given = absurd (cc)
  no_key_case p ps kept after_all row (Ok note) none more given =
      more (kept.1 ++ note) (sym (ap (λ b. kept_behind g (cond {A = Kept} b (kept.0 ++ note, kept.1) (kept.0, kept.1 ++ note)) ps row) none) ∙ given)

  no_key : (plan : List PreparedPlan) (kept after_all : Kept) (row : List Datum) → has_key plan ≡ false → kept_behind g kept plan row ≡ Ok after_all → after_all.0 ≡ kept.0
  no_key [] kept after_all row none given = sym (ap (λ (k : Kept). k.0) (inside given))
  no_key (p ∷ ps) kept after_all row none given =
      no_key_case p ps kept after_all row (note_in g p row) (or_parts (has_none p.aggregates) (has_key ps) none).0
      (λ made given. no_key ps (kept.0, made) after_all row (or_parts (has_none p.aggregates) (has_key ps) none).1 given) given

  module _ (plan : List PreparedPlan) where
    -- with a key, the groups of the rows so far
    keyed_case : (keys made rows : RowList) (r : Result Kept DataFault) → length keys ≡ length made
        → ((ks ms : RowList) → length ks ≡ length ms
        → stood_behind g (map (run (all_at_start plan)) (gathered_rows [] ks ms)) plan rows ≡ next (rows_kept_behind g ks ms plan rows) (λ kept. Ok (map (run (all_at_start plan)) (gathered_rows [] kept.0 kept.1))))
        → next r (λ kept. stood_behind g (joined_stood (all_at_start plan) (map (run (all_at_start plan)) (gathered_rows [] keys made)) kept.0 kept.1) plan rows)
        ≡ next (next r (λ kept. rows_kept_behind g (keys ++ kept.0 ∷ []) (made ++ kept.1 ∷ []) plan rows)) (λ kept. Ok (map (run (all_at_start plan)) (gathered_rows [] kept.0 kept.1)))
    keyed_case keys made rows (Err f) long more = refl
    keyed_case keys made rows (Ok kept) long more =
        let longer : length (keys ++ kept.0 ∷ []) ≡ length (made ++ kept.1 ∷ []) = omega (arith, long, length-append keys (kept.0 ∷ []), length-append made (kept.1 ∷ [])) in
        ap (λ gs. stood_behind g gs plan rows) (sym (run_joined (all_at_start plan) (gathered_rows [] keys made) kept.0 kept.1) ∙ ap (map (run (all_at_start plan))) (sym (gathered_last [] keys made kept.0 kept.1 long)))
        ∙ more (keys ++ kept.0 ∷ []) (made ++ kept.1 ∷ []) longer

    keyed : (keys made rows : RowList) → length keys ≡ length made
        → stood_behind g (map (run (all_at_start plan)) (gathered_rows [] keys made)) plan rows ≡ next (rows_kept_behind g keys made plan rows) (λ kept. Ok (map (run (all_at_start plan)) (gathered_rows [] kept.0 kept.1)))
    keyed keys made [] long = refl
    keyed keys made (row ∷ rows) long = keyed_case keys made rows (kept_behind g ([], []) plan row) long (λ ks ms l. keyed ks ms rows l)

    -- without one, the one group
    one_case : (keys made rows : RowList) (row : List Datum) (r : Result Kept DataFault) → has_key plan ≡ false → kept_behind g ([], []) plan row ≡ r
        → ((ks ms : RowList) → stood_behind g (([], after row_past (all_at_start plan) ms) ∷ []) plan rows ≡ next (rows_kept_behind g ks ms plan rows) (λ kept. Ok (([], after row_past (all_at_start plan) kept.1) ∷ [])))
        → next r (λ kept. stood_behind g (joined_stood (all_at_start plan) (([], after row_past (all_at_start plan) made) ∷ []) kept.0 kept.1) plan rows)
        ≡ next (next r (λ kept. rows_kept_behind g (keys ++ kept.0 ∷ []) (made ++ kept.1 ∷ []) plan rows)) (λ kept. Ok (([], after row_past (all_at_start plan) kept.1) ∷ []))
    one_case keys made rows row (Err f) none q more = refl
    one_case keys made rows row (Ok kept) none q more =
        ap (λ k. stood_behind g (joined_stood (all_at_start plan) (([], after row_past (all_at_start plan) made) ∷ []) k kept.1) plan rows) (no_key plan ([], []) kept row none q)
        ∙ ap (λ ss. stood_behind g (([], ss) ∷ []) plan rows) (sym (after_last row_past (all_at_start plan) made kept.1))
        ∙ more (keys ++ kept.0 ∷ []) (made ++ kept.1 ∷ [])

    one : (keys made rows : RowList) → has_key plan ≡ false
        → stood_behind g (([], after row_past (all_at_start plan) made) ∷ []) plan rows ≡ next (rows_kept_behind g keys made plan rows) (λ kept. Ok (([], after row_past (all_at_start plan) kept.1) ∷ []))
    one keys made [] none = refl
    one keys made (row ∷ rows) none = one_case keys made rows row (kept_behind g ([], []) plan row) none refl (λ ks ms. one ks ms rows none)

    stood_case : (b : Bool) (rows : RowList) → has_key plan ≡ b
        → stood_behind g (cond b [] (([], all_at_start plan) ∷ [])) plan rows ≡ next (rows_kept_behind g [] [] plan rows) (λ kept. Ok (map (run (all_at_start plan)) (all_groups b kept.0 kept.1)))
    stood_case true rows p = keyed [] [] rows refl
    stood_case false rows p = one [] [] rows p

    stood_is : (rows : RowList)
        → stood_behind g (first_stood plan) plan rows ≡ next (rows_kept_behind g [] [] plan rows) (λ kept. Ok (map (run (all_at_start plan)) (all_groups (has_key plan) kept.0 kept.1)))
    stood_is rows = stood_case (has_key plan) rows refl

    row_is : (s : Gathered) → row_of_stood g plan (run (all_at_start plan) s) ≡ row_of_group g plan s
    row_is s = ap (λ (r : Result (List Datum) DataFault). next r (λ done. values_in_group g plan s.0 done)) (finished_behind plan s.1)

    rows_are : (gs : List Gathered) → each (row_of_stood g plan) (map (run (all_at_start plan)) gs) ≡ each (row_of_group g plan) gs
    rows_are [] = refl
    rows_are (s ∷ gs) = λ i. next (row_is s i) (λ y. next (rows_are gs i) (λ ys. Ok (y ∷ ys)))

    -- the rows of all groups
    pub stood_rows : (rows : RowList) → next (stood_behind g (first_stood plan) plan rows) (each (row_of_stood g plan)) ≡ rows_with_plan g plan rows
    stood_rows rows =
        ap (λ (r : Result (List Stood) DataFault). next r (each (row_of_stood g plan))) (stood_is rows)
        ∙ next_next (rows_kept_behind g [] [] plan rows) (λ kept. map (run (all_at_start plan)) (all_groups (has_key plan) kept.0 kept.1)) (each (row_of_stood g plan))
        ∙ (λ i. next (rows_kept_behind g [] [] plan rows) (λ kept. rows_are (all_groups (has_key plan) kept.0 kept.1) i))

module _ (g : PropertyGraph) (plan : List PreparedPlan) where
  -- one row more
  pub stood_step : (gs : List Stood) (left rest : RowList) (row k a : List Datum) → left ≡ row ∷ rest → kept_behind g ([], []) plan row ≡ Ok (k, a)
      → stood_behind g gs plan left ≡ stood_behind g (joined_stood (all_at_start plan) gs k a) plan rest
  stood_step gs left rest row k a q given =
      ap (stood_behind g gs plan) q ∙ ap (λ (r : Result Kept DataFault). next r (λ kept. stood_behind g (joined_stood (all_at_start plan) gs kept.0 kept.1) plan rest)) given

-- each group has as many aggregates as all items
all_at_start_long : (plan : List PreparedPlan) → length (all_at_start plan) ≡ result_count plan
all_at_start_long [] = refl
all_at_start_long (p ∷ ps) = omega (arith, length-append (map at_start p.aggregates) (all_at_start ps), map_long at_start p.aggregates, all_at_start_long ps)

past_long : (ss : List Standing) (row : List Datum) → length (row_past ss row) ≡ length ss
past_long [] row = refl
past_long (s ∷ ss) row = ap suc (past_long ss (later_keys row))

wide_case : (plan : List PreparedPlan) (b : Bool) (s : Stood) (gs rest : List Stood) (r : List Datum) → Wide plan s → AllByRecursion (Wide plan) gs → AllByRecursion (Wide plan) rest
    → AllByRecursion (Wide plan) (cond b ((s.0, row_past s.1 r) ∷ gs) (s ∷ rest))
wide_case plan true s gs rest r here all more = (past_long s.1 r ∙ here, all)
wide_case plan false s gs rest r here all more = (here, more)

wide_joined : (plan : List PreparedPlan) (gs : List Stood) (k r : List Datum) → AllByRecursion (Wide plan) gs → AllByRecursion (Wide plan) (joined_stood (all_at_start plan) gs k r)
wide_joined plan [] k r all = (past_long (all_at_start plan) r ∙ all_at_start_long plan, tt)
wide_joined plan (s ∷ gs) k r all = wide_case plan (same_row s.0 k) s gs (joined_stood (all_at_start plan) gs k r) r all.0 all.1 (wide_joined plan gs k r all.1)

module _ (g : PropertyGraph) (plan : List PreparedPlan) where
  wide_step : (gs : List Stood) (rows : RowList) (r : Result Kept DataFault) (made : List Stood) → AllByRecursion (Wide plan) gs
      → ((hs : List Stood) → AllByRecursion (Wide plan) hs → stood_behind g hs plan rows ≡ Ok made → AllByRecursion (Wide plan) made)
      → next r (λ kept. stood_behind g (joined_stood (all_at_start plan) gs kept.0 kept.1) plan rows) ≡ Ok made → AllByRecursion (Wide plan) made
  wide_step gs rows (Err f) made all more given = absurd (cc)
  wide_step gs rows (Ok kept) made all more given = more (joined_stood (all_at_start plan) gs kept.0 kept.1) (wide_joined plan gs kept.0 kept.1 all) given

  wide_behind : (rows : RowList) (gs made : List Stood) → AllByRecursion (Wide plan) gs → stood_behind g gs plan rows ≡ Ok made → AllByRecursion (Wide plan) made
  wide_behind [] gs made all given = subst (AllByRecursion (Wide plan)) (inside given) all
  wide_behind (row ∷ rows) gs made all given = wide_step gs rows (kept_behind g ([], []) plan row) made all (λ hs h p. wide_behind rows hs made h p) given

  wide_first : (b : Bool) → AllByRecursion (Wide plan) (cond b [] (([], all_at_start plan) ∷ []))
  wide_first true = tt
  wide_first false = (all_at_start_long plan, tt)

  pub all_wide : (rows : RowList) (made : List Stood) → stood_behind g (first_stood plan) plan rows ≡ Ok made → AllByRecursion (Wide plan) made
  all_wide rows made given = wide_behind rows (first_stood plan) made (wide_first (has_key plan)) given

-- a step of the loop over the aggregates of a group
pub row_step : (ss : List Standing) (i : ℕ) (old new : Standing) (row : List Datum) → i < length ss → get_or ss i old ≡ old → new ≡ past old (first_key (drop i row))
    → take (i + 1) (set ss i new) ++ row_past (drop (i + 1) (set ss i new)) (drop (i + 1) row) ≡ take i ss ++ row_past (drop i ss) (drop i row)
row_step ss i old new row below here gone =
    let left : drop i ss ≡ old ∷ drop (i + 1) ss = drop_here ss i old below (sym here) in
    (λ j. take_more_set ss i new below j ++ row_past (drop-set-lt (i + 1) ss i new (omega arith) j) (drop (i + 1) row))
    ∙ append_assoc (take i ss) (new ∷ []) (row_past (drop (i + 1) ss) (drop (i + 1) row))
    ∙ (λ j. take i ss ++ gone j ∷ row_past (drop (i + 1) ss) ((ap (λ n. drop n row) (add-one i) ∙ sym (later_drop i row)) j))
    ∙ ap (λ l. take i ss ++ row_past l (drop i row)) (sym left)

pub row_end : (ss : List Standing) (i : ℕ) (row : List Datum) → length ss ≤ i → take i ss ++ row_past (drop i ss) (drop i row) ≡ ss
row_end ss i row le = (λ j. take_all i ss le j ++ row_past (drop_all i ss le j) (drop i row)) ∙ append-nil ss

-- a property of all, at one of them
pub all_at : {A : Type 0} (P : A → Type 0) (xs : List A) (x : A) (rest : List A) (i : ℕ) → AllByRecursion P xs → drop i xs ≡ x ∷ rest → P x
all_at P [] x rest zero all p = absurd (cc)
all_at P [] x rest (suc i) all p = absurd (cc)
all_at P (y ∷ ys) x rest zero all p = let same : y ≡ x = cc in subst P same all.0
all_at P (y ∷ ys) x rest (suc i) all p = all_at P ys x rest i all.1 p

-- with a group of the key
pub with_there : (fresh : List Standing) (gs : List Stood) (k : List Datum) → among (stood_keys gs) k ≡ true → with_stood fresh gs k ≡ gs
with_there fresh gs k p = ap (λ b. cond b gs (gs ++ (k, fresh) ∷ [])) p

pub with_new : (fresh : List Standing) (gs : List Stood) (k : List Datum) → among (stood_keys gs) k ≡ false → with_stood fresh gs k ≡ gs ++ (k, fresh) ∷ []
with_new fresh gs k p = ap (λ b. cond b gs (gs ++ (k, fresh) ∷ [])) p

pub last_key : (gs : List Stood) (s : Stood) → stood_keys (gs ++ s ∷ []) ≡ stood_keys gs ++ s.0 ∷ []
last_key gs s = map-append (λ (t : Stood). t.0) gs (s ∷ [])

-- the group that a row joins, by its place
at_case : (b : Bool) (s : Stood) (gs more : List Stood) (r : List Datum) (m n : ℕ) (d : Stood) → n ≡ cond b 0 (suc m)
    → (b ≡ false → more ≡ set gs m ((get_or gs m d).0, row_past (get_or gs m d).1 r))
    → cond b ((s.0, row_past s.1 r) ∷ gs) (s ∷ more) ≡ set (s ∷ gs) n ((get_or (s ∷ gs) n d).0, row_past (get_or (s ∷ gs) n d).1 r)
at_case true s gs more r m n d p h = sym (ap (λ j. set (s ∷ gs) j ((get_or (s ∷ gs) j d).0, row_past (get_or (s ∷ gs) j d).1 r)) p)
at_case false s gs more r m n d p h = ap (λ l. s ∷ l) (h refl) ∙ sym (ap (λ j. set (s ∷ gs) j ((get_or (s ∷ gs) j d).0, row_past (get_or (s ∷ gs) j d).1 r)) p)

below_case : (b : Bool) (m n : ℕ) → cond b 0 (suc m) < suc n → b ≡ false → m < n
below_case true m n p q = absurd (cc)
below_case false m n p q = omega (arith, p)

module _ (fresh : List Standing) where
  joined_at : (gs : List Stood) (k r : List Datum) (d : Stood) → place (stood_keys gs) k < length gs
      → joined_stood fresh gs k r ≡ set gs (place (stood_keys gs) k) ((get_or gs (place (stood_keys gs) k) d).0, row_past (get_or gs (place (stood_keys gs) k) d).1 r)
  joined_at [] k r d p = absurd (omega (arith, p))
  joined_at (s ∷ gs) k r d p =
      at_case (same_row s.0 k) s gs (joined_stood fresh gs k r) r (place (stood_keys gs) k) (place (stood_keys (s ∷ gs)) k) d refl
      (λ q. joined_at gs k r d (below_case (same_row s.0 k) (place (stood_keys gs) k) (length gs) p q))

  joined_new : (gs : List Stood) (k r : List Datum) → among (stood_keys gs) k ≡ false → joined_stood fresh gs k r ≡ joined_stood fresh (gs ++ (k, fresh) ∷ []) k r
  joined_new [] k r p = sym (ap (λ b. cond b ((k, row_past fresh r) ∷ []) ((k, fresh) ∷ (k, row_past fresh r) ∷ [])) (same_row_itself k))
  joined_new (s ∷ gs) k r p =
      let other : same_row s.0 k ≡ false = (or_parts (same_row s.0 k) (among (stood_keys gs) k) p).0 in
      ap (λ b. cond b ((s.0, row_past s.1 r) ∷ gs) (s ∷ joined_stood fresh gs k r)) other
      ∙ ap (λ l. s ∷ l) (joined_new gs k r (or_parts (same_row s.0 k) (among (stood_keys gs) k) p).1)
      ∙ sym (ap (λ b. cond b ((s.0, row_past s.1 r) ∷ gs ++ (k, fresh) ∷ []) (s ∷ joined_stood fresh (gs ++ (k, fresh) ∷ []) k r)) other)

  opened_joined : (gs : List Stood) (k r : List Datum) (b : Bool) → among (stood_keys gs) k ≡ b → joined_stood fresh gs k r ≡ joined_stood fresh (cond b gs (gs ++ (k, fresh) ∷ [])) k r
  opened_joined gs k r true p = refl
  opened_joined gs k r false p = joined_new gs k r p

  opened_place : (gs : List Stood) (k : List Datum) (b : Bool) → among (stood_keys gs) k ≡ b → place (stood_keys (cond b gs (gs ++ (k, fresh) ∷ []))) k ≡ place (stood_keys gs) k
  opened_place gs k true p = refl
  opened_place gs k false p =
      ap (λ ks. place ks k) (map-append (λ (s : Stood). s.0) gs ((k, fresh) ∷ [])) ∙ place_last (stood_keys gs) k k p (same_row_itself k) ∙ sym (place_new (stood_keys gs) k p)

  opened_below : (gs : List Stood) (k : List Datum) (b : Bool) → among (stood_keys gs) k ≡ b → place (stood_keys gs) k < length (cond b gs (gs ++ (k, fresh) ∷ []))
  opened_below gs k true p = omega (arith, place_known (stood_keys gs) k p, map_long (λ (s : Stood). s.0) gs)
  opened_below gs k false p = omega (arith, place_new (stood_keys gs) k p, map_long (λ (s : Stood). s.0) gs, length-append gs ((k, fresh) ∷ []))

  pub below_opened : (gs : List Stood) (k : List Datum) → place (stood_keys gs) k < length (with_stood fresh gs k)
  below_opened gs k = opened_below gs k (among (stood_keys gs) k) refl

  -- a row joins the group of its number, once the group is there
  pub joined_set : (gs : List Stood) (k r : List Datum) (n : ℕ) (d : Stood) → n ≡ place (stood_keys gs) k
      → joined_stood fresh gs k r ≡ set (with_stood fresh gs k) n ((get_or (with_stood fresh gs k) n d).0, row_past (get_or (with_stood fresh gs k) n d).1 r)
  joined_set gs k r n d p =
      let same : place (stood_keys (with_stood fresh gs k)) k ≡ n = opened_place gs k (among (stood_keys gs) k) refl ∙ sym p in
      let below : place (stood_keys (with_stood fresh gs k)) k < length (with_stood fresh gs k) = omega (arith, same, p, below_opened gs k) in
      opened_joined gs k r (among (stood_keys gs) k) refl ∙ joined_at (with_stood fresh gs k) k r d below
      ∙ ap (λ j. set (with_stood fresh gs k) j ((get_or (with_stood fresh gs k) j d).0, row_past (get_or (with_stood fresh gs k) j d).1 r)) same

-- the keys stay while a row joins, once its group is there
pub keys_stay : (gs : List Stood) (n : ℕ) (d : Stood) (ss : List Standing) → n < length gs → stood_keys (set gs n ((get_or gs n d).0, ss)) ≡ stood_keys gs
keys_stay [] n d ss p = absurd (omega (arith, p))
keys_stay (s ∷ gs) zero d ss p = refl
keys_stay (s ∷ gs) (suc n) d ss p = ap (λ l. s.0 ∷ l) (keys_stay gs n d ss (omega (arith, p)))
