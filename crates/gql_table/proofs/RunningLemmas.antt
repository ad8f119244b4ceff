-- An aggregate that runs over values comes to what the definition says of the list of them.
use Rattle.std.proofs.Common.{◌≡◌, ℕ, zero, suc, ◌+◌, ℤ, pos, ◌+ℤ◌, Bool, true, false, cond, not, List, [], ◌∷◌, ◌++◌, length, map, drop, refl, sym, ap, ◌∙◌, append_assoc, append-nil, length-append, arith, Some, None, Option, Result, Ok, Err}
use Rattle.std.specs.Prelude.{slice_index_or, filter}
use Rattle.std.proofs.lemmas.Int.{ints}
use Rattle.gql_values3.specs.Datum.{Datum, null, boolean, integer, text, list, node, edge, path}
use Rattle.gql_values3.specs.Datum.{is_null}
use Rattle.gql_ast.specs.Aggregates.{considered, aggregated, summed, least, least_of, greatest, greatest_of, lesser, greater}
use Rattle.gql_ast.specs.Faults.{each}
use Rattle.gql_ast.specs.Operators.{fitted, counted}
use Rattle.gql_ast.specs.RowAggregates.{RowAggregate}
use Rattle.gql_ast.specs.declared.words.Aggregate.{Aggregate}
use Rattle.gql_ast.specs.declared.words.Aggregate.TheVariants as aggregate
use Rattle.gql_ast.specs.declared.words.SetQuantifier.{SetQuantifier}
use Rattle.gql_ast.specs.declared.words.SetQuantifier.TheVariants as quantifier
use Rattle.gql_ast.specs.declared.fault.DataFault.{DataFault}
use Rattle.gql_eval.specs.Machinery.Next.{next}
use Rattle.gql_eval.specs.Machinery.WholeSum.{total_of}
use Rattle.gql_eval.specs.RowLists.{RowList}
use Rattle.gql_table.specs.Sorting.{first_key, later_keys}
use Rattle.gql_table.specs.Grouping.{results}
use Rattle.gql_table.specs.Machinery.GroupPlan.{PreparedPlan, results_behind}
use Rattle.gql_table.specs.Machinery.Running.{Standing, counting, summing, lowest, highest, listing, at_start_by, at_start, sum_past, is_lower, is_higher, lower_of, higher_of, onward, past, finished, row_past, all_at_start}
use Rattle.gql_table.specs.declared.sums.SumSoFar.TheVariants as sum
use Rattle.gql_eval.proofs.AggregateLemmas.{total_from, total_from_zero, total_from_step, summed_whole}
use Rattle.gql_eval.proofs.EachSteps.{each_cons, next_ok}
use Rattle.gql_table.proofs.KeyLemmas.{later_drop}
use Rattle.gql_table.proofs.ReturnLemmas.{next_next}
use Rattle.gql_table.proofs.ResultLemmas.{considered_same}

-- what comes of a state, item by item
abbrev pub after : {S D : Type 0} → (S → D → S) → S → List D → S
after f s [] = s
after f s (d ∷ ds) = after f (f s d) ds

pub after_last : {S D : Type 0} (f : S → D → S) (s : S) (xs : List D) (x : D) → after f s (xs ++ x ∷ []) ≡ f (after f s xs) x
after_last f s [] x = refl
after_last f s (y ∷ ys) x = after_last f (f s y) ys x

abbrev present : List Datum → List Datum
present ds = filter (λ d. not (is_null d)) ds

-- NULL is skipped
skip_case : (b : Bool) (s : Standing) (d : Datum) (ds : List Datum) → ((t : Standing) → after past t ds ≡ after onward t (present ds))
    → after past (cond b s (onward s d)) ds ≡ after onward s (cond (not b) (d ∷ present ds) (present ds))
skip_case true s d ds more = more s
skip_case false s d ds more = more (onward s d)

past_present : (s : Standing) (ds : List Datum) → after past s ds ≡ after onward s (present ds)
past_present s [] = refl
past_present s (d ∷ ds) = skip_case (is_null d) s d ds (λ t. past_present t ds)

-- COUNT
count_after : (n : ℕ) (ds : List Datum) → finished (after onward (counting n) ds) ≡ counted (n + length ds)
count_after n [] = let same : n ≡ n + 0 = omega arith in ap counted same
count_after n (d ∷ ds) = let same : suc n + length ds ≡ n + length (d ∷ ds) = omega arith in count_after (suc n) ds ∙ ap counted same

count_is : (ds : List Datum) → finished (after onward (counting 0) ds) ≡ counted (length ds)
count_is ds = let same : 0 + length ds ≡ length ds = omega arith in count_after 0 ds ∙ ap counted same

-- SUM
still_wrong : (d : Datum) → sum_past sum.WrongKind d ≡ sum.WrongKind
still_wrong null = refl
still_wrong (boolean b) = refl
still_wrong (integer z) = refl
still_wrong (text t) = refl
still_wrong (list ds) = refl
still_wrong (node n) = refl
still_wrong (edge e) = refl
still_wrong (path w) = refl

wrong_after : (ds : List Datum) → after onward (summing sum.WrongKind) ds ≡ summing sum.WrongKind
wrong_after [] = refl
wrong_after (d ∷ ds) = ap (λ s. after onward (summing s) ds) (still_wrong d) ∙ wrong_after ds

sum_after : (y : ℤ) (ds : List Datum) → finished (after onward (summing (sum.Whole y)) ds) ≡ next (total_from y ds) fitted
sum_after y [] = let same : y ≡ y +ℤ pos 0 = omega (arith, ints) in ap fitted same
sum_after y (integer z ∷ ds) = sum_after (y +ℤ z) ds ∙ ap (λ r. next r fitted) (sym (total_from_step y (integer z) ds))
sum_after y (null ∷ ds) = ap finished (wrong_after ds)
sum_after y (boolean b ∷ ds) = ap finished (wrong_after ds)
sum_after y (text t ∷ ds) = ap finished (wrong_after ds)
sum_after y (list l ∷ ds) = ap finished (wrong_after ds)
sum_after y (node n ∷ ds) = ap finished (wrong_after ds)
sum_after y (edge e ∷ ds) = ap finished (wrong_after ds)
sum_after y (path w ∷ ds) = ap finished (wrong_after ds)

from_first : (z : ℤ) (ds : List Datum) → total_from z ds ≡ total_of (integer z ∷ ds)
from_first z ds =
    let same : z ≡ pos 0 +ℤ z = omega (arith, ints) in
    ap (λ y. total_from y ds) same ∙ sym (total_from_step (pos 0) (integer z) ds) ∙ total_from_zero (integer z ∷ ds)

sum_is : (ds : List Datum) → finished (after onward (summing sum.Nothing) ds) ≡ summed ds
sum_is [] = refl
sum_is (integer z ∷ ds) = sum_after z ds ∙ ap (λ r. next r fitted) (from_first z ds) ∙ sym (summed_whole (integer z) ds)
sum_is (null ∷ ds) = ap finished (wrong_after ds)
sum_is (boolean b ∷ ds) = ap finished (wrong_after ds)
sum_is (text t ∷ ds) = ap finished (wrong_after ds)
sum_is (list l ∷ ds) = ap finished (wrong_after ds)
sum_is (node n ∷ ds) = ap finished (wrong_after ds)
sum_is (edge e ∷ ds) = ap finished (wrong_after ds)
sum_is (path w ∷ ds) = ap finished (wrong_after ds)

-- MIN and MAX
least_after : (b : Datum) (ds : List Datum) → after onward (lowest (Some b)) ds ≡ lowest (Some (least_of b ds))
least_after b [] = refl
least_after b (d ∷ ds) = least_after (lesser b d) ds

least_is : (ds : List Datum) → finished (after onward (lowest None) ds) ≡ Ok (least ds)
least_is [] = refl
least_is (d ∷ ds) = ap finished (least_after d ds)

greatest_after : (b : Datum) (ds : List Datum) → after onward (highest (Some b)) ds ≡ highest (Some (greatest_of b ds))
greatest_after b [] = refl
greatest_after b (d ∷ ds) = greatest_after (greater b d) ds

greatest_is : (ds : List Datum) → finished (after onward (highest None) ds) ≡ Ok (greatest ds)
greatest_is [] = refl
greatest_is (d ∷ ds) = ap finished (greatest_after d ds)

-- what takes the place of the least and the greatest, and what doesn't
pub lower_taken : (best : Option Datum) (d : Datum) → is_lower best d ≡ true → lower_of best d ≡ d
lower_taken None d p = refl
lower_taken (Some b) d p = ap (λ c. cond c d b) p

pub lower_left : (best : Option Datum) (d : Datum) → is_lower best d ≡ false → Some (lower_of best d) ≡ best
lower_left None d p = absurd (cc)
lower_left (Some b) d p = ap (λ c. Some (cond c d b)) p

pub higher_taken : (best : Option Datum) (d : Datum) → is_higher best d ≡ true → higher_of best d ≡ d
higher_taken None d p = refl
higher_taken (Some b) d p = ap (λ c. cond c d b) p

pub higher_left : (best : Option Datum) (d : Datum) → is_higher best d ≡ false → Some (higher_of best d) ≡ best
higher_left None d p = absurd (cc)
higher_left (Some b) d p = ap (λ c. Some (cond c d b)) p

-- any other aggregate looks at the list of values
listed_after : (makes : Aggregate) (over : SetQuantifier) (before ds : List Datum) → after onward (listing makes over before) ds ≡ listing makes over (before ++ ds)
listed_after makes over before [] = ap (listing makes over) (sym (append-nil before))
listed_after makes over before (d ∷ ds) = listed_after makes over (before ++ d ∷ []) ds ∙ ap (listing makes over) (append_assoc before (d ∷ []) ds)

again_case : (b : Bool) (d : Datum) (ds : List Datum) → is_null d ≡ b → present (present ds) ≡ present ds
    → present (cond (not b) (d ∷ present ds) (present ds)) ≡ cond (not b) (d ∷ present ds) (present ds)
again_case true d ds p more = more
again_case false d ds p more = ap (λ c. cond (not c) (d ∷ present (present ds)) (present (present ds))) p ∙ ap (λ l. d ∷ l) more

present_again : (ds : List Datum) → present (present ds) ≡ present ds
present_again [] = refl
present_again (d ∷ ds) = again_case (is_null d) d ds refl (present_again ds)

listed_is : (makes : Aggregate) (over : SetQuantifier) (ds : List Datum) → finished (after onward (listing makes over []) (present ds)) ≡ aggregated makes (considered over ds)
listed_is makes over ds = ap finished (listed_after makes over [] (present ds)) ∙ ap (aggregated makes) (considered_same over (present ds) ds (present_again ds))

of_present : (over : SetQuantifier) (makes : Aggregate) (ds : List Datum) → finished (after onward (at_start_by over makes) (present ds)) ≡ aggregated makes (considered over ds)
of_present quantifier.All aggregate.Count ds = count_is (present ds)
of_present quantifier.All aggregate.Sum ds = sum_is (present ds)
of_present quantifier.All aggregate.Min ds = least_is (present ds)
of_present quantifier.All aggregate.Max ds = greatest_is (present ds)
of_present quantifier.All aggregate.CollectList ds = listed_is aggregate.CollectList quantifier.All ds
of_present quantifier.Distinct makes ds = listed_is makes quantifier.Distinct ds

-- every aggregate
pub finished_is : (a : RowAggregate) (ds : List Datum) → finished (after past (at_start a) ds) ≡ aggregated a.makes (considered a.quantifier ds)
finished_is a ds = ap finished (past_present (at_start a) ds) ∙ of_present a.quantifier a.makes ds

-- the aggregates of a group, each by the arguments of its place
abbrev by_places : ℕ → List Standing → RowList → List Standing
by_places j [] rows = []
by_places j (s ∷ ss) rows = after past s (map (λ (r : List Datum). slice_index_or r j null) rows) ∷ by_places (suc j) ss rows

first_at : (j : ℕ) (r : List Datum) → slice_index_or r j null ≡ first_key (drop j r)
first_at zero [] = refl
first_at zero (d ∷ ds) = refl
first_at (suc j) [] = refl
first_at (suc j) (d ∷ ds) = first_at j ds

places_none : (j : ℕ) (ss : List Standing) → by_places j ss [] ≡ ss
places_none j [] = refl
places_none j (s ∷ ss) = ap (λ l. s ∷ l) (places_none (suc j) ss)

places_step : (j : ℕ) (ss : List Standing) (r : List Datum) (rows : RowList) → by_places j ss (r ∷ rows) ≡ by_places j (row_past ss (drop j r)) rows
places_step j [] r rows = refl
places_step j (s ∷ ss) r rows =
    let more : by_places (suc j) ss (r ∷ rows) ≡ by_places (suc j) (row_past ss (later_keys (drop j r))) rows = places_step (suc j) ss r rows ∙ ap (λ l. by_places (suc j) (row_past ss l) rows) (sym (later_drop j r)) in
    λ i. after past (past s (first_at j r i)) (map (λ (q : List Datum). slice_index_or q j null) rows) ∷ more i

by_places_is : (ss : List Standing) (rows : RowList) → after row_past ss rows ≡ by_places 0 ss rows
by_places_is ss [] = sym (places_none 0 ss)
by_places_is ss (r ∷ rows) = by_places_is (row_past ss r) rows ∙ sym (places_step 0 ss r rows)

-- the results of the aggregates of an item, and then those of the items behind it
item_case : (ps : List PreparedPlan) (rows : RowList) (done : List Datum) (made : List RowAggregate) (r : Result Datum DataFault)
    → ((d : Datum) → next (each finished (by_places (length (done ++ d ∷ [])) (map at_start made ++ all_at_start ps) rows)) (λ ds. Ok ((done ++ d ∷ []) ++ ds))
    ≡ next (results (length (done ++ d ∷ [])) made rows) (λ ds. results_behind ((done ++ d ∷ []) ++ ds) ps rows))
    → next (next r (λ d. next (each finished (by_places (suc (length done)) (map at_start made ++ all_at_start ps) rows)) (λ ds. Ok (d ∷ ds)))) (λ ds. Ok (done ++ ds))
    ≡ next (next r (λ d. next (results (suc (length done)) made rows) (λ ds. Ok (d ∷ ds)))) (λ ds. results_behind (done ++ ds) ps rows)
item_case ps rows done made (Err f) more = refl
item_case ps rows done made (Ok d) more =
    let long : length (done ++ d ∷ []) ≡ suc (length done) = omega (arith, length-append done (d ∷ [])) in
    each_cons (λ (x : Datum). Ok x) (each finished (by_places (suc (length done)) (map at_start made ++ all_at_start ps) rows)) done d
    ∙ ap (λ n. next (each finished (by_places n (map at_start made ++ all_at_start ps) rows)) (λ ds. Ok ((done ++ d ∷ []) ++ ds))) (sym long)
    ∙ more d
    ∙ (λ i. next (results (long i) made rows) (λ ds. results_behind (append_assoc done (d ∷ []) ds i) ps rows))
    ∙ sym (next_next (results (suc (length done)) made rows) (λ ds. d ∷ ds) (λ ds. results_behind (done ++ ds) ps rows))

item_is : (ps : List PreparedPlan) (rows : RowList)
    → ((d : List Datum) → next (each finished (by_places (length d) (all_at_start ps) rows)) (λ ds. Ok (d ++ ds)) ≡ results_behind d ps rows)
    → (done : List Datum) (made : List RowAggregate)
    → next (each finished (by_places (length done) (map at_start made ++ all_at_start ps) rows)) (λ ds. Ok (done ++ ds)) ≡ next (results (length done) made rows) (λ ds. results_behind (done ++ ds) ps rows)
item_is ps rows more done [] = more done ∙ ap (λ l. results_behind l ps rows) (sym (append-nil done))
item_is ps rows more done (a ∷ made) =
    ap (λ (r : Result Datum DataFault). next (next r (λ d. next (each finished (by_places (suc (length done)) (map at_start made ++ all_at_start ps) rows)) (λ ds. Ok (d ∷ ds)))) (λ ds. Ok (done ++ ds)))
    (finished_is a (map (λ (r : List Datum). slice_index_or r (length done) null) rows))
    ∙ item_case ps rows done made (aggregated a.makes (considered a.quantifier (map (λ (r : List Datum). slice_index_or r (length done) null) rows))) (λ d. item_is ps rows more (done ++ d ∷ []) made)

behind_done : (ps : List PreparedPlan) (rows : RowList) (done : List Datum) → next (each finished (by_places (length done) (all_at_start ps) rows)) (λ ds. Ok (done ++ ds)) ≡ results_behind done ps rows
behind_done [] rows done = ap Ok (append-nil done)
behind_done (p ∷ ps) rows done = item_is ps rows (λ d. behind_done ps rows d) done p.aggregates

-- the results of all items
pub finished_behind : (ps : List PreparedPlan) (rows : RowList) → each finished (after row_past (all_at_start ps) rows) ≡ results_behind [] ps rows
finished_behind ps rows = ap (each finished) (by_places_is (all_at_start ps) rows) ∙ sym (next_ok (each finished (by_places 0 (all_at_start ps) rows))) ∙ behind_done ps rows []
