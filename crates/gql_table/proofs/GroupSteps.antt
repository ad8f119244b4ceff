-- The steps of grouping's loops: what is done, and what is left.
use Rattle.std.proofs.Common.{◌≡◌, ℕ, suc, ◌+◌, ◌-◌, ◌<◌, true, false, cond, List, [], ◌∷◌, ◌++◌, length, map, take, drop, drop-drop, refl, sym, ap, ◌∙◌, add-one, arith, Result, Ok, Err}
use Rattle.std.proofs.lemmas.List.{take-map, drop-map}
use Rattle.gql_values3.specs.Datum.{Datum}
use Rattle.gql_values3.specs.Meaning.{datum_of}
use Rattle.gql_values3.specs.declared.value.Value.{Value}
use Rattle.gql_values3.specs.PropertyGraph.{PropertyGraph}
use Rattle.gql_values3.specs.declared.table.ColumnKind.TheVariants as kind
use Rattle.gql_ast.specs.Projections.{has_none}
use Rattle.gql_ast.specs.RowAggregates.{RowAggregate, result_name}
use Rattle.gql_ast.specs.declared.fault.DataFault.{DataFault}
use Rattle.gql_eval.specs.Machinery.Next.{next}
use Rattle.gql_eval.specs.Gives.{Fails}
use Rattle.gql_eval.specs.declared.error.EvalError.{EvalError}
use Rattle.gql_eval.specs.declared.error.EvalError.TheVariants as error
use Rattle.gql_table.specs.Sorting.{first_key, later_keys}
use Rattle.gql_table.specs.Grouping.{results}
use Rattle.gql_table.specs.Machinery.Preparations.{prepared_value}
use Rattle.gql_table.specs.Machinery.GroupPlan.{PreparedPlan, names_from, note_in, kept_behind, values_in_group}
use Rattle.gql_eval.proofs.EachSteps.{fails_first, each_cons}
use Rattle.gql_table.proofs.KeyLemmas.{later_drop}

-- one name more
pub names_step : (i count : ℕ) → i < count → names_from i (count - i) ≡ (result_name i, kind.Plain) ∷ names_from (i + 1) (count - (i + 1))
names_step i count below =
    let more : count - i ≡ suc (count - (i + 1)) = omega (arith, below) in
    ap (names_from i) more ∙ ap (λ n. (result_name i, kind.Plain) ∷ names_from n (count - (i + 1))) (sym (add-one i))

pub none_left : (made : List RowAggregate) → has_none made ≡ true → length made ≡ 0
none_left [] p = refl
none_left (a ∷ made) p = absurd (cc)

-- what joins a list, where it is a step's
abbrev Joined : Result (List Datum) DataFault → List Datum → List Datum → Type 0
Joined r before after = (ds : List Datum) × (r ≡ Ok ds) × (before ++ ds ≡ after)

joined_by : (r : Result (List Datum) DataFault) (before after : List Datum) → next r (λ ds. Ok (before ++ ds)) ≡ Ok after → Joined r before after
joined_by (Err e) before after p = absurd (cc)
joined_by (Ok ds) before after p = (ds, refl, inside p)
  where
    inside : {x y : List Datum} → ◌≡◌ {A = Result (List Datum) DataFault} (Ok x) (Ok y) → x ≡ y
    inside q = cc

module _ (g : PropertyGraph) (row : List Datum) where
  -- a key more is kept
  pub key_step : (keys after arguments : List Datum) (left more : List PreparedPlan) (p : PreparedPlan) → left ≡ p ∷ more → has_none p.aggregates ≡ true
      → next (note_in g p row) (λ ds. Ok (keys ++ ds)) ≡ Ok after → kept_behind g (keys, arguments) left row ≡ kept_behind g (after, arguments) more row
  key_step keys after arguments left more p q k given =
      let by = joined_by (note_in g p row) keys after given in
      ap (λ l. kept_behind g (keys, arguments) l row) q
      ∙ ap (λ b. next (note_in g p row) (λ note. kept_behind g (cond b (keys ++ note, arguments) (keys, arguments ++ note)) more row)) k
      ∙ ap (λ (r : Result (List Datum) DataFault). next r (λ note. kept_behind g (keys ++ note, arguments) more row)) by.1
      ∙ ap (λ ds. kept_behind g (ds, arguments) more row) by.2

  -- the arguments of an item more
  pub arguments_step : (keys before after : List Datum) (left more : List PreparedPlan) (p : PreparedPlan) → left ≡ p ∷ more → has_none p.aggregates ≡ false
      → next (note_in g p row) (λ ds. Ok (before ++ ds)) ≡ Ok after → kept_behind g (keys, before) left row ≡ kept_behind g (keys, after) more row
  arguments_step keys before after left more p q k given =
      let by = joined_by (note_in g p row) before after given in
      ap (λ l. kept_behind g (keys, before) l row) q
      ∙ ap (λ b. next (note_in g p row) (λ note. kept_behind g (cond b (keys ++ note, before) (keys, before ++ note)) more row)) k
      ∙ ap (λ (r : Result (List Datum) DataFault). next r (λ note. kept_behind g (keys, before ++ note) more row)) by.1
      ∙ ap (λ ds. kept_behind g (keys, ds) more row) by.2

module _ (g : PropertyGraph) (keys done : List Datum) where
  -- the value of a key more
  pub key_value_step : (key from : ℕ) (values : List Datum) (left more : List PreparedPlan) (p : PreparedPlan) (d : Datum) → left ≡ p ∷ more → has_none p.aggregates ≡ true → d ≡ first_key (drop key keys)
      → next (values_in_group g left (drop key keys) (drop from done)) (λ ds. Ok (values ++ ds)) ≡ next (values_in_group g more (drop (key + 1) keys) (drop from done)) (λ ds. Ok ((values ++ d ∷ []) ++ ds))
  key_value_step key from values left more p d q k here =
      let rest : List Datum → List Datum → Result (List Datum) DataFault = values_in_group g more in
      ap (λ l. next (values_in_group g l (drop key keys) (drop from done)) (λ ds. Ok (values ++ ds))) q
      ∙ ap (λ b. next (next (cond b (Ok (first_key (drop key keys))) (prepared_value g p.whole (take (length p.aggregates) (drop from done))))
      (λ x. next (rest (cond b (later_keys (drop key keys)) (drop key keys)) (drop (length p.aggregates) (drop from done))) (λ ds. Ok (x ∷ ds)))) (λ ds. Ok (values ++ ds))) k
      ∙ ap (λ x. next (next (rest (later_keys (drop key keys)) (drop (length p.aggregates) (drop from done))) (λ ds. Ok (x ∷ ds))) (λ ds. Ok (values ++ ds))) (sym here)
      ∙ each_cons (λ (x : Datum). Ok x) (rest (later_keys (drop key keys)) (drop (length p.aggregates) (drop from done))) values d
      ∙ (λ i. next (rest ((later_drop key keys ∙ ap (λ n. drop n keys) (sym (add-one key))) i) (drop (none_left p.aggregates k i) (drop from done))) (λ ds. Ok ((values ++ d ∷ []) ++ ds)))

  -- the expression around the results of an item more
  pub whole_step : (key from past : ℕ) (values : List Datum) (left more : List PreparedPlan) (p : PreparedPlan) (d : Datum) → left ≡ p ∷ more → has_none p.aggregates ≡ false → past ≡ from + length p.aggregates
      → prepared_value g p.whole (take (length p.aggregates) (drop from done)) ≡ Ok d
      → next (values_in_group g left (drop key keys) (drop from done)) (λ ds. Ok (values ++ ds)) ≡ next (values_in_group g more (drop key keys) (drop past done)) (λ ds. Ok ((values ++ d ∷ []) ++ ds))
  whole_step key from past values left more p d q k end given =
      let rest : List Datum → List Datum → Result (List Datum) DataFault = values_in_group g more in
      ap (λ l. next (values_in_group g l (drop key keys) (drop from done)) (λ ds. Ok (values ++ ds))) q
      ∙ ap (λ b. next (next (cond b (Ok (first_key (drop key keys))) (prepared_value g p.whole (take (length p.aggregates) (drop from done))))
      (λ x. next (rest (cond b (later_keys (drop key keys)) (drop key keys)) (drop (length p.aggregates) (drop from done))) (λ ds. Ok (x ∷ ds)))) (λ ds. Ok (values ++ ds))) k
      ∙ ap (λ (r : Result Datum DataFault). next (next r (λ x. next (rest (drop key keys) (drop (length p.aggregates) (drop from done))) (λ ds. Ok (x ∷ ds)))) (λ ds. Ok (values ++ ds))) given
      ∙ each_cons (λ (x : Datum). Ok x) (rest (drop key keys) (drop (length p.aggregates) (drop from done))) values d
      ∙ ap (λ (l : List Datum). next (rest (drop key keys) l) (λ ds. Ok ((values ++ d ∷ []) ++ ds))) (drop-drop (length p.aggregates) from done ∙ ap (λ n. drop n done) (sym end))

  pub whole_fails : {B : Type 0} (key from : ℕ) (left more : List PreparedPlan) (p : PreparedPlan) (e : EvalError) (then : List Datum → Result B DataFault) → left ≡ p ∷ more → has_none p.aggregates ≡ false
      → Fails e (prepared_value g p.whole (take (length p.aggregates) (drop from done)))
      → Fails e (next (values_in_group g left (drop key keys) (drop from done)) then)
  whole_fails key from left more p e then q k given = rw (q, k) (fails_first e _ then (fails_first e _ _ given))

-- a part of the results
pub part_is : (results : List Value) (from m k : ℕ) → m ≡ k → map datum_of (take m (drop from results)) ≡ take k (drop from (map datum_of results))
part_is results from m k p =
    ap (λ n. map datum_of (take n (drop from results))) p ∙ sym (take-map datum_of k (drop from results)) ∙ ap (take k) (sym (drop-map datum_of from results))
