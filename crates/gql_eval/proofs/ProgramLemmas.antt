-- The classical proof of a compiler of expressions: the steps that an expression is made into put its value on the stack.
-- Key: `Runs code r` says of steps, whatever stands behind them and on the stack, that they put what r gives.
use Rattle.std.proofs.Common.{◌≡◌, ℕ, zero, suc, ◌-◌, ◌<◌, ◌≤◌, Bool, true, false, cond, List, [], ◌∷◌, ◌++◌, length, map, take, get_or, Option, Some, None, Result, Ok, Err, refl, ap, sym, ◌∙◌, arith, append_assoc}
use Rattle.std.specs.Prelude.{option_map, pos}
use Rattle.gql_values3.specs.Integers.{value_of_digits}
use Rattle.gql_values3.specs.Datum.{Datum, null, boolean, integer, text, list, node, edge, path, no_data, items_of, data_of}
use Rattle.gql_values3.specs.PropertyGraph.{PropertyGraph}
use Rattle.gql_values3.specs.Truth.{negated, both}
use Rattle.gql_values3.specs.declared.truth.Truth.{Truth}
use Rattle.gql_values3.specs.declared.truth.Truth.TheVariants as truth
use Rattle.gql_ast.specs.declared.fault.DataFault.{DataFault}
use Rattle.gql_ast.specs.declared.words.Operator.{Operator}
use Rattle.gql_ast.specs.declared.words.Operator.TheVariants as operator
use Rattle.gql_ast.specs.Faults.{◌>>=◌}
use Rattle.gql_ast.specs.Operators.{made_list, operated}
use Rattle.gql_ast.specs.TruthValues.{truth_in, datum_of_truth}
use Rattle.gql_ast.specs.ElementTests.{property_value}
use Rattle.gql_ast.specs.Scope.{datum_of_name}
use Rattle.gql_ast.specs.Tree.{Tree, Trees, Links, constant, unknown, number, parameter, name, property, paren, listing, count_all, aggregate, call, modulo, coalesce, signed, product, sum, comparing, test, label_test, end_test, negation, conjunction, disjunction, link, no_trees, more_trees, no_links, more_links}
use Rattle.gql_ast.specs.Evaluation.{value_of, values_of, first_value, unless_null, chained, all_of, any_of, and_then, or_then, parameter_value}
use Rattle.gql_eval.specs.Machinery.JoinedTruth.{joined_truth}
use Rattle.gql_eval.specs.Machinery.Operations.{of_operand, of_operands}
use Rattle.gql_eval.specs.Machinery.Places.{places_among}
use Rattle.gql_eval.specs.Machinery.ScopeMeaning.{scope_of}
use Rattle.gql_eval.specs.Machinery.Steps.{Op, fixed, held_name, held_property, of_one, of_two, join_side, as_truth, join_all, join_any, skip_if, start_list, add_item, end_list, or_else, over_group, pushed, join_by, skipped, acted, ran, ran_past, top_of}
use Rattle.gql_eval.specs.Machinery.Compiled.{all_side, any_side, other_side, listing_steps, aggregate_steps, constant_list, compiled, compiled_items, compiled_others, compiled_chain, compiled_all, compiled_any}
use Rattle.gql_eval.specs.declared.scope.Scope.{Scope}
use Rattle.gql_eval.specs.CowValue.{cow_datum}
use Rattle.gql_eval.specs.Gives.{Fails, Gives}
use Rattle.gql_eval.specs.Machinery.Next.{next}
use Rattle.gql_eval.specs.Machinery.InstructionMeaning.{op_of, program_of}
use Rattle.gql_eval.specs.declared.cow.CowValue.{CowValue}
use Rattle.gql_eval.specs.declared.error.EvalError.{EvalError}
use Rattle.gql_eval.specs.declared.instruction.Instruction.{Instruction}
use Rattle.gql_eval.proofs.EvaluationLemmas.{fails_next, all_of_false, with_values, with_none}
use Rattle.gql_eval.proofs.ItemLemmas.{items_again}
use Rattle.gql_eval.proofs.ConstantLemmas.{constant_list_value}
use Rattle.gql_eval.proofs.PlaceLemmas.{held_is}
use Rattle.gql_eval.proofs.ScopeLemmas.{append_none}
use Rattle.gql_eval.proofs.TurnedLemmas.{turned_more}

-- one step after another
bind_same : {A B : Type 0} (r : Result A DataFault) (f h : A → Result B DataFault) → ((a : A) → f a ≡ h a) → (r >>= f) ≡ (r >>= h)
bind_same (Ok a) f h same = same a
bind_same (Err e) f h same = refl

bind_assoc : {A B C : Type 0} (r : Result A DataFault) (f : A → Result B DataFault) (h : B → Result C DataFault) → (r >>= f >>= h) ≡ (r >>= λ a. f a >>= h)
bind_assoc (Ok a) f h = refl
bind_assoc (Err e) f h = refl

-- NULL in the place of NULL
null_again : (d : Datum) → unless_null d (Ok null) ≡ Ok d
null_again null = refl
null_again (boolean b) = refl
null_again (integer z) = refl
null_again (text x) = refl
null_again (list ds) = refl
null_again (node n) = refl
null_again (edge n) = refl
null_again (path p) = refl

ok_again : {A : Type 0} (r : Result A DataFault) → (r >>= λ d. Ok d) ≡ r
ok_again (Ok d) = refl
ok_again (Err e) = refl

-- four steps, the second of which takes what the first gives
bind_four : {A B C D E : Type 0} (r : Result A DataFault) (f : A → Result B DataFault) (h : B → Result C DataFault) (k : C → Result D DataFault) (l : D → Result E DataFault)
    → (r >>= λ a. f a >>= h >>= k >>= l) ≡ (r >>= f >>= h >>= k >>= l)
bind_four (Ok a) f h k l = refl
bind_four (Err e) f h k l = refl

-- a truth as a value is read as the same truth
truth_again : (t : Truth) → truth_in (datum_of_truth t) ≡ Ok t
truth_again truth.False = refl
truth_again truth.Unknown = refl
truth_again truth.True = refl

module _ (g : PropertyGraph) (params : List (List ℕ × Datum)) (s : Scope) where
  abbrev run : List Op → List Datum → Result (List Datum) DataFault
  run os st = ran g params s os st

  abbrev value : Tree → Result Datum DataFault
  value e = value_of g params (scope_of s) e

  abbrev code : Tree → List Op
  code e = compiled s.columns.now s.names.now params e

  -- the steps put what is given
  abbrev Runs : List Op → Result Datum DataFault → Type 0
  Runs steps r = (os : List Op) (st : List Datum) → run (steps ++ os) st ≡ (r >>= λ d. run os (d ∷ st))

  -- what is pushed
  pushed_then : (r : Result Datum DataFault) (os : List Op) (st : List Datum) → (pushed st r >>= λ after. run os after) ≡ (r >>= λ d. run os (d ∷ st))
  pushed_then (Ok d) os st = refl
  pushed_then (Err e) os st = refl

  -- a step that skips none
  abbrev IsPlain : Op → Type 0
  IsPlain o = (st : List Datum) → skipped o st ≡ 0

  goes_on : (o : Op) (os : List Op) (st : List Datum) → IsPlain o → run (o ∷ os) st ≡ (acted g params s o st >>= λ after. run os after)
  goes_on o os st plain = ap (λ n. acted g params s o st >>= λ after. ran_past g params s os n after) (plain st)

  -- all of these steps are skipped
  past_all : (steps os : List Op) (st : List Datum) → ran_past g params s (steps ++ os) (length steps) st ≡ run os st
  past_all [] os st = refl
  past_all (o ∷ steps) os st = past_all steps os st

  -- a lone step
  lone : (o : Op) (r : Result Datum DataFault) → IsPlain o → ((st : List Datum) → acted g params s o st ≡ pushed st r) → Runs (o ∷ []) r
  lone o r plain does os st = goes_on o os st plain ∙ ap (λ w. w >>= λ after. run os after) (does st) ∙ pushed_then r os st

  -- steps, and then one on their value
  one_then : (steps : List Op) (o : Op) (r : Result Datum DataFault) (f : Datum → Result Datum DataFault) → Runs steps r → IsPlain o
      → ((d : Datum) (st : List Datum) → acted g params s o (d ∷ st) ≡ pushed st (f d)) → Runs (steps ++ o ∷ []) (r >>= f)
  one_then steps o r f runs plain does os st =
      ap (λ p. run p st) (append_assoc steps (o ∷ []) os) ∙ runs (o ∷ os) st
      ∙ bind_same r (λ d. run (o ∷ os) (d ∷ st)) (λ d. f d >>= λ y. run os (y ∷ st))
      (λ d. goes_on o os (d ∷ st) plain ∙ ap (λ w. w >>= λ after. run os after) (does d st) ∙ pushed_then (f d) os st)
      ∙ sym (bind_assoc r f (λ y. run os (y ∷ st)))

  -- steps on a datum that stands on top
  abbrev RunsOn : List Op → (Datum → Result Datum DataFault) → Type 0
  RunsOn steps f = (os : List Op) (st : List Datum) (d : Datum) → run (steps ++ os) (d ∷ st) ≡ (f d >>= λ y. run os (y ∷ st))

  -- steps, and then some on their value
  then_on : (steps more : List Op) (r : Result Datum DataFault) (f : Datum → Result Datum DataFault) → Runs steps r → RunsOn more f → Runs (steps ++ more) (r >>= f)
  then_on steps more r f runs on os st =
      ap (λ p. run p st) (append_assoc steps more os) ∙ runs (more ++ os) st
      ∙ bind_same r (λ d. run (more ++ os) (d ∷ st)) (λ d. f d >>= λ y. run os (y ∷ st)) (λ d. on os st d)
      ∙ sym (bind_assoc r f (λ y. run os (y ∷ st)))

  -- a side, and a step of the datum on top with it
  side_on : (steps : List Op) (o : Op) (r : Result Datum DataFault) (f : Datum → Datum → Result Datum DataFault) → Runs steps r → IsPlain o
      → ((x y : Datum) (st : List Datum) → acted g params s o (y ∷ x ∷ st) ≡ pushed st (f x y)) → RunsOn (steps ++ o ∷ []) (λ x. r >>= f x)
  side_on steps o r f runs plain does os st x =
      ap (λ p. run p (x ∷ st)) (append_assoc steps (o ∷ []) os) ∙ runs (o ∷ os) (x ∷ st)
      ∙ bind_same r (λ y. run (o ∷ os) (y ∷ x ∷ st)) (λ y. f x y >>= λ z. run os (z ∷ st))
      (λ y. goes_on o os (y ∷ x ∷ st) plain ∙ ap (λ w. w >>= λ after. run os after) (does x y st) ∙ pushed_then (f x y) os st)
      ∙ sym (bind_assoc r (f x) (λ z. run os (z ∷ st)))

  -- two operands, and then a step on both
  two : (e : Tree) (steps more : List Op) (r t : Result Datum DataFault) → Runs steps r → Runs more t → Runs (steps ++ (more ++ of_two e ∷ [])) (r >>= λ x. t >>= of_operands g e x)
  two e steps more r t first second =
      then_on steps (more ++ of_two e ∷ []) r (λ x. t >>= of_operands g e x) first
      (side_on more (of_two e) t (of_operands g e) second (λ st. refl) (λ x y st. refl))

  -- a side, a step of the datum on top with it, and then more
  side_then : (steps more : List Op) (op : Operator) (r : Result Datum DataFault) (h : Datum → Result Datum DataFault) → Runs steps r → RunsOn more h
      → RunsOn (steps ++ join_side op ∷ more) (λ x. r >>= λ y. operated op x y >>= h)
  side_then steps more op r h runs on os st x =
      ap (λ p. run p (x ∷ st)) (append_assoc steps (join_side op ∷ more) os) ∙ runs (join_side op ∷ (more ++ os)) (x ∷ st)
      ∙ bind_same r (λ y. run (join_side op ∷ (more ++ os)) (y ∷ x ∷ st)) (λ y. operated op x y >>= h >>= λ z. run os (z ∷ st))
      (λ y. pushed_then (operated op x y) (more ++ os) st
      ∙ bind_same (operated op x y) (λ z. run (more ++ os) (z ∷ st)) (λ z. h z >>= λ w. run os (w ∷ st)) (λ z. on os st z)
      ∙ sym (bind_assoc (operated op x y) h (λ w. run os (w ∷ st))))
      ∙ sym (bind_assoc r (λ y. operated op x y >>= h) (λ z. run os (z ∷ st)))

  -- steps on a truth that stands on top
  abbrev RunsOnTruth : List Op → (Truth → Result Truth DataFault) → Type 0
  RunsOnTruth steps h = (os : List Op) (st : List Datum) (t : Truth) → run (steps ++ os) (datum_of_truth t ∷ st) ≡ (h t >>= λ u. run os (datum_of_truth u ∷ st))

  -- the top read as a truth, and steps on it
  read_then : (r : Result Truth DataFault) (more : List Op) (h : Truth → Result Truth DataFault) (os : List Op) (st : List Datum) → RunsOnTruth more h
      → (pushed st (r >>= λ t. Ok (datum_of_truth t)) >>= λ after. run (more ++ os) after) ≡ ((r >>= λ t. h t >>= λ u. Ok (datum_of_truth u)) >>= λ y. run os (y ∷ st))
  read_then (Ok t) more h os st on = on os st t ∙ sym (bind_assoc (h t) (λ u. Ok (datum_of_truth u)) (λ y. run os (y ∷ st)))
  read_then (Err e) more h os st on = refl

  read_on : (more : List Op) (h : Truth → Result Truth DataFault) → RunsOnTruth more h → RunsOn (as_truth ∷ more) (λ d. truth_in d >>= λ t. h t >>= λ u. Ok (datum_of_truth u))
  read_on more h on os st d = read_then (truth_in d) more h os st on

  -- the truth on top joined with another, and then more
  joined_then : (join : Truth → Truth → Truth) (t : Truth) (r : Result Truth DataFault) (more : List Op) (h : Truth → Result Truth DataFault) (os : List Op) (st : List Datum) → RunsOnTruth more h
      → (pushed st (r >>= λ u. Ok (datum_of_truth (join t u))) >>= λ after. run (more ++ os) after) ≡ (r >>= (λ u. Ok (join t u)) >>= h >>= λ u. run os (datum_of_truth u ∷ st))
  joined_then join t (Ok u) more h os st on = on os st (join t u)
  joined_then join t (Err e) more h os st on = refl

  truth_side : (steps more : List Op) (o : Op) (join : Truth → Truth → Truth) (r : Result Datum DataFault) (h : Truth → Result Truth DataFault) → Runs steps r → RunsOnTruth more h → IsPlain o
      → ((x y : Datum) (st : List Datum) → acted g params s o (y ∷ x ∷ st) ≡ pushed st (join_by join x y))
      → (os : List Op) (st : List Datum) (t : Truth) → run ((steps ++ o ∷ more) ++ os) (datum_of_truth t ∷ st) ≡ (r >>= truth_in >>= (λ u. Ok (join t u)) >>= h >>= λ u. run os (datum_of_truth u ∷ st))
  truth_side steps more o join r h runs on plain does os st t =
      ap (λ p. run p (datum_of_truth t ∷ st)) (append_assoc steps (o ∷ more) os) ∙ runs (o ∷ (more ++ os)) (datum_of_truth t ∷ st)
      ∙ bind_same r (λ y. run (o ∷ (more ++ os)) (y ∷ datum_of_truth t ∷ st)) (λ y. truth_in y >>= (λ u. Ok (join t u)) >>= h >>= λ u. run os (datum_of_truth u ∷ st))
      (λ y. goes_on o (more ++ os) (y ∷ datum_of_truth t ∷ st) plain
      ∙ ap (λ w. w >>= λ after. run (more ++ os) after) (does (datum_of_truth t) y st)
      ∙ ap (λ a. pushed st (a >>= λ v. truth_in y >>= λ u. Ok (datum_of_truth (join v u))) >>= λ after. run (more ++ os) after) (truth_again t)
      ∙ joined_then join t (truth_in y) more h os st on)
      ∙ bind_four r truth_in (λ u. Ok (join t u)) h (λ u. run os (datum_of_truth u ∷ st))

  -- a side of AND, and the sides behind it
  all_step : (steps more : List Op) (r : Result Datum DataFault) (h : Truth → Result Truth DataFault) → Runs steps r → RunsOnTruth more h → h truth.False ≡ Ok truth.False
      → RunsOnTruth (all_side (steps ++ join_all ∷ more)) (λ t. and_then t (r >>= truth_in) >>= h)
  all_step steps more r h runs on stays os st truth.False =
      past_all (steps ++ join_all ∷ more) os (datum_of_truth truth.False ∷ st) ∙ ap (λ w. w >>= λ u. run os (datum_of_truth u ∷ st)) (sym stays)
  all_step steps more r h runs on stays os st truth.Unknown = truth_side steps more join_all both r h runs on (λ st. refl) (λ x y st. refl) os st truth.Unknown
  all_step steps more r h runs on stays os st truth.True = truth_side steps more join_all both r h runs on (λ st. refl) (λ x y st. refl) os st truth.True

  -- a side of OR or XOR that is not skipped, and the sides behind it
  any_joined : (op : Operator) (steps more : List Op) (r : Result Datum DataFault) (h : Truth → Result Truth DataFault) → Runs steps r → RunsOnTruth more h
      → (os : List Op) (st : List Datum) (t : Truth) → run (((steps ++ join_any op ∷ []) ++ more) ++ os) (datum_of_truth t ∷ st) ≡ (r >>= truth_in >>= (λ u. Ok (joined_truth op t u)) >>= h >>= λ u. run os (datum_of_truth u ∷ st))
  any_joined op steps more r h runs on os st t =
      ap (λ p. run (p ++ os) (datum_of_truth t ∷ st)) (append_assoc steps (join_any op ∷ []) more)
      ∙ truth_side steps more (join_any op) (joined_truth op) r h runs on (λ st. refl) (λ x y st. refl) os st t

  -- a side behind OR, which is skipped behind a True
  or_step : (op : Operator) (steps more : List Op) (r : Result Datum DataFault) (h : Truth → Result Truth DataFault) → Runs steps r → RunsOnTruth more h
      → ((side : Result Truth DataFault) → or_then op truth.True side ≡ Ok truth.True)
      → ((side : Result Truth DataFault) → or_then op truth.Unknown side ≡ (side >>= λ u. Ok (joined_truth op truth.Unknown u)))
      → ((side : Result Truth DataFault) → or_then op truth.False side ≡ (side >>= λ u. Ok (joined_truth op truth.False u)))
      → RunsOnTruth ((skip_if true (length (steps ++ join_any op ∷ [])) ∷ (steps ++ join_any op ∷ [])) ++ more) (λ t. or_then op t (r >>= truth_in) >>= h)
  or_step op steps more r h runs on at_true at_unknown at_false os st truth.True =
      ap (λ p. ran_past g params s p (length (steps ++ join_any op ∷ [])) (datum_of_truth truth.True ∷ st)) (append_assoc (steps ++ join_any op ∷ []) more os)
      ∙ past_all (steps ++ join_any op ∷ []) (more ++ os) (datum_of_truth truth.True ∷ st)
      ∙ on os st truth.True ∙ ap (λ w. w >>= h >>= λ u. run os (datum_of_truth u ∷ st)) (sym (at_true (r >>= truth_in)))
  or_step op steps more r h runs on at_true at_unknown at_false os st truth.Unknown =
      any_joined op steps more r h runs on os st truth.Unknown ∙ ap (λ w. w >>= h >>= λ u. run os (datum_of_truth u ∷ st)) (sym (at_unknown (r >>= truth_in)))
  or_step op steps more r h runs on at_true at_unknown at_false os st truth.False =
      any_joined op steps more r h runs on os st truth.False ∙ ap (λ w. w >>= h >>= λ u. run os (datum_of_truth u ∷ st)) (sym (at_false (r >>= truth_in)))

  any_step : (op : Operator) (steps more : List Op) (r : Result Datum DataFault) (h : Truth → Result Truth DataFault) → Runs steps r → RunsOnTruth more h
      → RunsOnTruth (any_side op (steps ++ join_any op ∷ []) ++ more) (λ t. or_then op t (r >>= truth_in) >>= h)
  any_step operator.Xor steps more r h runs on = any_joined operator.Xor steps more r h runs on
  any_step operator.Or steps more r h runs on = or_step operator.Or steps more r h runs on (λ side. refl) (λ side. refl) (λ side. refl)
  any_step operator.And steps more r h runs on = or_step operator.And steps more r h runs on (λ side. refl) (λ side. refl) (λ side. refl)
  any_step operator.Add steps more r h runs on = or_step operator.Add steps more r h runs on (λ side. refl) (λ side. refl) (λ side. refl)
  any_step operator.Subtract steps more r h runs on = or_step operator.Subtract steps more r h runs on (λ side. refl) (λ side. refl) (λ side. refl)
  any_step operator.Concatenate steps more r h runs on = or_step operator.Concatenate steps more r h runs on (λ side. refl) (λ side. refl) (λ side. refl)
  any_step operator.Multiply steps more r h runs on = or_step operator.Multiply steps more r h runs on (λ side. refl) (λ side. refl) (λ side. refl)
  any_step operator.Divide steps more r h runs on = or_step operator.Divide steps more r h runs on (λ side. refl) (λ side. refl) (λ side. refl)

  -- what a name stands for
  name_runs : (x : List ℕ) → Runs (held_name (places_among s.columns.now s.names.now x) x ∷ []) (Ok (datum_of_name (scope_of s) x))
  name_runs x = lone (held_name (places_among s.columns.now s.names.now x) x) (Ok (datum_of_name (scope_of s) x)) (λ st. refl) (λ st. ap (λ d. pushed st (Ok d)) (held_is s x))

  -- a step that puts a value and skips the steps behind it
  past_then : (r : Result Datum DataFault) (steps os : List Op) (st : List Datum) → (pushed st r >>= λ after. ran_past g params s (steps ++ os) (length steps) after) ≡ (r >>= λ d. run os (d ∷ st))
  past_then (Ok d) steps os st = past_all steps os (d ∷ st)
  past_then (Err e) steps os st = refl

  -- COALESCE: what it goes on to behind NULL, and skips behind any other datum
  other_on : (steps : List Op) (r : Result Datum DataFault) → Runs steps r → RunsOn (other_side steps) (λ d. unless_null d r)
  other_on steps r runs os st null = runs os st
  other_on steps r runs os st (boolean b) = past_all steps os (boolean b ∷ st)
  other_on steps r runs os st (integer z) = past_all steps os (integer z ∷ st)
  other_on steps r runs os st (text x) = past_all steps os (text x ∷ st)
  other_on steps r runs os st (list ds) = past_all steps os (list ds ∷ st)
  other_on steps r runs os st (node n) = past_all steps os (node n ∷ st)
  other_on steps r runs os st (edge n) = past_all steps os (edge n ∷ st)
  other_on steps r runs os st (path p) = past_all steps os (path p ∷ st)

  -- steps that put items behind those of a list on top
  abbrev RunsOnList : List Op → Result (List Datum) DataFault → Type 0
  RunsOnList steps more = (os : List Op) (st ds : List Datum) → run (steps ++ os) (list (data_of ds) ∷ st) ≡ (with_values ds more >>= λ all. run os (list (data_of all) ∷ st))

  -- an item, and more behind it
  item_then : (ds : List Datum) (r : Result Datum DataFault) (more : Result (List Datum) DataFault) (os : List Op) (st : List Datum)
      → (r >>= λ d. with_values (ds ++ d ∷ []) more >>= λ all. run os (list (data_of all) ∷ st)) ≡ (with_values ds (r >>= λ d. more >>= λ es. Ok (d ∷ es)) >>= λ all. run os (list (data_of all) ∷ st))
  item_then ds (Err e) more os st = refl
  item_then ds (Ok d) (Err e) os st = refl
  item_then ds (Ok d) (Ok es) os st = ap (λ all. run os (list (data_of all) ∷ st)) (append_assoc ds (d ∷ []) es)

  item_run : (steps items : List Op) (r : Result Datum DataFault) (more : Result (List Datum) DataFault) → Runs steps r → RunsOnList items more
      → RunsOnList (steps ++ add_item ∷ items) (r >>= λ d. more >>= λ es. Ok (d ∷ es))
  item_run steps items r more runs on os st ds =
      ap (λ p. run p (list (data_of ds) ∷ st)) (append_assoc steps (add_item ∷ items) os) ∙ runs (add_item ∷ (items ++ os)) (list (data_of ds) ∷ st)
      ∙ bind_same r (λ d. run (add_item ∷ (items ++ os)) (d ∷ list (data_of ds) ∷ st)) (λ d. with_values (ds ++ d ∷ []) more >>= λ all. run os (list (data_of all) ∷ st))
      (λ d. ap (λ is. run (items ++ os) (list (data_of (is ++ d ∷ [])) ∷ st)) (items_again ds) ∙ on os st (ds ++ d ∷ []))
      ∙ item_then ds r more os st

  -- a list of its items, which may be known
  list_runs : (o : Option Datum) (items : List Op) (r : Result (List Datum) DataFault) → ((l : Datum) → o ≡ Some l → (r >>= made_list) ≡ Ok l) → RunsOnList items r
      → Runs (listing_steps o items) (r >>= made_list)
  list_runs (Some l) items r known on os st = ap (λ v. v >>= λ d. run os (d ∷ st)) (sym (known l refl))
  list_runs None items r known on os st =
      ap (λ p. run p (list no_data ∷ st)) (append_assoc items (end_list ∷ []) os) ∙ on (end_list ∷ os) st []
      ∙ ap (λ v. v >>= λ all. run (end_list ∷ os) (list (data_of all) ∷ st)) (with_none r)
      ∙ bind_same r (λ ds. run (end_list ∷ os) (list (data_of ds) ∷ st)) (λ ds. made_list ds >>= λ d. run os (d ∷ st))
      (λ ds. pushed_then (made_list (items_of (data_of ds))) os st ∙ ap (λ is. made_list is >>= λ d. run os (d ∷ st)) (items_again ds))
      ∙ sym (bind_assoc r made_list (λ d. run os (d ∷ st)))

  mutual
    unfolding value_of

    -- the steps of an expression put its value
    pub runs : (e : Tree) → Runs (code e) (value e)
    runs (constant d) = lone (fixed d) (Ok d) (λ st. refl) (λ st. refl)
    runs unknown = lone (fixed null) (Ok null) (λ st. refl) (λ st. refl)
    runs (number n) = lone (fixed (integer (pos (value_of_digits n)))) (Ok (integer (pos (value_of_digits n)))) (λ st. refl) (λ st. refl)
    runs (parameter p) = lone (fixed (parameter_value params p)) (Ok (parameter_value params p)) (λ st. refl) (λ st. refl)
    runs (name x) = name_runs x
    runs (property x p) = lone (held_property (places_among s.columns.now s.names.now x) x p) (property_value g (datum_of_name (scope_of s) x) p) (λ st. refl) (λ st. ap (λ d. pushed st (property_value g d p)) (held_is s x))
    runs (paren e) = runs e
    runs (listing es) = list_runs (constant_list params es) (compiled_items s.columns.now s.names.now params es) (values_of g params (scope_of s) es) (λ l known. constant_list_value g params (scope_of s) es l known) (items_run es)
    runs count_all = lone (fixed null) (Ok null) (λ st. refl) (λ st. refl)
    runs (aggregate a q e) = λ os st. past_then (value (aggregate a q e)) (code e) os st
    runs (call f e) = one_then (code e) (of_one (call f e)) (value e) (of_operand g (call f e)) (runs e) (λ st. refl) (λ d st. refl)
    runs (modulo a b) = two (modulo a b) (code a) (code b) (value a) (value b) (runs a) (runs b)
    runs (coalesce e es) = then_on (code e) (compiled_others s.columns.now s.names.now params es) (value e) (λ d. unless_null d (first_value g params (scope_of s) es)) (runs e) (others_run es)
    runs (signed n e) = one_then (code e) (of_one (signed n e)) (value e) (of_operand g (signed n e)) (runs e) (λ st. refl) (λ d st. refl)
    runs (product e ls) = then_on (code e) (compiled_chain s.columns.now s.names.now params ls) (value e) (λ d. chained g params (scope_of s) d ls) (runs e) (chain_runs ls)
    runs (sum e ls) = then_on (code e) (compiled_chain s.columns.now s.names.now params ls) (value e) (λ d. chained g params (scope_of s) d ls) (runs e) (chain_runs ls)
    runs (comparing op a b) = two (comparing op a b) (code a) (code b) (value a) (value b) (runs a) (runs b)
    runs (test e n q) = one_then (code e) (of_one (test e n q)) (value e) (of_operand g (test e n q)) (runs e) (λ st. refl) (λ d st. refl)
    runs (label_test e n l) = one_then (code e) (of_one (label_test e n l)) (value e) (of_operand g (label_test e n l)) (runs e) (λ st. refl) (λ d st. refl)
    runs (end_test e n which x) = two (end_test e n which x) (code e) (held_name (places_among s.columns.now s.names.now x) x ∷ []) (value e) (Ok (datum_of_name (scope_of s) x)) (runs e) (name_runs x)
    runs (negation e) = λ os st.
        one_then (code e) (of_one (negation e)) (value e) (of_operand g (negation e)) (runs e) (λ st. refl) (λ d st. refl) os st
        ∙ ap (λ r. r >>= λ d. run os (d ∷ st)) (sym (bind_assoc (value e) truth_in (λ t. Ok (datum_of_truth (negated t)))))
    runs (conjunction e ls) = λ os st.
        then_on (code e) (as_truth ∷ compiled_all s.columns.now s.names.now params ls) (value e) (λ d. truth_in d >>= λ t. all_of g params (scope_of s) t ls >>= λ u. Ok (datum_of_truth u)) (runs e)
        (read_on (compiled_all s.columns.now s.names.now params ls) (λ t. all_of g params (scope_of s) t ls) (all_runs ls)) os st
        ∙ ap (λ r. r >>= λ d. run os (d ∷ st)) (sym (bind_assoc (value e) truth_in (λ t. all_of g params (scope_of s) t ls >>= λ u. Ok (datum_of_truth u))))
    runs (disjunction e ls) = λ os st.
        then_on (code e) (as_truth ∷ compiled_any s.columns.now s.names.now params ls) (value e) (λ d. truth_in d >>= λ t. any_of g params (scope_of s) t ls >>= λ u. Ok (datum_of_truth u)) (runs e)
        (read_on (compiled_any s.columns.now s.names.now params ls) (λ t. any_of g params (scope_of s) t ls) (any_runs ls)) os st
        ∙ ap (λ r. r >>= λ d. run os (d ∷ st)) (sym (bind_assoc (value e) truth_in (λ t. any_of g params (scope_of s) t ls >>= λ u. Ok (datum_of_truth u))))

    -- the items of a list
    pub items_run : (es : Trees) → RunsOnList (compiled_items s.columns.now s.names.now params es) (values_of g params (scope_of s) es)
    items_run no_trees = λ os st ds. ap (λ all. run os (list (data_of all) ∷ st)) (sym (append_none ds))
    items_run (more_trees e es) = item_run (code e) (compiled_items s.columns.now s.names.now params es) (value e) (values_of g params (scope_of s) es) (runs e) (items_run es)

    -- what COALESCE goes on to
    pub others_run : (es : Trees) → RunsOn (compiled_others s.columns.now s.names.now params es) (λ d. unless_null d (first_value g params (scope_of s) es))
    others_run no_trees = λ os st d. ap (λ r. r >>= λ y. run os (y ∷ st)) (sym (null_again d))
    others_run (more_trees e es) =
        other_on (code e ++ compiled_others s.columns.now s.names.now params es) (first_value g params (scope_of s) (more_trees e es))
        (then_on (code e) (compiled_others s.columns.now s.names.now params es) (value e) (λ d. unless_null d (first_value g params (scope_of s) es)) (runs e) (others_run es))

    -- the sides of a chain
    pub chain_runs : (ls : Links) → RunsOn (compiled_chain s.columns.now s.names.now params ls) (λ d. chained g params (scope_of s) d ls)
    chain_runs no_links = λ os st d. refl
    chain_runs (more_links (link op e) ls) =
        side_then (code e) (compiled_chain s.columns.now s.names.now params ls) op (value e) (λ y. chained g params (scope_of s) y ls) (runs e) (chain_runs ls)

    -- the sides of AND
    pub all_runs : (ls : Links) → RunsOnTruth (compiled_all s.columns.now s.names.now params ls) (λ t. all_of g params (scope_of s) t ls)
    all_runs no_links = λ os st t. refl
    all_runs (more_links (link op e) ls) =
        all_step (code e) (compiled_all s.columns.now s.names.now params ls) (value e) (λ u. all_of g params (scope_of s) u ls) (runs e) (all_runs ls) (all_of_false g params (scope_of s) ls)

    -- the sides of OR and XOR
    pub any_runs : (ls : Links) → RunsOnTruth (compiled_any s.columns.now s.names.now params ls) (λ t. any_of g params (scope_of s) t ls)
    any_runs no_links = λ os st t. refl
    any_runs (more_links (link op e) ls) =
        any_step op (code e) (compiled_any s.columns.now s.names.now params ls) (value e) (λ u. any_of g params (scope_of s) u ls) (runs e) (any_runs ls)

  -- in the end the value stands on top
  pub ends : (e : Tree) → (run (code e) [] >>= top_of) ≡ value e
  ends e =
      ap (λ p. run p [] >>= top_of) (sym (append_none (code e)))
      ∙ ap (λ w. w >>= top_of) (runs e [] [])
      ∙ bind_assoc (value e) (λ d. Ok (d ∷ [])) top_of
      ∙ ok_again (value e)

-- the steps from one on, behind it
pub step_done : (g : PropertyGraph) (params : List (List ℕ × Datum)) (s : Scope) (o : Op) (os all : List Op) (st after : List Datum) (end : Result (List Datum) DataFault)
    → all ≡ o ∷ os → acted g params s o st ≡ Ok after → ran g params s all st ≡ end → ran_past g params s os (skipped o st) after ≡ end
step_done g params s o os all st after end split did was =
    sym (ap (λ r. r >>= λ next. ran_past g params s os (skipped o st) next) did) ∙ sym (ap (λ p. ran g params s p st) split) ∙ was

pub step_failed : (g : PropertyGraph) (params : List (List ℕ × Datum)) (s : Scope) (o : Op) (os all : List Op) (st : List Datum) (end : Result (List Datum) DataFault) (e : EvalError)
    → all ≡ o ∷ os → Fails e (acted g params s o st) → ran g params s all st ≡ end → Fails e end
step_failed g params s o os all st end e split failed was = rw (← was) (rw split (fails_next e (acted g params s o st) (λ next. ran_past g params s os (skipped o st) next) failed))

-- the first so many instructions, some of whose steps are skipped
pub ran_past_first : (g : PropertyGraph) (params : List (List ℕ × Datum)) (s : Scope) (is : List Instruction) (n count : ℕ) (st : List Datum) → n ≤ length is
    → ran_past g params s (program_of (take n is)) count st ≡ ran g params s (program_of (take (n - count) is)) st
ran_past_first g params s is n zero st h = let none : n ≡ n - 0 = omega arith in ap (λ k. ran g params s (program_of (take k is)) st) none
ran_past_first g params s is zero (suc count) st h = let none : 0 ≡ 0 - suc count = omega arith in ap (λ k. ran g params s (program_of (take k is)) st) none
ran_past_first g params s is (suc n) (suc count) st h =
    let more = turned_more op_of is n (omega arith) in
    let rest : n - count ≡ suc n - suc count = omega arith in
    ap (λ p. ran_past g params s p (suc count) st) more.1 ∙ ran_past_first g params s is n count st (omega arith) ∙ ap (λ k. ran g params s (program_of (take k is)) st) rest

-- what a prepared program puts
pub prepared_value : (g : PropertyGraph) (params : List (List ℕ × Datum)) (s : Scope) (steps : List Op) (e : Tree) (answer : Result CowValue EvalError)
    → Gives cow_datum answer (next (ran g params s steps []) top_of) → steps ≡ compiled s.columns.now s.names.now params e → Gives cow_datum answer (value_of g params (scope_of s) e)
prepared_value g params s steps e answer given same = rw (← ends g params s e) (rw (← same) given)

-- a program of one step
pub one_value : (r : Result Datum DataFault) → next (pushed [] r) top_of ≡ r
one_value (Ok d) = refl
one_value (Err e) = refl

pub one_step : (g : PropertyGraph) (params : List (List ℕ × Datum)) (s : Scope) (is : List Instruction) (i : Instruction) → length is ≡ 1 → i ≡ get_or is 0 i
    → next (ran g params s (program_of is) []) top_of ≡ next (acted g params s (op_of i) []) top_of
one_step g params s [] i h p = absurd (omega arith)
one_step g params s (x ∷ []) i h p = ap (λ r. next r top_of) (ok_again (acted g params s (op_of x) [])) ∙ ap (λ z. next (acted g params s (op_of z) []) top_of) (sym p)
one_step g params s (x ∷ y ∷ is) i h p = absurd (omega arith)
