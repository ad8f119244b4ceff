-- Steps of the loops of evaluation.
use Rattle.std.proofs.Common.{◌≡◌, ℕ, ◌+◌, ◌<◌, List, [], ◌∷◌, ◌++◌, length, map, drop, get_or, Some, None, Result, Ok, Err, refl, ap, sym, ◌∙◌, arith, append_assoc}
use Rattle.gql_eval.specs.Gives.{Gives, Fails}
use Rattle.gql_eval.specs.declared.error.EvalError.{EvalError}
use Rattle.gql_eval.specs.declared.error.EvalError.TheVariants as error
use Rattle.std.proofs.lemmas.Grind.{common_steps}
use Rattle.gql_values3.specs.Datum.{Datum, null}
use Rattle.gql_values3.specs.Meaning.{datum_of}
use Rattle.gql_values3.specs.PropertyGraph.{PropertyGraph}
use Rattle.gql_values3.specs.declared.value.Value.{Value}
use Rattle.gql_values3.specs.declared.truth.Truth.TheVariants as truth
use Rattle.gql_ast.specs.declared.fault.DataFault.{DataFault}
use Rattle.gql_ast.specs.Faults.{◌>>=◌, each}
use Rattle.gql_ast.specs.Scope.{Scope, group_of, with_item, datum_of_name}
use Rattle.gql_ast.specs.Aggregates.{aggregated, considered}
use Rattle.gql_ast.specs.declared.words.Aggregate.{Aggregate}
use Rattle.gql_ast.specs.declared.words.SetQuantifier.{SetQuantifier}
use Rattle.gql_eval.specs.Machinery.Next.{next}
use Rattle.gql_ast.specs.Tree.{Tree, Links, no_links, more_links, link, aggregate}
use Rattle.gql_ast.specs.Evaluation.{value_of, all_of, over_group, group_items}

-- the values so far and more
abbrev pub with_values : List Datum → Result (List Datum) DataFault → Result (List Datum) DataFault
with_values front more = more >>= λ ds. Ok (front ++ ds)

-- a step for each from i on
abbrev pub each_from : (Datum → Result Datum DataFault) → List Value → ℕ → Result (List Datum) DataFault
each_from f items i = each f (map datum_of (drop i items))

pub each_step : (f : Datum → Result Datum DataFault) (items : List Value) (i : ℕ) (v : Value) → i < length items → v ≡ get_or items i v
    → each_from f items i ≡ (f (datum_of v) >>= λ y. each_from f items (i + 1) >>= λ ys. Ok (y ∷ ys))
each_step f items i v h p = grind (arith, common_steps)

-- AND stays False
pub all_of_false : (g : PropertyGraph) (params : List (List ℕ × Datum)) (scope : Scope) (ls : Links) → all_of g params scope truth.False ls ≡ Ok truth.False
unfolding all_of
all_of_false g params scope no_links = refl
all_of_false g params scope (more_links (link op e) ls) = all_of_false g params scope ls

pub with_none : (r : Result (List Datum) DataFault) → with_values [] r ≡ r
with_none (Ok ds) = refl
with_none (Err e) = refl

-- one more value
pub with_more : (front : List Datum) (r : Result Datum DataFault) (d : Datum) (more : Result (List Datum) DataFault) → r ≡ Ok d
    → with_values (front ++ d ∷ []) more ≡ with_values front (r >>= λ y. more >>= λ ys. Ok (y ∷ ys))
with_more front r d (Ok ys) given = ap Ok (append_assoc front (d ∷ []) ys) ∙ sym (ap (λ s. with_values front (s >>= λ y. Ok (y ∷ ys))) given)
with_more front r d (Err e) given = sym (ap (λ s. with_values front (s >>= λ (y : Datum). Err e)) given)

-- a fault of the first is one of both
pub fails_next : {A Y : Type 0} (e : EvalError) (r : Result A DataFault) (f : A → Result Y DataFault) → Fails e r → Fails e (r >>= f)
fails_next error.OutOfMemory r f given = tt
fails_next (error.Fault x) r f given = ap (λ s. s >>= f) given

-- a fault of the items is one of the list
pub fails_with : (e : EvalError) (front : List Datum) (r : Result (List Datum) DataFault) → Fails e r → Fails e (with_values front r)
fails_with e front r given = fails_next e r (λ ds. Ok (front ++ ds)) given

-- an aggregate over the group of a name
pub aggregate_is : (g : PropertyGraph) (params : List (List ℕ × Datum)) (scope : Scope) (word : Aggregate) (quantifier : SetQuantifier) (e : Tree) (x : List ℕ) (items : List Datum)
    → Some x ≡ group_of scope e → items ≡ group_items (datum_of_name scope x)
    → value_of g params scope (aggregate word quantifier e) ≡ (each (λ item. value_of g params (with_item scope x item) e) items >>= λ ds. aggregated word (considered quantifier ds))
unfolding value_of
aggregate_is g params scope word quantifier e x items found same =
    ap (λ o. over_group o (λ y. each (λ item. value_of g params (with_item scope y item) e) (group_items (datum_of_name scope y)) >>= λ ds. aggregated word (considered quantifier ds))) (sym found)
    ∙ ap (λ is. each (λ item. value_of g params (with_item scope x item) e) is >>= λ ds. aggregated word (considered quantifier ds)) (sym same)

-- there is none where no name is a group's
pub no_aggregate : (g : PropertyGraph) (params : List (List ℕ × Datum)) (scope : Scope) (word : Aggregate) (quantifier : SetQuantifier) (e : Tree)
    → group_of scope e ≡ None → value_of g params scope (aggregate word quantifier e) ≡ Ok null
unfolding value_of
no_aggregate g params scope word quantifier e none =
    ap (λ o. over_group o (λ y. each (λ item. value_of g params (with_item scope y item) e) (group_items (datum_of_name scope y)) >>= λ ds. aggregated word (considered quantifier ds))) none

-- the same, with the values of its items
pub aggregate_then : (g : PropertyGraph) (params : List (List ℕ × Datum)) (scope : Scope) (word : Aggregate) (quantifier : SetQuantifier) (e : Tree) (x : List ℕ) (items ds : List Datum)
    → Some x ≡ group_of scope e → items ≡ group_items (datum_of_name scope x) → each (λ item. value_of g params (with_item scope x item) e) items ≡ Ok ds
    → value_of g params scope (aggregate word quantifier e) ≡ aggregated word (considered quantifier ds)
aggregate_then g params scope word quantifier e x items ds found same given =
    aggregate_is g params scope word quantifier e x items found same ∙ ap (λ r. r >>= λ vs. aggregated word (considered quantifier vs)) given
