-- Evaluation: the value of an expression, or its first data fault, from left to right.
use Rattle.std.specs.Prelude.{ℕ, pos, Bool, true, false, not, List, [], ◌∷◌, Option, Some, None, find, option_map, Result, Ok, Err}
use Rattle.gql_values3.specs.Datum.{Datum, null, boolean, integer, list, items_of}
use Rattle.gql_values3.specs.Datum.{is_null}
use Rattle.gql_values3.specs.Texts.{same_text}
use Rattle.gql_values3.specs.Integers.{value_of_digits}
use Rattle.gql_values3.specs.PropertyGraph.{PropertyGraph}
use Rattle.gql_values3.specs.Truth.{negated, both, either, one_of}
use Rattle.gql_values3.specs.Comparison.{compared}
use Rattle.gql_values3.specs.declared.truth.Truth.{Truth}
use Rattle.gql_values3.specs.declared.truth.Truth.TheVariants as truth
use Rattle.gql_ast.specs.Tree.{Tree, Trees, Links, constant, unknown, number, parameter, name, property, paren, listing, count_all, aggregate, call, modulo, coalesce, signed, product, sum, comparing, test, label_test, end_test, negation, conjunction, disjunction, link, no_trees, more_trees, no_links, more_links}
use Rattle.gql_ast.specs.Faults.{◌>>=◌, each}
use Rattle.gql_ast.specs.Scope.{Scope, datum_of_name, with_item, group_of}
use Rattle.gql_ast.specs.Operators.{made_list, arithmetic, remaining, operated, sign_of, applied}
use Rattle.gql_ast.specs.TruthValues.{truth_in, datum_of_truth}
use Rattle.gql_ast.specs.ElementTests.{property_value, labeled_value, directed_value, end_value}
use Rattle.gql_values3.specs.Datum.{or_null}
use Rattle.gql_ast.specs.Aggregates.{considered, aggregated}
use Rattle.gql_ast.specs.declared.words.Operator.{Operator}
use Rattle.gql_ast.specs.declared.words.Operator.TheVariants as operator
use Rattle.gql_ast.specs.declared.words.Quality.{Quality}
use Rattle.gql_ast.specs.declared.words.Quality.TheVariants as quality
use Rattle.gql_ast.specs.declared.words.Sense.{Sense}
use Rattle.gql_ast.specs.declared.words.Sense.TheVariants as sense
use Rattle.gql_ast.specs.declared.fault.DataFault.{DataFault}
use Rattle.gql_ast.specs.declared.fault.DataFault.TheVariants as fault

-- the value of a parameter; one that isn't set is NULL
abbrev pub parameter_value : List (List ℕ × Datum) → List ℕ → Datum
parameter_value params p = or_null (option_map (λ (q : List ℕ × Datum). q.1) (find (λ q. same_text p q.0) params))

-- what a comparison gives; None is not comparable
abbrev pub comparison_value : Option Truth → Result Datum DataFault
comparison_value None = Err fault.NotComparable
comparison_value (Some t) = Ok (datum_of_truth t)

-- IS or IS NOT of an answer; None is NULL, and stays it
abbrev pub sensed : Sense → Option Bool → Datum
sensed s None = null
sensed sense.Is (Some b) = boolean b
sensed sense.IsNot (Some b) = boolean (not b)

-- the test of a truth
abbrev pub is_truth : Quality → Truth → Bool
is_truth quality.True truth.True = true
is_truth quality.False truth.False = true
is_truth quality.Unknown truth.Unknown = true
is_truth _ _ = false

-- IS by one word: IS NULL takes every value, the truths a boolean or NULL, and DIRECTED an edge
abbrev pub quality_value : PropertyGraph → Quality → Datum → Result (Option Bool) DataFault
quality_value g quality.Null d = Ok (Some (is_null d))
quality_value g quality.Directed d = directed_value g d
quality_value g q d = truth_in d >>= λ t. Ok (Some (is_truth q t))

-- the items of a group; NULL has none
abbrev pub group_items : Datum → List Datum
group_items (list ds) = items_of ds
group_items _ = []

-- AND after a side: it stops at the first False
abbrev pub and_then : Truth → Result Truth DataFault → Result Truth DataFault
and_then truth.False side = Ok truth.False
and_then t side = side >>= λ u. Ok (both t u)

-- OR or XOR after the sides so far: a side after OR is skipped while these are True
abbrev pub or_then : Operator → Truth → Result Truth DataFault → Result Truth DataFault
or_then operator.Xor t side = side >>= λ u. Ok (one_of t u)
or_then _ truth.True side = Ok truth.True
or_then _ t side = side >>= λ u. Ok (either t u)

-- COALESCE: a value that is not NULL ends it
abbrev pub unless_null : Datum → Result Datum DataFault → Result Datum DataFault
unless_null d more = chosen (is_null d)
  where
    chosen : Bool → Result Datum DataFault
    chosen true = more
    chosen false = Ok d

-- an aggregate over a group: all items first, each under the group's name. Over rows it has no value within a row, and
-- no expression that is evaluated has one.
abbrev pub over_group : Option (List ℕ) → (List ℕ → Result Datum DataFault) → Result Datum DataFault
over_group None f = Ok null
over_group (Some x) f = f x

module _ (g : PropertyGraph) (params : List (List ℕ × Datum)) where
  unfoldable mutual
    -- the value of an expression
    pub value_of : Scope → Tree → Result Datum DataFault
    value_of scope (constant d) = Ok d
    value_of scope unknown = Ok null
    value_of scope (number digits) = Ok (integer (pos (value_of_digits digits)))
    value_of scope (parameter p) = Ok (parameter_value params p)
    value_of scope (name x) = Ok (datum_of_name scope x)
    value_of scope (property x p) = property_value g (datum_of_name scope x) p
    value_of scope (paren e) = value_of scope e
    value_of scope (listing es) = values_of scope es >>= made_list
    value_of scope count_all = Ok null
    value_of scope (aggregate a q e) = over_group (group_of scope e) (λ x.
        each (λ item. value_of (with_item scope x item) e) (group_items (datum_of_name scope x)) >>= λ ds. aggregated a (considered q ds))
    value_of scope (call f e) = value_of scope e >>= applied f
    value_of scope (modulo a b) = value_of scope a >>= λ x. value_of scope b >>= λ y. arithmetic remaining x y
    value_of scope (coalesce e es) = value_of scope e >>= λ d. unless_null d (first_value scope es)
    value_of scope (signed s e) = value_of scope e >>= sign_of s
    value_of scope (product e ls) = value_of scope e >>= λ d. chained scope d ls
    value_of scope (sum e ls) = value_of scope e >>= λ d. chained scope d ls
    value_of scope (comparing op a b) = value_of scope a >>= λ x. value_of scope b >>= λ y. comparison_value (compared op x y)
    value_of scope (test e s q) = value_of scope e >>= λ d. quality_value g q d >>= λ b. Ok (sensed s b)
    value_of scope (label_test e s l) = value_of scope e >>= λ d. labeled_value g d l >>= λ b. Ok (sensed s b)
    value_of scope (end_test e s which x) = value_of scope e >>= λ d. end_value g which d (datum_of_name scope x) >>= λ b. Ok (sensed s b)
    value_of scope (negation e) = value_of scope e >>= truth_in >>= λ t. Ok (datum_of_truth (negated t))
    value_of scope (conjunction e ls) = value_of scope e >>= truth_in >>= λ t. all_of scope t ls >>= λ u. Ok (datum_of_truth u)
    value_of scope (disjunction e ls) = value_of scope e >>= truth_in >>= λ t. any_of scope t ls >>= λ u. Ok (datum_of_truth u)

    -- the values of a list's items
    pub values_of : Scope → Trees → Result (List Datum) DataFault
    values_of scope no_trees = Ok []
    values_of scope (more_trees e es) = value_of scope e >>= λ d. values_of scope es >>= λ ds. Ok (d ∷ ds)

    -- the first value that is not NULL, else NULL
    pub first_value : Scope → Trees → Result Datum DataFault
    first_value scope no_trees = Ok null
    first_value scope (more_trees e es) = value_of scope e >>= λ d. unless_null d (first_value scope es)

    -- a sum or a product after the sides so far
    pub chained : Scope → Datum → Links → Result Datum DataFault
    chained scope d no_links = Ok d
    chained scope d (more_links (link op e) ls) = value_of scope e >>= λ x. operated op d x >>= λ y. chained scope y ls

    -- AND after the sides so far
    pub all_of : Scope → Truth → Links → Result Truth DataFault
    all_of scope t no_links = Ok t
    all_of scope t (more_links (link op e) ls) = and_then t (value_of scope e >>= truth_in) >>= λ u. all_of scope u ls

    -- OR and XOR after the sides so far
    pub any_of : Scope → Truth → Links → Result Truth DataFault
    any_of scope t no_links = Ok t
    any_of scope t (more_links (link op e) ls) = or_then op t (value_of scope e >>= truth_in) >>= λ u. any_of scope u ls

  -- inside a pattern a value is read as a truth, and every fault is Unknown
  abbrev pub truth_or_unknown : Result Truth DataFault → Truth
  truth_or_unknown (Ok t) = t
  truth_or_unknown (Err e) = truth.Unknown

  abbrev pub pattern_truth : Scope → Tree → Truth
  pattern_truth scope e = truth_or_unknown (value_of scope e >>= truth_in)
