-- How an expression is compiled to the steps that put its value on the stack.
use Rattle.std.specs.Prelude.{◌≡◌, ℕ, pos, Bool, true, false, cond, List, [], ◌∷◌, ◌++◌, length, take, Option, Some, None, Result, Ok, Err}
use Rattle.gql_values3.specs.Datum.{Datum, null, integer}
use Rattle.gql_values3.specs.Integers.{value_of_digits}
use Rattle.gql_ast.specs.ClauseColumns.{ColumnList}
use Rattle.gql_ast.specs.Tree.{Tree, Trees, Links, constant, unknown, number, parameter, name, property, paren, listing, count_all, aggregate, call, modulo, coalesce, signed, product, sum, comparing, test, label_test, end_test, negation, conjunction, disjunction, link, no_trees, more_trees, no_links, more_links}
use Rattle.gql_ast.specs.Operators.{made_list}
use Rattle.gql_ast.specs.Evaluation.{parameter_value}
use Rattle.gql_ast.specs.declared.fault.DataFault.{DataFault}
use Rattle.gql_ast.specs.declared.words.Aggregate.{Aggregate}
use Rattle.gql_ast.specs.declared.words.Operator.{Operator}
use Rattle.gql_ast.specs.declared.words.Operator.TheVariants as operator
use Rattle.gql_ast.specs.declared.words.SetQuantifier.{SetQuantifier}
use Rattle.gql_eval.specs.Machinery.Places.{places_among}
use Rattle.gql_eval.specs.Machinery.Steps.{Op, fixed, held_name, held_property, of_one, of_two, join_side, as_truth, join_all, join_any, skip_if, start_list, add_item, end_list, or_else, over_group}

-- the steps of a side of AND and of all sides behind it: all are skipped behind a False
abbrev pub all_side : List Op → List Op
all_side steps = skip_if false (length steps) ∷ steps

-- the steps of a side of OR or XOR: a side behind OR is skipped behind a True
abbrev pub is_xor : Operator → Bool
is_xor operator.Xor = true
is_xor _ = false

abbrev pub any_side : Operator → List Op → List Op
any_side op steps = cond (is_xor op) steps (skip_if true (length steps) ∷ steps)

-- the steps of what COALESCE goes on to: all are skipped behind a datum that is not NULL
abbrev pub other_side : List Op → List Op
other_side steps = or_else (length steps) ∷ steps

-- a list of which the items are put by these steps; one that is known is put as it is
abbrev pub listing_steps : Option Datum → List Op → List Op
listing_steps (Some l) items = fixed l ∷ []
listing_steps None items = start_list ∷ (items ++ end_list ∷ [])

-- the aggregate of an argument with these steps
abbrev pub aggregate_steps : Aggregate → SetQuantifier → Tree → List Op → List Op
aggregate_steps a q e steps = over_group a q e (length steps) ∷ steps

-- what an expression is in every row, as far as that is seen at once
abbrev pub constant_of : List (List ℕ × Datum) → Tree → Option Datum
constant_of params (constant d) = Some d
constant_of params unknown = Some null
constant_of params (number n) = Some (integer (pos (value_of_digits n)))
constant_of params (parameter p) = Some (parameter_value params p)
constant_of params _ = None

abbrev pub both_known : Option Datum → Option (List Datum) → Option (List Datum)
both_known None o = None
both_known (Some d) None = None
both_known (Some d) (Some ds) = Some (d ∷ ds)

-- the same of all items
abbrev pub constants_of : List (List ℕ × Datum) → Trees → Option (List Datum)
constants_of params no_trees = Some []
constants_of params (more_trees e es) = both_known (constant_of params e) (constants_of params es)

abbrev pub where_made : Result Datum DataFault → Option Datum
where_made (Ok d) = Some d
where_made (Err f) = None

abbrev pub list_of_known : Option (List Datum) → Option Datum
list_of_known None = None
list_of_known (Some ds) = where_made (made_list ds)

-- the list that these items are in every row; one that is beyond the limits is none
abbrev pub constant_list : List (List ℕ × Datum) → Trees → Option Datum
constant_list params es = list_of_known (constants_of params es)

module _ (columns : ColumnList) (names : List (List ℕ)) (params : List (List ℕ × Datum)) where
  abbrev mutual
    -- the steps that put the value of an expression
    pub compiled : Tree → List Op
    compiled (constant d) = fixed d ∷ []
    compiled unknown = fixed null ∷ []
    compiled (number n) = fixed (integer (pos (value_of_digits n))) ∷ []
    compiled (parameter p) = fixed (parameter_value params p) ∷ []
    compiled (name x) = held_name (places_among columns names x) x ∷ []
    compiled (property x p) = held_property (places_among columns names x) x p ∷ []
    compiled (paren e) = compiled e
    compiled (listing es) = listing_steps (constant_list params es) (compiled_items es)
    compiled count_all = fixed null ∷ []
    compiled (aggregate a q e) = aggregate_steps a q e (compiled e)
    compiled (call f e) = compiled e ++ of_one (call f e) ∷ []
    compiled (modulo a b) = compiled a ++ (compiled b ++ of_two (modulo a b) ∷ [])
    compiled (coalesce e es) = compiled e ++ compiled_others es
    compiled (signed s e) = compiled e ++ of_one (signed s e) ∷ []
    compiled (product e ls) = compiled e ++ compiled_chain ls
    compiled (sum e ls) = compiled e ++ compiled_chain ls
    compiled (comparing op a b) = compiled a ++ (compiled b ++ of_two (comparing op a b) ∷ [])
    compiled (test e s q) = compiled e ++ of_one (test e s q) ∷ []
    compiled (label_test e s l) = compiled e ++ of_one (label_test e s l) ∷ []
    compiled (end_test e s which x) = compiled e ++ (held_name (places_among columns names x) x ∷ of_two (end_test e s which x) ∷ [])
    compiled (negation e) = compiled e ++ of_one (negation e) ∷ []
    compiled (conjunction e ls) = compiled e ++ as_truth ∷ compiled_all ls
    compiled (disjunction e ls) = compiled e ++ as_truth ∷ compiled_any ls

    -- the items of a list
    pub compiled_items : Trees → List Op
    compiled_items no_trees = []
    compiled_items (more_trees e es) = compiled e ++ add_item ∷ compiled_items es

    -- COALESCE behind its first side
    pub compiled_others : Trees → List Op
    compiled_others no_trees = []
    compiled_others (more_trees e es) = other_side (compiled e ++ compiled_others es)

    -- a sum or a product behind its first side
    pub compiled_chain : Links → List Op
    compiled_chain no_links = []
    compiled_chain (more_links (link op e) ls) = compiled e ++ join_side op ∷ compiled_chain ls

    -- AND behind its first side
    pub compiled_all : Links → List Op
    compiled_all no_links = []
    compiled_all (more_links (link op e) ls) = all_side (compiled e ++ join_all ∷ compiled_all ls)

    -- OR and XOR behind their first side
    pub compiled_any : Links → List Op
    compiled_any no_links = []
    compiled_any (more_links (link op e) ls) = any_side op (compiled e ++ join_any op ∷ []) ++ compiled_any ls

  -- an aggregate has the steps of its argument behind it
  abbrev pub argument_behind : Op → List Op → Type 0
  argument_behind (over_group a q e n) os = take n os ≡ compiled e
  argument_behind _ os = Unit {0}

  -- the same of all steps
  abbrev pub arguments_behind : List Op → Type 0
  arguments_behind [] = Unit {0}
  arguments_behind (o ∷ os) = argument_behind o os × arguments_behind os
