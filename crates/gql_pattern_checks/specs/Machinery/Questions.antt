-- What is asked of one element and of one condition, for each question.
use Rattle.std.specs.Prelude.{ℕ, List, [], ◌∷◌, map, Option, Some, None, if◌then◌else◌}
use Rattle.std.specs.List.{flat_map}
use Rattle.gql_values3.specs.Datum.{Datum}
use Rattle.gql_ast.specs.Tree.{Tree}
use Rattle.gql_ast.specs.declared.refusal.Refusal.{Refusal}
use Rattle.gql_ast.specs.declared.refusal.Refusal.TheVariants as refusal
use Rattle.gql_ast.specs.declared.refusal.ColumnRef.TheVariants as column
use Rattle.gql_expr_checks.specs.ExprParameters.{parameters_in, unset}
use Rattle.gql_expr_checks.specs.Refusals.{refusal_of_first}
use Rattle.gql_expr_checks.specs.Repeated.{is_among, repeated}
use Rattle.gql_norm.specs.NormalPattern.{ElementPattern, Predicate, PropertyIs, Holds}
use Rattle.gql_norm.specs.PredicateSpot.{property_in, tree_in}

-- a parameter that isn't set
abbrev pub unset_in_element : List (List ℕ × Datum) → ElementPattern → Option Refusal
unset_in_element params w = refusal_of_first refusal.Parameter (unset params (flat_map parameters_in (map tree_in w.predicates)))

abbrev pub unset_in_condition : List (List ℕ × Datum) → Tree → Option Refusal
unset_in_condition params e = refusal_of_first refusal.Parameter (unset params (parameters_in e))

-- a property that a map names twice
abbrev pub second_naming : List (List ℕ) → Option Refusal
second_naming xs = refusal_of_first (λ x. refusal.Column (column.Property x)) xs

abbrev pub repeated_in_element : ElementPattern → Option Refusal
repeated_in_element w = second_naming (repeated [] (flat_map property_in w.predicates))

-- the same of one predicate, behind names seen before, and the names seen behind it
abbrev pub named_before : List (List ℕ) → Predicate → Option Refusal
named_before seen (PropertyIs p e) = if is_among seen p then Some (refusal.Column (column.Property p)) else None
named_before seen (Holds e) = None

abbrev pub named_behind : List (List ℕ) → Predicate → List (List ℕ)
named_behind seen (PropertyIs p e) = p ∷ seen
named_behind seen (Holds e) = seen
