-- Static refusals: the first in the order of the codes E08 to E16 and E23, and within one code the first in the order of the
-- text. A MATCH is refused as the normal form of its pattern is; each other clause, and each other statement, as its page says.
-- E05 stands before them all, in `StatementBounds`.
use Rattle.std.specs.Prelude.{ℕ, Bool, false, ◌||◌, List, [], ◌∷◌, ◌++◌, map, Option, Some, None}
use Rattle.std.specs.List.{list_any, flat_map}
use Rattle.std.specs.Option.{option_or}
use Rattle.gql_values3.specs.Datum.{Datum}
use Rattle.gql_ast.specs.ClauseColumns.{ColumnList}
use Rattle.gql_ast.specs.Projections.{columns_behind}
use Rattle.gql_ast.specs.declared.clause.Clause.{Clause}
use Rattle.gql_ast.specs.declared.clause.Clause.TheVariants as clause
use Rattle.gql_ast.specs.declared.refusal.ColumnRef.{ColumnRef}
use Rattle.gql_ast.specs.declared.refusal.ColumnRef.TheVariants as column
use Rattle.gql_ast.specs.declared.refusal.Refusal.{Refusal}
use Rattle.gql_ast.specs.declared.refusal.Refusal.TheVariants as refusal
use Rattle.gql_ast.specs.declared.statement.Statement.{Statement}
use Rattle.gql_ast.specs.declared.statement.Statement.TheVariants as statement
use Rattle.gql_expr_checks.specs.ExprParameters.{unset}
use Rattle.gql_expr_checks.specs.Refusals.{refusal_of_first, misuse_if}
use Rattle.gql_norm.specs.NormalForm.{normal_form}
use Rattle.gql_norm.specs.NormalPattern.{NormalPattern}
use Rattle.gql_norm.specs.NewColumns.{columns_after}
use Rattle.gql_norm.specs.UnknownNames.{unknown_in_match}
use Rattle.gql_norm.specs.WrongKinds.{wrong_in_match}
use Rattle.gql_norm.specs.JoinDefects.{joined_group, joined_conditional}
use Rattle.gql_norm.specs.Termination.{empty_loop, unbounded, group_references}
use Rattle.gql_norm.specs.OtherDefects.{misused_in_match, repeated_properties, unset_parameters}
use Rattle.gql_norm.specs.PatternRefusal.{refused_if}
use Rattle.gql_scope.specs.UnknownNames.{unknown_in_clause}
use Rattle.gql_scope.specs.WrongKinds.{wrong_in_clause}
use Rattle.gql_scope.specs.Misuses.{misused_clause}
use Rattle.gql_scope.specs.ColumnFaults.{faults_in_clause}
use Rattle.gql_scope.specs.UnsetParameters.{parameters_of_clause}
use Rattle.gql_scope.specs.StaticRefusals.{session_refusal}
use Rattle.gql_scope.specs.CatalogRefusals.{catalog_refusal}

-- what is said of a clause: of a MATCH by the normal form of its pattern, of each other clause by itself
abbrev pub by_form : {A : Type 0} → (NormalPattern → A) → (Clause → A) → Clause → A
by_form of_pattern of_other (clause.Match m) = of_pattern (normal_form m.pattern)
by_form of_pattern of_other c = of_other c

-- the columns behind a clause; behind a MATCH those of its pattern's path names and variables
abbrev pub columns_past : ColumnList → Clause → ColumnList
columns_past columns c = by_form (columns_after columns) (columns_behind columns) c

-- what is at fault in a query's clauses, each under the columns behind the one before
abbrev pub over_clauses : {A : Type 0} → (ColumnList → Clause → List A) → ColumnList → List Clause → List A
over_clauses faults columns [] = []
over_clauses faults columns (c ∷ cs) = faults columns c ++ over_clauses faults (columns_past columns c) cs

-- E08: the variables of a clause that aren't in scope, or that it may not declare
abbrev pub unknown_names : ColumnList → Clause → List (List ℕ)
unknown_names columns c = by_form (unknown_in_match columns) (unknown_in_clause columns) c

-- E09: the names of a clause that stand for another kind than is needed
abbrev pub wrong_kinds : ColumnList → Clause → List (List ℕ)
wrong_kinds columns c = by_form (wrong_in_match columns) (wrong_in_clause columns) c

-- E10 and E11, which a pattern alone can have, each with the name that is at fault first
abbrev pub at_most_one : Option (List ℕ) → List (List ℕ)
at_most_one None = []
at_most_one (Some x) = x ∷ []

-- E10: the name that stands in two parts of a pattern, or as a column too, and is a group in one
abbrev pub joined_groups : ColumnList → Clause → List (List ℕ)
joined_groups columns c = by_form (λ p. at_most_one (joined_group columns p)) (λ d. []) c

-- E11: the same without a group, where one of them is conditional
abbrev pub joined_conditionals : ColumnList → Clause → List (List ℕ)
joined_conditionals columns c = by_form (λ p. at_most_one (joined_conditional columns p)) (λ d. []) c

-- E12 to E14, which ask for no columns
abbrev pub of_pattern : (NormalPattern → Bool) → Clause → Bool
of_pattern asks c = by_form asks (λ d. false) c

-- E14: the groups over endless repetition that conditions inside a pattern name
abbrev pub open_references : Clause → List (List ℕ)
open_references c = by_form group_references (λ d. []) c

-- E15
abbrev pub is_misused : ColumnList → Clause → Bool
is_misused columns c = by_form (misused_in_match columns) (misused_clause columns) c

-- the same of a query's clauses, each under the columns behind the one before
abbrev pub misused_over : ColumnList → List Clause → Bool
misused_over columns [] = false
misused_over columns (c ∷ cs) = is_misused columns c || misused_over (columns_past columns c) cs

-- E16
abbrev pub column_faults : ColumnList → Clause → List ColumnRef
column_faults columns c = by_form (λ p. map column.Property (repeated_properties p)) (faults_in_clause columns) c

-- the codes E08 to E11, which look at names and how they are joined
abbrev pub name_refusal : List Clause → Option Refusal
name_refusal cs =
    option_or (refusal_of_first refusal.Variable (over_clauses unknown_names [] cs))
    (option_or (refusal_of_first refusal.Kind (over_clauses wrong_kinds [] cs))
    (option_or (refusal_of_first refusal.GroupJoin (over_clauses joined_groups [] cs))
    (refusal_of_first refusal.CondJoin (over_clauses joined_conditionals [] cs))))

-- the codes E12 to E14, which look at endless repetition
abbrev pub repetition_refusal : List Clause → Option Refusal
repetition_refusal cs =
    option_or (refused_if refusal.EmptyLoop (list_any (of_pattern empty_loop) cs))
    (option_or (refused_if refusal.Unbounded (list_any (of_pattern unbounded) cs))
    (refusal_of_first refusal.GroupRef (flat_map open_references cs)))

module _ (params : List (List ℕ × Datum)) where
  -- E23
  abbrev pub unset_in_clause : Clause → List (List ℕ)
  unset_in_clause c = by_form (unset_parameters params) (λ d. unset params (parameters_of_clause d)) c

  -- the codes E15, E16 and E23
  abbrev pub use_refusal : List Clause → Option Refusal
  use_refusal cs =
      option_or (misuse_if (misused_over [] cs))
      (option_or (refusal_of_first refusal.Column (over_clauses column_faults [] cs))
      (refusal_of_first refusal.Parameter (flat_map unset_in_clause cs)))

  -- the first refusal of a query, if there is one
  abbrev pub clauses_refusal : List Clause → Option Refusal
  clauses_refusal cs = option_or (name_refusal cs) (option_or (repetition_refusal cs) (use_refusal cs))

  -- the first refusal of a statement, if there is one; none of a transaction's
  abbrev pub whole_refusal : Statement → Option Refusal
  whole_refusal (statement.Query q) = clauses_refusal q.clauses
  whole_refusal (statement.Session s) = session_refusal params s
  whole_refusal (statement.Catalog s) = catalog_refusal s
  whole_refusal _ = None
