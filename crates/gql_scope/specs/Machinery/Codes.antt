-- One walk over a query's clauses that asks for all codes. The first refusal by E08 ends it; of each code behind E08 it keeps the
-- first so far. Most codes are asked of a clause as a whole. The kinds of an INSERT and the misuses of a LET depend on the names
-- before, so these two are asked beside the names.
use Rattle.std.specs.Prelude.{ℕ, Bool, false, List, [], ◌∷◌, Option, None}
use Rattle.std.specs.Option.{option_or}
use Rattle.gql_values3.specs.Datum.{Datum}
use Rattle.gql_ast.specs.ClauseColumns.{ColumnList}
use Rattle.gql_ast.specs.Endpoints.{wrong_in_spots}
use Rattle.gql_ast.specs.InsertColumns.{insert_spots}
use Rattle.gql_ast.specs.declared.change.ChangeClause.{ChangeClause}
use Rattle.gql_ast.specs.declared.change.ChangeClause.TheVariants as change
use Rattle.gql_ast.specs.declared.clause.Clause.{Clause}
use Rattle.gql_ast.specs.declared.clause.Clause.TheVariants as clause
use Rattle.gql_ast.specs.declared.refusal.Refusal.{Refusal}
use Rattle.gql_ast.specs.declared.refusal.Refusal.TheVariants as refusal
use Rattle.gql_expr_checks.specs.Refusals.{refusal_of_first, misuse_if}
use Rattle.gql_norm.specs.OtherDefects.{misused_in_match}
use Rattle.gql_norm.specs.PatternRefusal.{refused_if}
use Rattle.gql_norm.specs.Termination.{empty_loop, unbounded}
use Rattle.gql_norm.specs.WrongKinds.{wrong_in_match}
use Rattle.gql_scope.specs.Misuses.{misused_let, misused_clause}
use Rattle.gql_scope.specs.WrongKinds.{wrong_in_change}
use Rattle.gql_scope.specs.WholePatterns.{by_form, columns_past, unknown_names, wrong_kinds, joined_groups, joined_conditionals, of_pattern, open_references, is_misused, column_faults, unset_in_clause}
use Rattle.gql_scope.specs.declared.refusals.Code.{Code}
use Rattle.gql_scope.specs.declared.refusals.Code.TheVariants as code
use Rattle.gql_scope.specs.declared.refusals.Refusals.{Refusals}

-- what is kept of a code
abbrev pub kept : Code → Refusals → Option Refusal
kept code.Kinds r = r.kinds
kept code.GroupJoins r = r.group_joins
kept code.CondJoins r = r.cond_joins
kept code.EmptyLoops r = r.empty_loops
kept code.OpenEnds r = r.open_ends
kept code.GroupRefs r = r.group_refs
kept code.Misuses r = r.misuses
kept code.Columns r = r.columns
kept code.Parameters r = r.parameters

-- nothing of any code
abbrev pub nothing_kept : Refusals
nothing_kept = record {
  kinds = None;
  group_joins = None;
  cond_joins = None;
  empty_loops = None;
  open_ends = None;
  group_refs = None;
  misuses = None;
  columns = None;
  parameters = None;
}

-- the first in the order of the codes
abbrev pub first_kept : Refusals → Option Refusal
first_kept r =
    option_or (option_or r.kinds (option_or r.group_joins r.cond_joins))
    (option_or (option_or r.empty_loops (option_or r.open_ends r.group_refs))
    (option_or r.misuses (option_or r.columns r.parameters)))

-- the first refusal of clauses in order, each under the columns behind the one before
abbrev pub first_over : (ColumnList → Clause → Option Refusal) → ColumnList → List Clause → Option Refusal
first_over asks columns [] = None
first_over asks columns (c ∷ cs) = option_or (asks columns c) (first_over asks (columns_past columns c) cs)

-- what SET, REMOVE and DELETE act on that is no element, and what an INSERT leads to that is no node: E09 apart from the names,
-- and beside them
abbrev pub targets_in_change : ColumnList → ChangeClause → List (List ℕ)
targets_in_change columns (change.Insert ps) = []
targets_in_change columns c = wrong_in_change columns c

abbrev pub endpoints_in_change : ColumnList → ChangeClause → List (List ℕ)
endpoints_in_change columns (change.Insert ps) = wrong_in_spots columns (insert_spots ps)
endpoints_in_change columns c = []

-- the same of a clause that is no MATCH
abbrev pub targets_in_clause : ColumnList → Clause → List (List ℕ)
targets_in_clause columns (clause.Change c) = targets_in_change columns c
targets_in_clause columns _ = []

abbrev pub endpoints_in_clause : ColumnList → Clause → List (List ℕ)
endpoints_in_clause columns (clause.Change c) = endpoints_in_change columns c
endpoints_in_clause columns _ = []

-- E15 apart from the names: of each clause but MATCH and LET; and beside them: of LET
abbrev pub misused_but_let : ColumnList → Clause → Bool
misused_but_let columns (clause.Let is) = false
misused_but_let columns c = misused_clause columns c

abbrev pub misused_in_let : ColumnList → Clause → Bool
misused_in_let columns (clause.Let is) = misused_let columns is
misused_in_let columns _ = false

-- both of any clause
abbrev pub kinds_apart : ColumnList → Clause → List (List ℕ)
kinds_apart columns c = by_form (wrong_in_match columns) (targets_in_clause columns) c

abbrev pub kinds_beside : ColumnList → Clause → List (List ℕ)
kinds_beside columns c = by_form (λ p. []) (endpoints_in_clause columns) c

abbrev pub misused_apart : ColumnList → Clause → Bool
misused_apart columns c = by_form (misused_in_match columns) (misused_but_let columns) c

abbrev pub misused_beside : ColumnList → Clause → Bool
misused_beside columns c = by_form (λ p. false) (misused_in_let columns) c

-- the refusal of a clause by E08
abbrev pub names_refusal : ColumnList → Clause → Option Refusal
names_refusal columns c = refusal_of_first refusal.Variable (unknown_names columns c)

module _ (params : List (List ℕ × Datum)) where
  -- the refusal of a clause by another code
  abbrev pub refusal_by : Code → ColumnList → Clause → Option Refusal
  refusal_by code.Kinds columns c = refusal_of_first refusal.Kind (wrong_kinds columns c)
  refusal_by code.GroupJoins columns c = refusal_of_first refusal.GroupJoin (joined_groups columns c)
  refusal_by code.CondJoins columns c = refusal_of_first refusal.CondJoin (joined_conditionals columns c)
  refusal_by code.EmptyLoops columns c = refused_if refusal.EmptyLoop (of_pattern empty_loop c)
  refusal_by code.OpenEnds columns c = refused_if refusal.Unbounded (of_pattern unbounded c)
  refusal_by code.GroupRefs columns c = refusal_of_first refusal.GroupRef (open_references c)
  refusal_by code.Misuses columns c = misuse_if (is_misused columns c)
  refusal_by code.Columns columns c = refusal_of_first refusal.Column (column_faults columns c)
  refusal_by code.Parameters columns c = refusal_of_first refusal.Parameter (unset_in_clause params c)

  -- what of it is asked apart from the names
  abbrev pub apart_by : Code → ColumnList → Clause → Option Refusal
  apart_by code.Kinds columns c = refusal_of_first refusal.Kind (kinds_apart columns c)
  apart_by code.Misuses columns c = misuse_if (misused_apart columns c)
  apart_by other columns c = refusal_by other columns c
