-- The two codes of joins, by the one that is asked.
use Rattle.std.specs.Prelude.{ℕ, List, [], Option}
use Rattle.gql_ast.specs.ClauseColumns.{ColumnList}
use Rattle.gql_ast.specs.declared.clause.Clause.{Clause}
use Rattle.gql_ast.specs.declared.refusal.Refusal.{Refusal}
use Rattle.gql_ast.specs.declared.refusal.Refusal.TheVariants as refusal
use Rattle.gql_norm.specs.NormalPattern.{NormalPattern}
use Rattle.gql_norm.specs.JoinDefects.{joined_group, joined_conditional}
use Rattle.gql_scope.specs.WholePatterns.{by_form, at_most_one}
use Rattle.gql_scope.specs.declared.joins.Join.{Join}
use Rattle.gql_scope.specs.declared.joins.Join.TheVariants as join

abbrev pub join_refusal : Join → List ℕ → Refusal
join_refusal join.Group x = refusal.GroupJoin x
join_refusal join.Conditional x = refusal.CondJoin x

abbrev pub joined_in_pattern : Join → ColumnList → NormalPattern → Option (List ℕ)
joined_in_pattern join.Group columns p = joined_group columns p
joined_in_pattern join.Conditional columns p = joined_conditional columns p

-- of a clause; another clause than MATCH joins nothing
abbrev pub joined_names : Join → ColumnList → Clause → List (List ℕ)
joined_names j columns c = by_form (λ p. at_most_one (joined_in_pattern j columns p)) (λ d. []) c
