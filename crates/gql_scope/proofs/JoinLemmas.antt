-- The question that asks for one of the two codes of joins, told by each code.
use Rattle.std.proofs.Common.{◌≡◌, refl}
use Rattle.gql_ast.specs.ClauseColumns.{ColumnList}
use Rattle.gql_ast.specs.declared.clause.Clause.{Clause}
use Rattle.gql_ast.specs.declared.refusal.Refusal.TheVariants as refusal
use Rattle.gql_expr_checks.specs.Refusals.{refusal_of_first}
use Rattle.gql_scope.specs.WholePatterns.{joined_groups, joined_conditionals}
use Rattle.gql_scope.specs.Machinery.Joins.{join_refusal, joined_names}
use Rattle.gql_scope.specs.declared.joins.Join.TheVariants as join

pub groups_joined : (columns : ColumnList) (c : Clause)
    → refusal_of_first (join_refusal join.Group) (joined_names join.Group columns c) ≡ refusal_of_first refusal.GroupJoin (joined_groups columns c)
groups_joined columns c = refl

pub conditionals_joined : (columns : ColumnList) (c : Clause)
    → refusal_of_first (join_refusal join.Conditional) (joined_names join.Conditional columns c) ≡ refusal_of_first refusal.CondJoin (joined_conditionals columns c)
conditionals_joined columns c = refl
