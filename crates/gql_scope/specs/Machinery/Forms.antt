-- The normal form of a clause's pattern, and what is said of a clause by it.
use Rattle.std.specs.Prelude.{Option, Some, None}
use Rattle.gql_ast.specs.ClauseColumns.{ColumnList}
use Rattle.gql_ast.specs.Projections.{columns_behind}
use Rattle.gql_ast.specs.declared.clause.Clause.{Clause}
use Rattle.gql_ast.specs.declared.clause.Clause.TheVariants as clause
use Rattle.gql_norm.specs.NormalForm.{normal_form}
use Rattle.gql_norm.specs.NormalPattern.{NormalPattern}
use Rattle.gql_scope.specs.WholePatterns.{by_form}

-- if it is a MATCH
abbrev pub form_of : Clause → Option NormalPattern
form_of (clause.Match m) = Some (normal_form m.pattern)
form_of _ = None

-- by a form that is there, or else so
abbrev pub from_form : {A : Type 0} → (NormalPattern → A) → A → Option NormalPattern → A
from_form of_pattern other None = other
from_form of_pattern other (Some p) = of_pattern p

-- the columns behind a clause that is no MATCH
abbrev pub columns_unless_match : ColumnList → Clause → ColumnList
columns_unless_match columns c = by_form (λ p. columns) (columns_behind columns) c
