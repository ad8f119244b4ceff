-- The first fault of each sort in a pattern: the number of E05, and the name of E09.
use Rattle.std.specs.Prelude.{ℕ, ℤ, pos, min, List, Option, option_map}
use Rattle.gql_ast.specs.ClauseColumns.{ColumnList}
use Rattle.gql_ast.specs.declared.path.GraphPattern.{GraphPattern}
use Rattle.gql_expr_checks.specs.First.{first}
use Rattle.gql_norm.specs.Bounds.{bounds_at_fault}
use Rattle.gql_norm.specs.NormalForm.{normal_form}
use Rattle.gql_norm.specs.NormalPattern.{NormalPattern}
use Rattle.gql_norm.specs.WrongKinds.{wrong_in_match}

-- a number as it is told: one above the largest integer, which is refused before, is told as that
abbrev pub at_most_largest : ℕ → ℕ
at_most_largest n = min n 9223372036854775807

-- the same as an integer
abbrev pub told_number : ℕ → ℤ
told_number n = pos (at_most_largest n)

-- of a pattern as it was written
abbrev pub first_bound_at_fault : GraphPattern → Option ℤ
first_bound_at_fault p = option_map told_number (first (bounds_at_fault (normal_form p)))

-- of a normal pattern over these columns
abbrev pub first_wrong_kind : ColumnList → NormalPattern → Option (List ℕ)
first_wrong_kind columns p = first (wrong_in_match columns p)
