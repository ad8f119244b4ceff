-- The first of numbers at fault, as it is told.
use Rattle.std.specs.Prelude.{ℕ, List, ◌++◌, Option, option_map}
use Rattle.std.specs.List.{flat_map}
use Rattle.gql_ast.specs.Pattern.{Patterns}
use Rattle.gql_ast.specs.declared.path.PathPattern.{PathPattern}
use Rattle.gql_expr_checks.specs.First.{first}
use Rattle.gql_norm.specs.Bounds.{bounds_in, bounds_in_selector}
use Rattle.gql_norm.specs.NormalForm.{normal_path, parts_of}
use Rattle.gql_degrees.specs.FirstFaults.{at_most_largest}

abbrev pub first_told : List ℕ → Option ℕ
first_told ns = option_map at_most_largest (first ns)

-- of patterns one behind the other, and of a path pattern
abbrev pub bounds_in_patterns : Patterns → List ℕ
bounds_in_patterns ps = flat_map bounds_in (parts_of ps)

abbrev pub bounds_in_path : PathPattern → List ℕ
bounds_in_path p = bounds_in_selector (normal_path p).selector ++ bounds_in (normal_path p).body
