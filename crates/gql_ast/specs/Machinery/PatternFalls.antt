-- A path pattern is higher than its parts.
use Rattle.std.specs.Prelude.{◌≤◌, List, [], ◌∷◌, map}
use Rattle.std.proofs.Common.{arith}
use denote.Param.Weighed.{most}
use Rattle.gql_ast.specs.Machinery.PatternHeight.{pattern_height_of, highest_pattern}
use Rattle.gql_ast.specs.PatternMeaning.{pattern_of}
use Rattle.gql_ast.specs.declared.pattern.PathExpr.{PathExpr}
use Rattle.gql_ast.specs.declared.pattern.PathExpr.TheVariants as path
use Rattle.gql_ast.specs.declared.pattern.PathList.TheDeep.{deep-PathExpr}

-- no part that is behind a box or in a list is higher
pub deep_le-pattern_height_of : (x : PathExpr) → deep-PathExpr x ≤ pattern_height_of (pattern_of x)
deep_le-pattern_height_of (path.Node f) = omega arith
deep_le-pattern_height_of (path.Edge d f) = omega arith
deep_le-pattern_height_of (path.Paren m x c) = omega arith
deep_le-pattern_height_of (path.Repeat x q) = omega arith
deep_le-pattern_height_of (path.Optional x) = omega arith
deep_le-pattern_height_of (path.Concat x xs) = omega arith
deep_le-pattern_height_of (path.Union x xs) = omega arith
deep_le-pattern_height_of (path.MultisetUnion x xs) = omega arith

-- the same of all items of a list
pub most_le-highest_pattern : (xs : List PathExpr) → most deep-PathExpr xs ≤ highest_pattern (map pattern_of xs)
most_le-highest_pattern [] = omega arith
most_le-highest_pattern (x ∷ xs) = omega (arith, deep_le-pattern_height_of x, most_le-highest_pattern xs)
