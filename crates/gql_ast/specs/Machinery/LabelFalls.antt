-- A label expression is higher than its parts.
use Rattle.std.specs.Prelude.{◌≤◌, List, [], ◌∷◌, map}
use Rattle.std.proofs.Common.{arith}
use denote.Param.Weighed.{most}
use Rattle.gql_ast.specs.Machinery.LabelHeight.{label_height_of, highest_label}
use Rattle.gql_ast.specs.LabelMeaning.{label_of}
use Rattle.gql_ast.specs.declared.label.LabelExpr.{LabelExpr}
use Rattle.gql_ast.specs.declared.label.LabelExpr.TheVariants as label
use Rattle.gql_ast.specs.declared.label.LabelList.TheDeep.{deep-LabelExpr}

-- no part that is behind a box or in a list is higher
pub deep_le-label_height_of : (x : LabelExpr) → deep-LabelExpr x ≤ label_height_of (label_of x)
deep_le-label_height_of (label.Name n) = omega arith
deep_le-label_height_of label.Wildcard = omega arith
deep_le-label_height_of (label.Paren e) = omega arith
deep_le-label_height_of (label.Not e) = omega arith
deep_le-label_height_of (label.And e es) = omega arith
deep_le-label_height_of (label.Or e es) = omega arith

-- the same of all items of a list
pub most_le-highest_label : (xs : List LabelExpr) → most deep-LabelExpr xs ≤ highest_label (map label_of xs)
most_le-highest_label [] = omega arith
most_le-highest_label (x ∷ xs) = omega (arith, deep_le-label_height_of x, most_le-highest_label xs)
