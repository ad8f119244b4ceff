-- An expression is higher than its parts.
use Rattle.std.specs.Prelude.{◌≤◌, List, [], ◌∷◌, map}
use Rattle.std.proofs.Common.{arith}
use denote.Param.Weighed.{most}
use Rattle.gql_ast.specs.Machinery.Height.{height_of, highest, link_height_of, highest_link}
use Rattle.gql_ast.specs.Meaning.{tree_of, link_of}
use Rattle.gql_ast.specs.declared.expr.Expr.{Expr}
use Rattle.gql_ast.specs.declared.expr.Step.{Step}
use Rattle.gql_ast.specs.declared.expr.Expr.TheVariants as expr
use Rattle.gql_ast.specs.declared.expr.Exprs.TheDeep.{deep-Expr, deep-Step}

-- no part that is behind a box or in a list is higher
pub deep_le-height_of : (x : Expr) → deep-Expr x ≤ height_of (tree_of x)
deep_le-height_of (expr.Constant d) = omega arith
deep_le-height_of expr.Unknown = omega arith
deep_le-height_of (expr.Number n) = omega arith
deep_le-height_of (expr.Parameter n) = omega arith
deep_le-height_of (expr.Name n) = omega arith
deep_le-height_of (expr.Property n p) = omega arith
deep_le-height_of (expr.Paren e) = omega arith
deep_le-height_of (expr.List es) = omega arith
deep_le-height_of expr.CountAll = omega arith
deep_le-height_of (expr.Aggregate g s e) = omega arith
deep_le-height_of (expr.Call f e) = omega arith
deep_le-height_of (expr.Mod a b) = omega arith
deep_le-height_of (expr.Coalesce e es) = omega arith
deep_le-height_of (expr.Signed s e) = omega arith
deep_le-height_of (expr.Product e ls) = omega arith
deep_le-height_of (expr.Sum e ls) = omega arith
deep_le-height_of (expr.Compare op a b) = omega arith
deep_le-height_of (expr.Is e s q) = omega arith
deep_le-height_of (expr.IsLabeled e s l) = omega arith
deep_le-height_of (expr.IsEnd e s end n) = omega arith
deep_le-height_of (expr.Not e) = omega arith
deep_le-height_of (expr.And e ls) = omega arith
deep_le-height_of (expr.Or e ls) = omega arith

pub deep_le-link_height_of : (s : Step) → deep-Step s ≤ link_height_of (link_of s)
deep_le-link_height_of s = omega (arith, deep_le-height_of s.operand)

-- the same of all items of a list
pub most_le-highest : (xs : List Expr) → most deep-Expr xs ≤ highest (map tree_of xs)
most_le-highest [] = omega arith
most_le-highest (x ∷ xs) = omega (arith, deep_le-height_of x, most_le-highest xs)

pub most_le-highest_link : (xs : List Step) → most deep-Step xs ≤ highest_link (map link_of xs)
most_le-highest_link [] = omega arith
most_le-highest_link (x ∷ xs) = omega (arith, deep_le-link_height_of x, most_le-highest_link xs)
