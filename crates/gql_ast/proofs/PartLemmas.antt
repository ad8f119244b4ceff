-- The parts of an expression, from one on.
use Rattle.std.proofs.Common.{◌≡◌, ℕ, ◌+◌, ◌<◌, List, length, map, drop, get_or, arith}
use Rattle.std.proofs.lemmas.Grind.{common_steps}
use Rattle.gql_ast.specs.Tree.{Trees, Links, trees_of, links_of, more_trees, more_links}
use Rattle.gql_ast.specs.Meaning.{tree_of, link_of}
use Rattle.gql_ast.specs.declared.expr.Expr.{Expr}
use Rattle.gql_ast.specs.declared.expr.Step.{Step}

-- the parts from i on, and the sides from i on
abbrev pub parts_from : List Expr → ℕ → Trees
parts_from parts i = trees_of (map tree_of (drop i parts))

abbrev pub sides_from : List Step → ℕ → Links
sides_from steps i = links_of (map link_of (drop i steps))

pub parts_step : (parts : List Expr) (i : ℕ) (e : Expr) → i < length parts → e ≡ get_or parts i e → parts_from parts i ≡ more_trees (tree_of e) (parts_from parts (i + 1))
parts_step parts i e h p = grind (arith, common_steps)

pub sides_step : (steps : List Step) (i : ℕ) (s : Step) → i < length steps → s ≡ get_or steps i s → sides_from steps i ≡ more_links (link_of s) (sides_from steps (i + 1))
sides_step steps i s h p = grind (arith, common_steps)
