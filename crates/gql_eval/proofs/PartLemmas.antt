-- The parts of an expression: how high they are, and which name is found in them first.
use Rattle.std.proofs.Common.{◌≡◌, ℕ, zero, suc, ◌+◌, ◌<◌, ◌≤◌, Bool, List, [], ◌∷◌, length, map, get_or, Option, ap, ◌∙◌, arith}
use Rattle.std.specs.Prelude.{find}
use Rattle.gql_ast.specs.Scope.{names_in, names_in_trees, names_in_links}
use Rattle.gql_ast.specs.Meaning.{tree_of, link_of}
use Rattle.gql_ast.specs.Machinery.Height.{height_of, highest, highest_link}
use Rattle.gql_ast.specs.declared.expr.Expr.{Expr}
use Rattle.gql_ast.specs.declared.expr.Step.{Step}
use Rattle.gql_ast.proofs.PartLemmas.{parts_from, sides_from, parts_step, sides_step}
use Rattle.gql_eval.proofs.ScopeLemmas.{first, find_append}

-- no part is higher than the highest
pub height_le-highest : (parts : List Expr) (i : ℕ) (e : Expr) → i < length parts → e ≡ get_or parts i e → height_of (tree_of e) ≤ highest (map tree_of parts)
height_le-highest [] i e h p = absurd (omega arith)
height_le-highest (x ∷ xs) zero e h p = omega (arith, ap (λ z. height_of (tree_of z)) p)
height_le-highest (x ∷ xs) (suc i) e h p = omega (arith, height_le-highest xs i e (omega arith) p)

pub height_lt-highest_link : (steps : List Step) (i : ℕ) (s : Step) → i < length steps → s ≡ get_or steps i s → height_of (tree_of s.operand) < highest_link (map link_of steps)
height_lt-highest_link [] i s h p = absurd (omega arith)
height_lt-highest_link (x ∷ xs) zero s h p = omega (arith, ap (λ (z : Step). height_of (tree_of z.operand)) p)
height_lt-highest_link (x ∷ xs) (suc i) s h p = omega (arith, height_lt-highest_link xs i s (omega arith) p)

-- the first name that passes a test, from i on
abbrev pub found_in_parts : (List ℕ → Bool) → List Expr → ℕ → Option (List ℕ)
found_in_parts test parts i = find test (names_in_trees (parts_from parts i))

abbrev pub found_in_sides : (List ℕ → Bool) → List Step → ℕ → Option (List ℕ)
found_in_sides test steps i = find test (names_in_links (sides_from steps i))

pub found_in_parts_step : (test : List ℕ → Bool) (parts : List Expr) (i : ℕ) (e : Expr) → i < length parts → e ≡ get_or parts i e
    → found_in_parts test parts i ≡ first (find test (names_in (tree_of e))) (found_in_parts test parts (i + 1))
found_in_parts_step test parts i e h p =
    ap (λ ts. find test (names_in_trees ts)) (parts_step parts i e h p) ∙ find_append test (names_in (tree_of e)) (names_in_trees (parts_from parts (i + 1)))

pub found_in_sides_step : (test : List ℕ → Bool) (steps : List Step) (i : ℕ) (s : Step) → i < length steps → s ≡ get_or steps i s
    → found_in_sides test steps i ≡ first (find test (names_in (tree_of s.operand))) (found_in_sides test steps (i + 1))
found_in_sides_step test steps i s h p =
    ap (λ ls. find test (names_in_links ls)) (sides_step steps i s h p) ∙ find_append test (names_in (tree_of s.operand)) (names_in_links (sides_from steps (i + 1)))
