-- The first wide number of a list of several parts.
use Rattle.std.proofs.Common.{◌≡◌, ℕ, ◌+◌, ◌<◌, List, [], ◌∷◌, refl, ◌++◌, length, drop, get_or, Option, ap, map, add-one, drop-cons}
use Rattle.std.specs.List.{flat_map, find}
use Rattle.std.specs.Option.{option_or}
use Rattle.std.proofs.lemmas.List.Folds.{find-append}
use Rattle.gql_ast.specs.NumberLiterals.{Numerals, is_wide, numbers_in, numbers_in_trees, numbers_in_links, numbers_in_pattern, numbers_in_patterns, numbers_in_entry, numbers_in_named}
use Rattle.gql_ast.specs.Tree.{trees_of, links_of}
use Rattle.gql_ast.specs.Meaning.{tree_of, link_of}
use Rattle.gql_ast.specs.Pattern.{patterns_of}
use Rattle.gql_ast.specs.PatternMeaning.{item_of, pattern_of}
use Rattle.gql_ast.specs.declared.filler.MapItem.{MapItem}
use Rattle.gql_ast.specs.declared.expr.Expr.{Expr}
use Rattle.gql_ast.specs.declared.expr.Step.{Step}
use Rattle.gql_ast.specs.declared.pattern.PathExpr.{PathExpr}

-- in one part, and else in the other
pub in_both : (xs ys : Numerals) → find is_wide (xs ++ ys) ≡ option_or (find is_wide xs) (find is_wide ys)
in_both xs ys = find-append is_wide xs ys

-- in the items from one on
abbrev pub found : {A : Type 0} → (A → Numerals) → List A → ℕ → Option (List ℕ)
found f xs i = find is_wide (flat_map f (drop i xs))

-- in an item, and else behind it
pub in_item : {A : Type 0} (f : A → Numerals) (xs : List A) (i : ℕ) (x : A) → i < length xs → x ≡ get_or xs i x
    → found f xs i ≡ option_or (find is_wide (f x)) (found f xs (i + 1))
in_item f xs i x h p = rw (drop-cons xs i x, ← p, add-one) (find-append is_wide (f x) _)

-- in expressions, sides of a chain and path patterns, from one on
abbrev pub found_in_trees : List Expr → ℕ → Option (List ℕ)
found_in_trees es i = find is_wide (numbers_in_trees (trees_of (map tree_of (drop i es))))

abbrev pub found_in_links : List Step → ℕ → Option (List ℕ)
found_in_links ss i = find is_wide (numbers_in_links (links_of (map link_of (drop i ss))))

abbrev pub found_in_patterns : List PathExpr → ℕ → Option (List ℕ)
found_in_patterns xs i = find is_wide (numbers_in_patterns (patterns_of (map pattern_of (drop i xs))))

pub in_expr : (es : List Expr) (i : ℕ) (e : Expr) → i < length es → e ≡ get_or es i e
    → found_in_trees es i ≡ option_or (find is_wide (numbers_in (tree_of e))) (found_in_trees es (i + 1))
in_expr es i e h p = rw (drop-cons es i e, ← p, add-one) (find-append is_wide (numbers_in (tree_of e)) _)

pub in_step : (ss : List Step) (i : ℕ) (s : Step) → i < length ss → s ≡ get_or ss i s
    → found_in_links ss i ≡ option_or (find is_wide (numbers_in (tree_of s.operand))) (found_in_links ss (i + 1))
in_step ss i s h p = rw (drop-cons ss i s, ← p, add-one) (find-append is_wide (numbers_in (tree_of s.operand)) _)

pub in_pattern : (xs : List PathExpr) (i : ℕ) (x : PathExpr) → i < length xs → x ≡ get_or xs i x
    → found_in_patterns xs i ≡ option_or (find is_wide (numbers_in_pattern (pattern_of x))) (found_in_patterns xs (i + 1))
in_pattern xs i x h p = rw (drop-cons xs i x, ← p, add-one) (find-append is_wide (numbers_in_pattern (pattern_of x)) _)

-- the items of a map, as plain data
pub named : (is : List MapItem) → flat_map numbers_in_entry is ≡ flat_map numbers_in_named (map item_of is)
named [] = refl
named (i ∷ is) = ap (λ ns. numbers_in_entry i ++ ns) (named is)
