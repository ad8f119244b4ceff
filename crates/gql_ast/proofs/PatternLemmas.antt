-- Two path patterns of one meaning are one: what means a tree can be read off from the tree.
use Rattle.std.proofs.Common.{◌≡◌, ℕ, List, [], ◌∷◌, map, Option, Some, None, option_map, refl, ap, sym, ◌∙◌}
use Rattle.gql_ast.specs.LabelMeaning.{label_expr_of}
use Rattle.gql_ast.proofs.LabelLemmas.{label_expr_of-label_of}
use Rattle.gql_ast.specs.Meaning.{expr_of}
use Rattle.gql_ast.proofs.MeaningLemmas.{expr_of-tree_of}
use Rattle.gql_ast.specs.LabelMeaning.{label_of}
use Rattle.gql_ast.specs.Tree.{Tree}
use Rattle.gql_ast.specs.Meaning.{tree_of}
use Rattle.gql_ast.specs.Filler.{ConditionTree, FillerTree, properties, holds}
use Rattle.gql_ast.specs.Pattern.{Pattern, patterns_of, items_of_patterns, node, edge, paren, repeated, optional, sequence, alternation, multiset_alternation}
use Rattle.gql_ast.specs.PatternMeaning.{item_of, item_from, condition_of, condition_from, filler_of, filler_from, pattern_of, path_expr_of}
use Rattle.gql_ast.specs.declared.filler.MapItem.{MapItem}
use Rattle.gql_ast.specs.declared.filler.Condition.{Condition}
use Rattle.gql_ast.specs.declared.filler.Condition.TheVariants as condition
use Rattle.gql_ast.specs.declared.filler.Filler.{Filler}
use Rattle.gql_ast.specs.declared.pattern.PathExpr.{PathExpr}
use Rattle.gql_ast.specs.declared.pattern.PathExpr.TheVariants as expr

option_map-back : {A B : Type 0} (f : A → B) (g : B → A) → ((x : A) → g (f x) ≡ x) → (o : Option A) → option_map g (option_map f o) ≡ o
option_map-back f g back None = refl
option_map-back f g back (Some x) = ap Some (back x)

map-back : {A B : Type 0} (f : A → B) (g : B → A) → ((x : A) → g (f x) ≡ x) → (xs : List A) → map g (map f xs) ≡ xs
map-back f g back [] = refl
map-back f g back (x ∷ xs) = λ i. back x i ∷ map-back f g back xs i

item_from-item_of : (x : MapItem) → item_from (item_of x) ≡ x
item_from-item_of x = λ i. record { name = x.name; value = expr_of-tree_of x.value i }

condition_from-condition_of : (x : Condition) → condition_from (condition_of x) ≡ x
condition_from-condition_of (condition.Map is) = ap condition.Map (map-back item_of item_from item_from-item_of is)
condition_from-condition_of (condition.Where e) = ap condition.Where (expr_of-tree_of e)

filler_from-filler_of : (x : Filler) → filler_from (filler_of x) ≡ x
filler_from-filler_of x = λ i. record {
  variable = x.variable;
  labels = option_map-back label_of label_expr_of label_expr_of-label_of x.labels i;
  condition = option_map-back condition_of condition_from condition_from-condition_of x.condition i;
}

pub items_of_patterns-patterns_of : (xs : List Pattern) → items_of_patterns (patterns_of xs) ≡ xs
items_of_patterns-patterns_of [] = refl
items_of_patterns-patterns_of (x ∷ xs) = ap (λ ys. x ∷ ys) (items_of_patterns-patterns_of xs)

pub path_expr_of-pattern_of : (x : PathExpr) → path_expr_of (pattern_of x) ≡ x
path_expr_of-pattern_of (expr.Node f) = ap (λ z. expr.Node z) (filler_from-filler_of f)
path_expr_of-pattern_of (expr.Edge d f) = ap (λ z. expr.Edge d z) (filler_from-filler_of f)
path_expr_of-pattern_of (expr.Paren m x c) = ap (λ z. expr.Paren m x z) (option_map-back tree_of expr_of expr_of-tree_of c)
path_expr_of-pattern_of (expr.Repeat x q) = refl
path_expr_of-pattern_of (expr.Optional x) = refl
path_expr_of-pattern_of (expr.Concat x xs) = ap (λ z. expr.Concat x z) (items_of_patterns-patterns_of xs)
path_expr_of-pattern_of (expr.Union x xs) = ap (λ z. expr.Union x z) (items_of_patterns-patterns_of xs)
path_expr_of-pattern_of (expr.MultisetUnion x xs) = ap (λ z. expr.MultisetUnion x z) (items_of_patterns-patterns_of xs)

pub pattern_of-injective : (x y : PathExpr) → pattern_of x ≡ pattern_of y → x ≡ y
pattern_of-injective x y same = sym (path_expr_of-pattern_of x) ∙ ap path_expr_of same ∙ path_expr_of-pattern_of y
