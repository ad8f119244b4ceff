-- An item of a list is no higher than the list.
use Rattle.std.proofs.Common.{◌≡◌, ℕ, zero, suc, ◌<◌, ◌≤◌, List, [], ◌∷◌, length, map, get_or, ap, arith}
use Rattle.gql_ast.specs.Label.{Label}
use Rattle.gql_ast.specs.Machinery.LabelHeight.{label_height_of, highest_label}
use Rattle.gql_ast.specs.Tree.{Tree, Link}
use Rattle.gql_ast.specs.Machinery.Height.{height_of, highest, link_height_of, highest_link}
use Rattle.gql_ast.specs.Pattern.{Pattern}
use Rattle.gql_ast.specs.Machinery.PatternHeight.{pattern_height_of, highest_pattern}

-- of label expressions
pub label_height_of_le-highest_label : {A : Type 0} (f : A → Label) (xs : List A) (i : ℕ) (x : A) → i < length xs → x ≡ get_or xs i x → label_height_of (f x) ≤ highest_label (map f xs)
label_height_of_le-highest_label f [] i x h p = absurd (omega arith)
label_height_of_le-highest_label f (y ∷ ys) zero x h p = omega (arith, ap (λ z. label_height_of (f z)) p)
label_height_of_le-highest_label f (y ∷ ys) (suc i) x h p = omega (arith, label_height_of_le-highest_label f ys i x (omega arith) p)

-- of expressions
pub height_of_le-highest : {A : Type 0} (f : A → Tree) (xs : List A) (i : ℕ) (x : A) → i < length xs → x ≡ get_or xs i x → height_of (f x) ≤ highest (map f xs)
height_of_le-highest f [] i x h p = absurd (omega arith)
height_of_le-highest f (y ∷ ys) zero x h p = omega (arith, ap (λ z. height_of (f z)) p)
height_of_le-highest f (y ∷ ys) (suc i) x h p = omega (arith, height_of_le-highest f ys i x (omega arith) p)

-- of the steps of a chain
pub link_height_of_le-highest_link : {A : Type 0} (f : A → Link) (xs : List A) (i : ℕ) (x : A) → i < length xs → x ≡ get_or xs i x → link_height_of (f x) ≤ highest_link (map f xs)
link_height_of_le-highest_link f [] i x h p = absurd (omega arith)
link_height_of_le-highest_link f (y ∷ ys) zero x h p = omega (arith, ap (λ z. link_height_of (f z)) p)
link_height_of_le-highest_link f (y ∷ ys) (suc i) x h p = omega (arith, link_height_of_le-highest_link f ys i x (omega arith) p)

-- of path patterns
pub pattern_height_of_le-highest_pattern : {A : Type 0} (f : A → Pattern) (xs : List A) (i : ℕ) (x : A) → i < length xs → x ≡ get_or xs i x → pattern_height_of (f x) ≤ highest_pattern (map f xs)
pattern_height_of_le-highest_pattern f [] i x h p = absurd (omega arith)
pattern_height_of_le-highest_pattern f (y ∷ ys) zero x h p = omega (arith, ap (λ z. pattern_height_of (f z)) p)
pattern_height_of_le-highest_pattern f (y ∷ ys) (suc i) x h p = omega (arith, pattern_height_of_le-highest_pattern f ys i x (omega arith) p)
