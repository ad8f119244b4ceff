-- The sides of a label expression, from one on.
use Rattle.std.proofs.Common.{◌≡◌, ℕ, zero, suc, ◌+◌, ◌<◌, ◌≤◌, Bool, ◌&&◌, ◌||◌, List, [], ◌∷◌, length, map, drop, get_or, ap, arith}
use Rattle.std.proofs.lemmas.Grind.{common_steps}
use Rattle.gql_ast.specs.Label.{labels_listed}
use Rattle.gql_ast.specs.LabelMeaning.{label_of}
use Rattle.gql_ast.specs.Machinery.LabelHeight.{label_height_of, highest_label}
use Rattle.gql_ast.specs.ElementTests.{has_labels, has_all_labels, has_some_labels}
use Rattle.gql_ast.specs.declared.label.LabelExpr.{LabelExpr}

-- whether the sides from i on are all fulfilled, or some of them
abbrev pub all_from : List (List ℕ) → List LabelExpr → ℕ → Bool
all_from ls parts i = has_all_labels ls (labels_listed (map label_of (drop i parts)))

abbrev pub some_from : List (List ℕ) → List LabelExpr → ℕ → Bool
some_from ls parts i = has_some_labels ls (labels_listed (map label_of (drop i parts)))

pub all_step : (ls : List (List ℕ)) (parts : List LabelExpr) (i : ℕ) (e : LabelExpr) → i < length parts → e ≡ get_or parts i e
    → all_from ls parts i ≡ (has_labels ls (label_of e) && all_from ls parts (i + 1))
all_step ls parts i e h p = grind (arith, common_steps)

pub some_step : (ls : List (List ℕ)) (parts : List LabelExpr) (i : ℕ) (e : LabelExpr) → i < length parts → e ≡ get_or parts i e
    → some_from ls parts i ≡ (has_labels ls (label_of e) || some_from ls parts (i + 1))
some_step ls parts i e h p = grind (arith, common_steps)

-- no side is higher than the highest
pub label_height_le-highest : (parts : List LabelExpr) (i : ℕ) (e : LabelExpr) → i < length parts → e ≡ get_or parts i e
    → label_height_of (label_of e) ≤ highest_label (map label_of parts)
label_height_le-highest [] i e h p = absurd (omega arith)
label_height_le-highest (x ∷ xs) zero e h p = omega (arith, ap (λ z. label_height_of (label_of z)) p)
label_height_le-highest (x ∷ xs) (suc i) e h p = omega (arith, label_height_le-highest xs i e (omega arith) p)
