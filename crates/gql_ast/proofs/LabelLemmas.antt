-- Two label expressions of one meaning are one: what means a tree can be read off from the tree.
use Rattle.std.proofs.Common.{◌≡◌, List, [], ◌∷◌, refl, ap, sym, ◌∙◌}
use Rattle.gql_ast.specs.Label.{Label, labels_listed, items_of_labels}
use Rattle.gql_ast.specs.LabelMeaning.{label_of, label_expr_of}
use Rattle.gql_ast.specs.declared.label.LabelExpr.{LabelExpr}
use Rattle.gql_ast.specs.declared.label.LabelExpr.TheVariants as label

pub items_of_labels-labels_listed : (es : List Label) → items_of_labels (labels_listed es) ≡ es
items_of_labels-labels_listed [] = refl
items_of_labels-labels_listed (e ∷ es) = ap (λ xs. e ∷ xs) (items_of_labels-labels_listed es)

pub label_expr_of-label_of : (x : LabelExpr) → label_expr_of (label_of x) ≡ x
label_expr_of-label_of (label.Name n) = refl
label_expr_of-label_of label.Wildcard = refl
label_expr_of-label_of (label.Paren e) = refl
label_expr_of-label_of (label.Not e) = refl
label_expr_of-label_of (label.And e es) = ap (λ z. label.And e z) (items_of_labels-labels_listed es)
label_expr_of-label_of (label.Or e es) = ap (λ z. label.Or e z) (items_of_labels-labels_listed es)

pub label_of-injective : (x y : LabelExpr) → label_of x ≡ label_of y → x ≡ y
label_of-injective x y same = sym (label_expr_of-label_of x) ∙ ap label_expr_of same ∙ label_expr_of-label_of y
