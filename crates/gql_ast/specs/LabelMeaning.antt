-- What a label expression means: its plain data.
use Rattle.gql_ast.specs.Label.{Label, labels_listed, items_of_labels, name, wildcard, paren, negation, conjunction, disjunction}
use Rattle.gql_ast.specs.declared.label.LabelExpr.{LabelExpr}
use Rattle.gql_ast.specs.declared.label.LabelExpr.TheVariants as label

-- the tree that a label expression means
abbrev pub label_of : LabelExpr → Label
label_of (label.Name n) = name n
label_of label.Wildcard = wildcard
label_of (label.Paren e) = paren e
label_of (label.Not e) = negation e
label_of (label.And e es) = conjunction e (labels_listed es)
label_of (label.Or e es) = disjunction e (labels_listed es)

-- the label expression that means a tree
abbrev pub label_expr_of : Label → LabelExpr
label_expr_of (name n) = label.Name n
label_expr_of wildcard = label.Wildcard
label_expr_of (paren e) = label.Paren e
label_expr_of (negation e) = label.Not e
label_expr_of (conjunction e es) = label.And e (items_of_labels es)
label_expr_of (disjunction e es) = label.Or e (items_of_labels es)
