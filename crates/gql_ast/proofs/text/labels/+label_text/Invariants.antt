use Rattle.std.proofs.Common.{◌≡◌, ◌+◌, ◌*◌, ◌++◌, drop, map}
use Rattle.gql_ast.specs.Label.{labels_listed}
use Rattle.gql_ast.specs.LabelMeaning.{label_of}
use Rattle.gql_ast.specs.Machinery.LabelHeight.{label_height_of, highest_label}
use Rattle.gql_ast.specs.ExprText.{labels_text}
use Rattle.gql_ast.proofs.text.labels.+label_text.Given as goal

abbrev pub decreases-push_label : goal.decreases-push_label
decreases-push_label l = 2 * label_height_of (label_of l.label.now)

abbrev pub decreases-push_more_labels : goal.decreases-push_more_labels
decreases-push_more_labels l = 2 * highest_label (map label_of l.labels.now) + 1

abbrev pub invariant-push_more_labels-loop-i : goal.invariant-push_more_labels-loop-i
invariant-push_more_labels-loop-i l =
    l.text ++ labels_text l.sign (labels_listed (map label_of (drop l.i l.labels))) ≡ l.fn.text ++ labels_text l.sign (labels_listed (map label_of l.labels))
