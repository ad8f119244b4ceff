-- How high a label expression is: one more than its highest part.
use Rattle.std.specs.Prelude.{ℕ, ◌+◌, max, List}
use Rattle.gql_ast.specs.Label.{Label, Labels, labels_listed, name, wildcard, paren, negation, conjunction, disjunction, no_labels, more_labels}

abbrev mutual
  pub label_height_of : Label → ℕ
  label_height_of (name n) = 1
  label_height_of wildcard = 1
  label_height_of (paren e) = label_height_of e + 1
  label_height_of (negation e) = label_height_of e + 1
  label_height_of (conjunction e es) = max (label_height_of e) (labels_height_of es) + 1
  label_height_of (disjunction e es) = max (label_height_of e) (labels_height_of es) + 1

  -- the greatest height of a list's items
  pub labels_height_of : Labels → ℕ
  labels_height_of no_labels = 0
  labels_height_of (more_labels e es) = max (label_height_of e) (labels_height_of es)

-- the same of a list
abbrev pub highest_label : List Label → ℕ
highest_label es = labels_height_of (labels_listed es)
