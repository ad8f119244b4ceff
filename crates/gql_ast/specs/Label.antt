-- Label expressions as plain data.
use Rattle.std.specs.Prelude.{ℕ, List, [], ◌∷◌}

-- a label expression, and a list of label expressions
mutual
  pub data Label : Type 0 where
    -- a label, and `%`, which is any label
    name : List ℕ → Label
    wildcard : Label
    -- brackets, and what binds less and less: `!`, `&` and `|`; a chain has its first side, and the others
    paren : Label → Label
    negation : Label → Label
    conjunction : Label → Labels → Label
    disjunction : Label → Labels → Label

  pub data Labels : Type 0 where
    no_labels : Labels
    more_labels : Label → Labels → Labels

-- a list as Labels
abbrev pub labels_listed : List Label → Labels
labels_listed [] = no_labels
labels_listed (x ∷ xs) = more_labels x (labels_listed xs)

-- the items of Labels
abbrev pub items_of_labels : Labels → List Label
items_of_labels no_labels = []
items_of_labels (more_labels x xs) = x ∷ items_of_labels xs
