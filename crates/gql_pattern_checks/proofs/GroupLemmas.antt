-- What is misused in an expression hangs on which of its names are groups, and on nothing else of the columns.
use Rattle.std.proofs.Common.{◌≡◌, ℕ, Bool, true, false, cond, ◌||◌, ◌&&◌, List, [], ◌∷◌, ◌++◌, Some, refl, sym, ap, ◌∙◌}
use Rattle.std.specs.Prelude.{find, option_map, unwrap_or}
use Rattle.gql_values3.specs.Texts.{same_text}
use Rattle.gql_values3.specs.declared.table.ColumnKind.{ColumnKind}
use Rattle.gql_values3.specs.declared.table.ColumnKind.TheVariants as kind
use Rattle.gql_ast.specs.ClauseColumns.{ColumnList}
use Rattle.gql_ast.specs.Outputs.{kind_of_name, element_kind}
use Rattle.gql_ast.specs.Scope.{holds_group, names_in, names_in_trees, names_in_links}
use Rattle.gql_ast.specs.Tree.{Tree, Trees, Links, constant, unknown, number, parameter, name, property, paren, listing, count_all, aggregate, call, modulo, coalesce, signed, product, sum, comparing, test, label_test, end_test, negation, conjunction, disjunction, link, no_trees, more_trees, no_links, more_links}
use Rattle.gql_expr_checks.specs.ExprMisuses.{Place, within, misused, misused_any, misused_side, is_group_column, is_bare_group, groups_in, are_two, is_over_rows, item_columns, bars_rows, bars_aggregates}
use Rattle.gql_expr_checks.specs.Repeated.{is_among}
use Rattle.gql_pattern_checks.proofs.AmongLemmas.{here, in_left, in_right, filter_alike}

-- the same of these names are groups
abbrev pub SameGroups : List (List ℕ) → ColumnList → ColumnList → Type 0
SameGroups names a b = (x : List ℕ) → is_among names x ≡ true → is_group_column a x ≡ is_group_column b x

item_is_no_group : (k : ColumnKind) → holds_group (element_kind k) ≡ false
item_is_no_group kind.Plain = refl
item_is_no_group kind.Node = refl
item_is_no_group kind.Edge = refl
item_is_no_group kind.Nodes = refl
item_is_no_group kind.Edges = refl
item_is_no_group kind.Path = refl

one_item : (a b : ColumnList) (x y : List ℕ) (c : Bool) → is_group_column a y ≡ is_group_column b y
    → holds_group (unwrap_or (option_map (λ (d : List ℕ × ColumnKind). d.1) (cond c (Some (x, element_kind (kind_of_name a x))) (find (λ (d : List ℕ × ColumnKind). same_text y d.0) a))) kind.Plain)
    ≡ holds_group (unwrap_or (option_map (λ (d : List ℕ × ColumnKind). d.1) (cond c (Some (x, element_kind (kind_of_name b x))) (find (λ (d : List ℕ × ColumnKind). same_text y d.0) b))) kind.Plain)
one_item a b x y true h = item_is_no_group (kind_of_name a x) ∙ sym (item_is_no_group (kind_of_name b x))
one_item a b x y false h = h

items_alike : (a b : ColumnList) (gs names : List (List ℕ)) → SameGroups names a b → SameGroups names (item_columns a gs) (item_columns b gs)
items_alike a b [] names h = h
items_alike a b (x ∷ gs) names h = λ y m. one_item a b x y (same_text y x) (h y m)

bare_alike : (a b : ColumnList) (e : Tree) → SameGroups (names_in e) a b → is_bare_group a e ≡ is_bare_group b e
bare_alike a b (name x) h = h x (here x [])
bare_alike a b (paren e) h = bare_alike a b e h
bare_alike a b (constant d) h = refl
bare_alike a b unknown h = refl
bare_alike a b (number n) h = refl
bare_alike a b (parameter x) h = refl
bare_alike a b (property x k) h = refl
bare_alike a b (listing es) h = refl
bare_alike a b count_all h = refl
bare_alike a b (aggregate g q e) h = refl
bare_alike a b (call f e) h = refl
bare_alike a b (modulo d e) h = refl
bare_alike a b (coalesce e es) h = refl
bare_alike a b (signed s e) h = refl
bare_alike a b (product e ls) h = refl
bare_alike a b (sum e ls) h = refl
bare_alike a b (comparing op d e) h = refl
bare_alike a b (test e s q) h = refl
bare_alike a b (label_test e s l) h = refl
bare_alike a b (end_test e s which x) h = refl
bare_alike a b (negation e) h = refl
bare_alike a b (conjunction e ls) h = refl
bare_alike a b (disjunction e ls) h = refl

first_of : (a b : ColumnList) (xs ys : List (List ℕ)) → SameGroups (xs ++ ys) a b → SameGroups xs a b
first_of a b xs ys h = λ x m. h x (in_left xs ys x m)

second_of : (a b : ColumnList) (xs ys : List (List ℕ)) → SameGroups (xs ++ ys) a b → SameGroups ys a b
second_of a b xs ys h = λ x m. h x (in_right xs ys x m)

groups_alike : (a b : ColumnList) (e : Tree) → SameGroups (names_in e) a b → groups_in a e ≡ groups_in b e
groups_alike a b e h = filter_alike (is_group_column a) (is_group_column b) (names_in e) h

-- an aggregate, by the groups that its argument names
abbrev aggregate_by : ColumnList → Place → Tree → List (List ℕ) → Bool
aggregate_by a p e gs = bars_aggregates p || are_two gs || (is_over_rows gs && bars_rows p) || misused (item_columns a gs) within e

mutual
  unfolding misused

  pub misused_alike : (a b : ColumnList) (p : Place) (e : Tree) → SameGroups (names_in e) a b → misused a p e ≡ misused b p e
  misused_alike a b p (constant d) h = refl
  misused_alike a b p unknown h = refl
  misused_alike a b p (number n) h = refl
  misused_alike a b p (parameter x) h = refl
  misused_alike a b p (name x) h = refl
  misused_alike a b p (property x k) h = h x (here x [])
  misused_alike a b p (paren e) h = misused_alike a b p e h
  misused_alike a b p (listing es) h = any_alike a b p es h
  misused_alike a b p count_all h = refl
  misused_alike a b p (aggregate g q e) h =
      ap (aggregate_by a p e) (groups_alike a b e h)
      ∙ ap (λ z. bars_aggregates p || are_two (groups_in b e) || (is_over_rows (groups_in b e) && bars_rows p) || z)
      (misused_alike (item_columns a (groups_in b e)) (item_columns b (groups_in b e)) within e (items_alike a b (groups_in b e) (names_in e) h))
  misused_alike a b p (call f e) h = misused_alike a b p e h
  misused_alike a b p (modulo d e) h =
      (λ i. misused_alike a b p d (first_of a b (names_in d) (names_in e) h) i || misused_alike a b p e (second_of a b (names_in d) (names_in e) h) i)
  misused_alike a b p (coalesce e es) h =
      (λ i. misused_alike a b p e (first_of a b (names_in e) (names_in_trees es) h) i || any_alike a b p es (second_of a b (names_in e) (names_in_trees es) h) i)
  misused_alike a b p (signed s e) h = misused_alike a b p e h
  misused_alike a b p (product e ls) h =
      (λ i. misused_alike a b p e (first_of a b (names_in e) (names_in_links ls) h) i || side_alike a b p ls (second_of a b (names_in e) (names_in_links ls) h) i)
  misused_alike a b p (sum e ls) h =
      (λ i. misused_alike a b p e (first_of a b (names_in e) (names_in_links ls) h) i || side_alike a b p ls (second_of a b (names_in e) (names_in_links ls) h) i)
  misused_alike a b p (comparing op d e) h =
      (λ i. misused_alike a b p d (first_of a b (names_in d) (names_in e) h) i || misused_alike a b p e (second_of a b (names_in d) (names_in e) h) i)
  misused_alike a b p (test e s q) h = (λ i. bare_alike a b e h i || misused_alike a b p e h i)
  misused_alike a b p (label_test e s l) h = (λ i. bare_alike a b e h i || misused_alike a b p e h i)
  misused_alike a b p (end_test e s which x) h =
      (λ i. bare_alike a b e (first_of a b (names_in e) (x ∷ []) h) i || second_of a b (names_in e) (x ∷ []) h x (here x []) i || misused_alike a b p e (first_of a b (names_in e) (x ∷ []) h) i)
  misused_alike a b p (negation e) h = misused_alike a b p e h
  misused_alike a b p (conjunction e ls) h =
      (λ i. misused_alike a b p e (first_of a b (names_in e) (names_in_links ls) h) i || side_alike a b p ls (second_of a b (names_in e) (names_in_links ls) h) i)
  misused_alike a b p (disjunction e ls) h =
      (λ i. misused_alike a b p e (first_of a b (names_in e) (names_in_links ls) h) i || side_alike a b p ls (second_of a b (names_in e) (names_in_links ls) h) i)

  any_alike : (a b : ColumnList) (p : Place) (es : Trees) → SameGroups (names_in_trees es) a b → misused_any a p es ≡ misused_any b p es
  any_alike a b p no_trees h = refl
  any_alike a b p (more_trees e es) h =
      (λ i. misused_alike a b p e (first_of a b (names_in e) (names_in_trees es) h) i || any_alike a b p es (second_of a b (names_in e) (names_in_trees es) h) i)

  side_alike : (a b : ColumnList) (p : Place) (ls : Links) → SameGroups (names_in_links ls) a b → misused_side a p ls ≡ misused_side b p ls
  side_alike a b p no_links h = refl
  side_alike a b p (more_links (link op e) ls) h =
      (λ i. misused_alike a b p e (first_of a b (names_in e) (names_in_links ls) h) i || side_alike a b p ls (second_of a b (names_in e) (names_in_links ls) h) i)
