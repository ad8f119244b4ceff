-- E15 MISUSE of one expression: an aggregate inside an aggregate, an aggregate's argument that names two groups, an aggregate
-- over rows where none may stand, or a property or an IS test of a group outside an aggregate over it.
use Rattle.std.specs.Prelude.{ℕ, Bool, true, false, not, ◌||◌, ◌&&◌, List, [], ◌∷◌, filter}
use Rattle.std.specs.List.{list_any}
use Rattle.gql_values3.specs.Texts.{same_text}
use Rattle.gql_ast.specs.Tree.{Tree, Trees, Links, constant, unknown, number, parameter, name, property, paren, listing, count_all, aggregate, call, modulo, coalesce, signed, product, sum, comparing, test, label_test, end_test, negation, conjunction, disjunction, link, no_trees, more_trees, no_links, more_links}
use Rattle.gql_ast.specs.Meaning.{tree_of}
use Rattle.gql_ast.specs.Scope.{holds_group, names_in}
use Rattle.gql_ast.specs.Outputs.{kind_of_name, element_kind}
use Rattle.gql_ast.specs.ClauseColumns.{ColumnList}
use Rattle.gql_ast.specs.declared.expr.Expr.{Expr}

-- where an expression stands: among the items of RETURN, where aggregates over rows may be; elsewhere; in an aggregate
pub data Place : Type 0 where
  item : Place
  elsewhere : Place
  within : Place

-- an aggregate over rows may not stand there
abbrev pub bars_rows : Place → Bool
bars_rows item = false
bars_rows _ = true

-- no aggregate at all may stand there
abbrev pub bars_aggregates : Place → Bool
bars_aggregates within = true
bars_aggregates _ = false

-- the name is a column that holds a group
abbrev pub is_group_column : ColumnList → List ℕ → Bool
is_group_column columns x = holds_group (kind_of_name columns x)

-- a bare variable that is a group, also in parentheses
abbrev pub is_bare_group : ColumnList → Tree → Bool
is_bare_group columns (name x) = is_group_column columns x
is_bare_group columns (paren e) = is_bare_group columns e
is_bare_group columns _ = false

-- the groups that an argument names
abbrev pub groups_in : ColumnList → Tree → List (List ℕ)
groups_in columns e = filter (is_group_column columns) (names_in e)

-- two of them differ
abbrev pub are_two : List (List ℕ) → Bool
are_two [] = false
are_two (x ∷ xs) = list_any (λ y. not (same_text x y)) xs

-- without a group it is an aggregate over rows
abbrev pub is_over_rows : List (List ℕ) → Bool
is_over_rows [] = true
is_over_rows (x ∷ xs) = false

-- within an aggregate over a group its name is an item
abbrev pub item_columns : ColumnList → List (List ℕ) → ColumnList
item_columns columns [] = columns
item_columns columns (x ∷ xs) = (x, element_kind (kind_of_name columns x)) ∷ columns

unfoldable mutual
  -- something in the expression is misused
  pub misused : ColumnList → Place → Tree → Bool
  misused columns p (constant d) = false
  misused columns p unknown = false
  misused columns p (number n) = false
  misused columns p (parameter x) = false
  misused columns p (name x) = false
  misused columns p (property x k) = is_group_column columns x
  misused columns p (paren e) = misused columns p e
  misused columns p (listing es) = misused_any columns p es
  misused columns p count_all = bars_rows p
  misused columns p (aggregate a q e) =
      bars_aggregates p || are_two (groups_in columns e) || (is_over_rows (groups_in columns e) && bars_rows p) || misused (item_columns columns (groups_in columns e)) within e
  misused columns p (call f e) = misused columns p e
  misused columns p (modulo a b) = misused columns p a || misused columns p b
  misused columns p (coalesce e es) = misused columns p e || misused_any columns p es
  misused columns p (signed s e) = misused columns p e
  misused columns p (product e ls) = misused columns p e || misused_side columns p ls
  misused columns p (sum e ls) = misused columns p e || misused_side columns p ls
  misused columns p (comparing op a b) = misused columns p a || misused columns p b
  misused columns p (test e s q) = is_bare_group columns e || misused columns p e
  misused columns p (label_test e s l) = is_bare_group columns e || misused columns p e
  misused columns p (end_test e s which x) = is_bare_group columns e || is_group_column columns x || misused columns p e
  misused columns p (negation e) = misused columns p e
  misused columns p (conjunction e ls) = misused columns p e || misused_side columns p ls
  misused columns p (disjunction e ls) = misused columns p e || misused_side columns p ls

  -- the same in one of a list
  pub misused_any : ColumnList → Place → Trees → Bool
  misused_any columns p no_trees = false
  misused_any columns p (more_trees e es) = misused columns p e || misused_any columns p es

  -- the same in a later side of a chain
  pub misused_side : ColumnList → Place → Links → Bool
  misused_side columns p no_links = false
  misused_side columns p (more_links (link op e) ls) = misused columns p e || misused_side columns p ls

-- the same of an expression as the code keeps it
abbrev pub misused_expr : ColumnList → Place → Expr → Bool
misused_expr columns p e = misused columns p (tree_of e)
