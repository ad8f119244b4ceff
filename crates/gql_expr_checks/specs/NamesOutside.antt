-- The names of an expression outside its aggregates over rows: an item of RETURN that has such an aggregate may have none
-- (E16 COLUMN).
use Rattle.std.specs.Prelude.{ℕ, List, [], ◌∷◌, ◌++◌, if◌then◌else◌}
use Rattle.gql_ast.specs.Tree.{Tree, Trees, Links, constant, unknown, number, parameter, name, property, paren, listing, count_all, aggregate, call, modulo, coalesce, signed, product, sum, comparing, test, label_test, end_test, negation, conjunction, disjunction, link, no_trees, more_trees, no_links, more_links}
use Rattle.gql_ast.specs.Scope.{names_in}
use Rattle.gql_ast.specs.ClauseColumns.{ColumnList}
use Rattle.gql_ast.specs.RowAggregates.{is_over_group}

module _ (columns : ColumnList) where
  abbrev mutual
    -- the names of an expression outside its aggregates over rows
    pub names_outside : Tree → List (List ℕ)
    names_outside (constant d) = []
    names_outside unknown = []
    names_outside (number n) = []
    names_outside (parameter p) = []
    names_outside (name x) = x ∷ []
    names_outside (property x k) = x ∷ []
    names_outside (paren e) = names_outside e
    names_outside (listing es) = names_outside_each es
    names_outside count_all = []
    names_outside (aggregate a q e) = if is_over_group columns e then names_in e else []
    names_outside (call f e) = names_outside e
    names_outside (modulo a b) = names_outside a ++ names_outside b
    names_outside (coalesce e es) = names_outside e ++ names_outside_each es
    names_outside (signed s e) = names_outside e
    names_outside (product e ls) = names_outside e ++ names_outside_sides ls
    names_outside (sum e ls) = names_outside e ++ names_outside_sides ls
    names_outside (comparing op a b) = names_outside a ++ names_outside b
    names_outside (test e s q) = names_outside e
    names_outside (label_test e s l) = names_outside e
    names_outside (end_test e s which x) = names_outside e ++ x ∷ []
    names_outside (negation e) = names_outside e
    names_outside (conjunction e ls) = names_outside e ++ names_outside_sides ls
    names_outside (disjunction e ls) = names_outside e ++ names_outside_sides ls

    pub names_outside_each : Trees → List (List ℕ)
    names_outside_each no_trees = []
    names_outside_each (more_trees e es) = names_outside e ++ names_outside_each es

    pub names_outside_sides : Links → List (List ℕ)
    names_outside_sides no_links = []
    names_outside_sides (more_links (link op e) ls) = names_outside e ++ names_outside_sides ls
