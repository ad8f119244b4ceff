-- E23 PARAM of one expression: a parameter isn't set. Here stand the names at fault in the order of the text.
use Rattle.std.specs.Prelude.{ℕ, Bool, not, List, [], ◌∷◌, ◌++◌, filter}
use Rattle.std.specs.List.{list_any}
use Rattle.gql_values3.specs.Datum.{Datum}
use Rattle.gql_values3.specs.Texts.{same_text}
use Rattle.gql_ast.specs.Tree.{Tree, Trees, Links, constant, unknown, number, parameter, name, property, paren, listing, count_all, aggregate, call, modulo, coalesce, signed, product, sum, comparing, test, label_test, end_test, negation, conjunction, disjunction, link, no_trees, more_trees, no_links, more_links}
use Rattle.gql_ast.specs.Meaning.{tree_of}
use Rattle.gql_ast.specs.declared.expr.Expr.{Expr}

-- the parameters of an expression, in the order of the text
abbrev mutual
  pub parameters_in : Tree → List (List ℕ)
  parameters_in (constant d) = []
  parameters_in unknown = []
  parameters_in (number n) = []
  parameters_in (parameter p) = p ∷ []
  parameters_in (name x) = []
  parameters_in (property x k) = []
  parameters_in (paren e) = parameters_in e
  parameters_in (listing es) = parameters_in_each es
  parameters_in count_all = []
  parameters_in (aggregate a q e) = parameters_in e
  parameters_in (call f e) = parameters_in e
  parameters_in (modulo a b) = parameters_in a ++ parameters_in b
  parameters_in (coalesce e es) = parameters_in e ++ parameters_in_each es
  parameters_in (signed s e) = parameters_in e
  parameters_in (product e ls) = parameters_in e ++ parameters_in_sides ls
  parameters_in (sum e ls) = parameters_in e ++ parameters_in_sides ls
  parameters_in (comparing op a b) = parameters_in a ++ parameters_in b
  parameters_in (test e s q) = parameters_in e
  parameters_in (label_test e s l) = parameters_in e
  parameters_in (end_test e s which x) = parameters_in e
  parameters_in (negation e) = parameters_in e
  parameters_in (conjunction e ls) = parameters_in e ++ parameters_in_sides ls
  parameters_in (disjunction e ls) = parameters_in e ++ parameters_in_sides ls

  pub parameters_in_each : Trees → List (List ℕ)
  parameters_in_each no_trees = []
  parameters_in_each (more_trees e es) = parameters_in e ++ parameters_in_each es

  pub parameters_in_sides : Links → List (List ℕ)
  parameters_in_sides no_links = []
  parameters_in_sides (more_links (link op e) ls) = parameters_in e ++ parameters_in_sides ls

-- the same of an expression as the code keeps it
abbrev pub parameters_of : Expr → List (List ℕ)
parameters_of e = parameters_in (tree_of e)

-- the parameter has a value
abbrev pub is_set : List (List ℕ × Datum) → List ℕ → Bool
is_set params p = list_any (λ (q : List ℕ × Datum). same_text p q.0) params

-- those that aren't set
abbrev pub unset : List (List ℕ × Datum) → List (List ℕ) → List (List ℕ)
unset params ps = filter (λ p. not (is_set params p)) ps
