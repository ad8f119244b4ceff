-- Aggregates over rows: those whose argument names no group, and COUNT(*).
use Rattle.std.specs.Prelude.{ℕ, ◌+◌, Bool, true, List, [], ◌∷◌, ◌++◌, length, if◌then◌else◌}
use Rattle.std.specs.List.{list_any}
use Rattle.std.specs.Fmt.{decimal}
use Rattle.gql_values3.specs.Datum.{boolean}
use Rattle.gql_values3.specs.declared.table.ColumnKind.{ColumnKind}
use Rattle.gql_ast.specs.Outputs.{kind_of_name}
use Rattle.gql_ast.specs.Scope.{holds_group, names_in}
use Rattle.gql_ast.specs.Tree.{Tree, Trees, Links, constant, unknown, number, parameter, name, property, paren, listing, count_all, aggregate, call, modulo, coalesce, signed, product, sum, comparing, test, label_test, end_test, negation, conjunction, disjunction, link, no_trees, more_trees, no_links, more_links}
use Rattle.gql_ast.specs.declared.words.Aggregate.{Aggregate}
use Rattle.gql_ast.specs.declared.words.Aggregate.TheVariants as aggregates
use Rattle.gql_ast.specs.declared.words.SetQuantifier.{SetQuantifier}
use Rattle.gql_ast.specs.declared.words.SetQuantifier.TheVariants as quantifiers

-- an aggregate over rows: what it makes, of which of the values, and the argument that each row has
pub record RowAggregate : Type 0 where
  pub makes : Aggregate
  pub quantifier : SetQuantifier
  pub argument : Tree

-- COUNT(*) counts a value that each row has
abbrev pub count_rows : RowAggregate
count_rows = record { makes = aggregates.Count; quantifier = quantifiers.All; argument = constant (boolean true) }

-- the name under which the result of the aggregate of this place stands
abbrev pub result_name : ℕ → List ℕ
result_name n = decimal n

module _ (columns : List (List ℕ × ColumnKind)) where
  -- an argument that names a group
  abbrev pub is_over_group : Tree → Bool
  is_over_group e = list_any (λ x. holds_group (kind_of_name columns x)) (names_in e)

  unfoldable mutual
    -- the aggregates over rows of an expression, in the order of the text
    pub row_aggregates : Tree → List RowAggregate
    row_aggregates (constant d) = []
    row_aggregates unknown = []
    row_aggregates (number n) = []
    row_aggregates (parameter p) = []
    row_aggregates (name x) = []
    row_aggregates (property x p) = []
    row_aggregates (paren e) = row_aggregates e
    row_aggregates (listing es) = row_aggregates_of es
    row_aggregates count_all = count_rows ∷ []
    row_aggregates (aggregate a q e) = if is_over_group e then [] else record { makes = a; quantifier = q; argument = e } ∷ []
    row_aggregates (call f e) = row_aggregates e
    row_aggregates (modulo a b) = row_aggregates a ++ row_aggregates b
    row_aggregates (coalesce e es) = row_aggregates e ++ row_aggregates_of es
    row_aggregates (signed s e) = row_aggregates e
    row_aggregates (product e ls) = row_aggregates e ++ row_aggregates_in ls
    row_aggregates (sum e ls) = row_aggregates e ++ row_aggregates_in ls
    row_aggregates (comparing op a b) = row_aggregates a ++ row_aggregates b
    row_aggregates (test e s q) = row_aggregates e
    row_aggregates (label_test e s l) = row_aggregates e
    row_aggregates (end_test e s which x) = row_aggregates e
    row_aggregates (negation e) = row_aggregates e
    row_aggregates (conjunction e ls) = row_aggregates e ++ row_aggregates_in ls
    row_aggregates (disjunction e ls) = row_aggregates e ++ row_aggregates_in ls

    -- those of a list
    pub row_aggregates_of : Trees → List RowAggregate
    row_aggregates_of no_trees = []
    row_aggregates_of (more_trees e es) = row_aggregates e ++ row_aggregates_of es

    -- those of the later sides of a chain
    pub row_aggregates_in : Links → List RowAggregate
    row_aggregates_in no_links = []
    row_aggregates_in (more_links (link op e) ls) = row_aggregates e ++ row_aggregates_in ls

  unfoldable mutual
    -- the expression around its aggregates over rows: each is replaced by the name of its result, counted from n
    pub around : ℕ → Tree → Tree
    around n (constant d) = constant d
    around n unknown = unknown
    around n (number digits) = number digits
    around n (parameter p) = parameter p
    around n (name x) = name x
    around n (property x p) = property x p
    around n (paren e) = paren (around n e)
    around n (listing es) = listing (around_all n es)
    around n count_all = name (result_name n)
    around n (aggregate a q e) = if is_over_group e then aggregate a q e else name (result_name n)
    around n (call f e) = call f (around n e)
    around n (modulo a b) = modulo (around n a) (around (n + length (row_aggregates a)) b)
    around n (coalesce e es) = coalesce (around n e) (around_all (n + length (row_aggregates e)) es)
    around n (signed s e) = signed s (around n e)
    around n (product e ls) = product (around n e) (around_links (n + length (row_aggregates e)) ls)
    around n (sum e ls) = sum (around n e) (around_links (n + length (row_aggregates e)) ls)
    around n (comparing op a b) = comparing op (around n a) (around (n + length (row_aggregates a)) b)
    around n (test e s q) = test (around n e) s q
    around n (label_test e s l) = label_test (around n e) s l
    around n (end_test e s which x) = end_test (around n e) s which x
    around n (negation e) = negation (around n e)
    around n (conjunction e ls) = conjunction (around n e) (around_links (n + length (row_aggregates e)) ls)
    around n (disjunction e ls) = disjunction (around n e) (around_links (n + length (row_aggregates e)) ls)

    pub around_all : ℕ → Trees → Trees
    around_all n no_trees = no_trees
    around_all n (more_trees e es) = more_trees (around n e) (around_all (n + length (row_aggregates e)) es)

    pub around_links : ℕ → Links → Links
    around_links n no_links = no_links
    around_links n (more_links (link op e) ls) = more_links (link op (around n e)) (around_links (n + length (row_aggregates e)) ls)
