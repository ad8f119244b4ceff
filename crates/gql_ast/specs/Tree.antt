-- Expressions as plain data.
use Rattle.std.specs.Prelude.{ℕ, List, [], ◌∷◌}
use Rattle.gql_values3.specs.Datum.{Datum}
use Rattle.gql_values3.specs.declared.comparison.Comparison.{Comparison}
use Rattle.gql_ast.specs.Label.{Label}
use Rattle.gql_ast.specs.declared.words.Aggregate.{Aggregate}
use Rattle.gql_ast.specs.declared.words.EdgeEnd.{EdgeEnd}
use Rattle.gql_ast.specs.declared.words.Function.{Function}
use Rattle.gql_ast.specs.declared.words.Operator.{Operator}
use Rattle.gql_ast.specs.declared.words.Quality.{Quality}
use Rattle.gql_ast.specs.declared.words.Sense.{Sense}
use Rattle.gql_ast.specs.declared.words.SetQuantifier.{SetQuantifier}
use Rattle.gql_ast.specs.declared.words.Sign.{Sign}

-- an expression, and its parts: lists of expressions, and operands that stand behind an operator
mutual
  pub data Tree : Type 0 where
    -- constants, parameters, variables and their properties; a number keeps its digits
    constant : Datum → Tree
    unknown : Tree
    number : List ℕ → Tree
    parameter : List ℕ → Tree
    name : List ℕ → Tree
    property : List ℕ → List ℕ → Tree
    -- brackets and calls
    paren : Tree → Tree
    listing : Trees → Tree
    count_all : Tree
    aggregate : Aggregate → SetQuantifier → Tree → Tree
    call : Function → Tree → Tree
    modulo : Tree → Tree → Tree
    coalesce : Tree → Trees → Tree
    -- arithmetic; a chain has its first side, and the others each with the operator before it
    signed : Sign → Tree → Tree
    product : Tree → Links → Tree
    sum : Tree → Links → Tree
    -- comparisons and tests
    comparing : Comparison → Tree → Tree → Tree
    test : Tree → Sense → Quality → Tree
    label_test : Tree → Sense → Label → Tree
    end_test : Tree → Sense → EdgeEnd → List ℕ → Tree
    -- logic
    negation : Tree → Tree
    conjunction : Tree → Links → Tree
    disjunction : Tree → Links → Tree

  -- a side of a chain and the operator before it
  pub data Link : Type 0 where
    link : Operator → Tree → Link

  pub data Trees : Type 0 where
    no_trees : Trees
    more_trees : Tree → Trees → Trees

  pub data Links : Type 0 where
    no_links : Links
    more_links : Link → Links → Links

-- a list as Trees
abbrev pub trees_of : List Tree → Trees
trees_of [] = no_trees
trees_of (x ∷ xs) = more_trees x (trees_of xs)

-- the items of Trees
abbrev pub items_of_trees : Trees → List Tree
items_of_trees no_trees = []
items_of_trees (more_trees x xs) = x ∷ items_of_trees xs

-- a list as Links
abbrev pub links_of : List Link → Links
links_of [] = no_links
links_of (x ∷ xs) = more_links x (links_of xs)

-- the items of Links
abbrev pub items_of_links : Links → List Link
items_of_links no_links = []
items_of_links (more_links x xs) = x ∷ items_of_links xs
