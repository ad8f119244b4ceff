-- Path patterns as plain data.
use Rattle.std.specs.Prelude.{List, [], ◌∷◌, Option}
use Rattle.gql_ast.specs.Tree.{Tree}
use Rattle.gql_ast.specs.Filler.{FillerTree}
use Rattle.gql_ast.specs.declared.pattern.Direction.{Direction}
use Rattle.gql_ast.specs.declared.pattern.Quantifier.{Quantifier}
use Rattle.gql_ast.specs.declared.mode.Mode.{Mode}

-- a path pattern without its name and prefix, and a list of such patterns
mutual
  pub data Pattern : Type 0 where
    -- one element
    node : FillerTree → Pattern
    edge : Direction → FillerTree → Pattern
    -- a part in parentheses, with its mode and its condition
    paren : Option Mode → Pattern → Option Tree → Pattern
    -- a part that may stand several times, or not at all
    repeated : Pattern → Quantifier → Pattern
    optional : Pattern → Pattern
    -- two or more parts in a row, or beside each other with `|` or `|+|`: the first, and the others
    sequence : Pattern → Patterns → Pattern
    alternation : Pattern → Patterns → Pattern
    multiset_alternation : Pattern → Patterns → Pattern

  pub data Patterns : Type 0 where
    no_patterns : Patterns
    more_patterns : Pattern → Patterns → Patterns

-- a list as Patterns
abbrev pub patterns_of : List Pattern → Patterns
patterns_of [] = no_patterns
patterns_of (x ∷ xs) = more_patterns x (patterns_of xs)

-- the items of Patterns
abbrev pub items_of_patterns : Patterns → List Pattern
items_of_patterns no_patterns = []
items_of_patterns (more_patterns x xs) = x ∷ items_of_patterns xs
