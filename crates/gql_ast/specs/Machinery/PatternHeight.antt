-- How high a path pattern is: one more than its highest part. Expressions in it don't count.
use Rattle.std.specs.Prelude.{ℕ, ◌+◌, max, List}
use Rattle.gql_ast.specs.Pattern.{Pattern, Patterns, patterns_of, node, edge, paren, repeated, optional, sequence, alternation, multiset_alternation, no_patterns, more_patterns}

abbrev mutual
  pub pattern_height_of : Pattern → ℕ
  pattern_height_of (node f) = 1
  pattern_height_of (edge d f) = 1
  pattern_height_of (paren m x c) = pattern_height_of x + 1
  pattern_height_of (repeated x q) = pattern_height_of x + 1
  pattern_height_of (optional x) = pattern_height_of x + 1
  pattern_height_of (sequence x xs) = max (pattern_height_of x) (patterns_height_of xs) + 1
  pattern_height_of (alternation x xs) = max (pattern_height_of x) (patterns_height_of xs) + 1
  pattern_height_of (multiset_alternation x xs) = max (pattern_height_of x) (patterns_height_of xs) + 1

  -- the greatest height of the items of a list
  pub patterns_height_of : Patterns → ℕ
  patterns_height_of no_patterns = 0
  patterns_height_of (more_patterns x xs) = max (pattern_height_of x) (patterns_height_of xs)

-- the same of a list
abbrev pub highest_pattern : List Pattern → ℕ
highest_pattern xs = patterns_height_of (patterns_of xs)
