use Rattle.std.proofs.Common.{◌≡◌, ◌+◌, ◌*◌, map}
use Rattle.gql_ast.specs.Machinery.PatternHeight.{pattern_height_of, highest_pattern}
use Rattle.gql_ast.specs.PatternMeaning.{pattern_of}
use Rattle.gql_degrees.proofs.BoundLemmas.{told_from}
use Rattle.gql_degrees.proofs.bounds.+bounds.Given as goal

abbrev pub decreases-in_pattern : goal.decreases-in_pattern
decreases-in_pattern l = 2 * pattern_height_of (pattern_of l.pattern.now)

abbrev pub decreases-in_patterns : goal.decreases-in_patterns
decreases-in_patterns l = 2 * highest_pattern (map pattern_of l.patterns.now) + 1

abbrev pub invariant-in_patterns-loop-i : goal.invariant-in_patterns-loop-i
invariant-in_patterns-loop-i l = told_from l.patterns l.i ≡ told_from l.patterns 0
