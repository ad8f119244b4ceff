-- The normal form of a graph pattern as it was written (normalisation).
use Rattle.std.specs.Prelude.{ℕ, List, [], ◌∷◌, map, Option, Some, None, option_map, unwrap_or}
use Rattle.gql_values3.specs.Integers.{value_of_digits}
use Rattle.gql_ast.specs.Tree.{Tree}
use Rattle.gql_ast.specs.Meaning.{tree_of}
use Rattle.gql_ast.specs.Filler.{ConditionTree, FillerTree, properties, holds}
use Rattle.gql_ast.specs.Pattern.{Pattern, Patterns, node, edge, paren, repeated, optional, sequence, alternation, multiset_alternation, no_patterns, more_patterns}
use Rattle.gql_ast.specs.PatternMeaning.{pattern_of}
use Rattle.gql_ast.specs.declared.mode.Mode.{Mode}
use Rattle.gql_ast.specs.declared.mode.Mode.TheVariants as mode
use Rattle.gql_ast.specs.declared.path.GraphPattern.{GraphPattern}
use Rattle.gql_ast.specs.declared.path.PathPattern.{PathPattern}
use Rattle.gql_ast.specs.declared.path.Prefix.{Prefix}
use Rattle.gql_ast.specs.declared.path.Prefix.TheVariants as prefix
use Rattle.gql_ast.specs.declared.pattern.Quantifier.{Quantifier}
use Rattle.gql_ast.specs.declared.pattern.Quantifier.TheVariants as quantifier
use Rattle.gql_norm.specs.NormalPattern.{Predicate, PropertyIs, Holds, ElementPattern, anonymous, Part, Node, Edge, Concat, Alt, Quant, Opt, ModeScope, sides_of, in_a_row, side_by_side, Side, Selector, Any, Shortest, Groups, NormalPath, NormalPattern}

-- `{p: e}` asks that the element's p equals e
abbrev pub predicates_of : Option ConditionTree → List Predicate
predicates_of None = []
predicates_of (Some (properties ps)) = map (λ (p : List ℕ × Tree). PropertyIs p.0 p.1) ps
predicates_of (Some (holds e)) = Holds e ∷ []

-- what stands between the brackets of a node or an edge
abbrev pub element_pattern : FillerTree → ElementPattern
element_pattern f = record { variable = f.variable; labels = f.labels; predicates = predicates_of f.condition }

-- how often a quantified part stands at least: `*` any number of times, `+` once and more
abbrev pub fewest_copies : Quantifier → ℕ
fewest_copies quantifier.Star = 0
fewest_copies quantifier.Plus = 1
fewest_copies (quantifier.Exactly n) = value_of_digits n
fewest_copies (quantifier.Between None n) = 0
fewest_copies (quantifier.Between (Some m) n) = value_of_digits m

-- how often it stands at most; None where there is no upper bound
abbrev pub most_copies : Quantifier → Option ℕ
most_copies quantifier.Star = None
most_copies quantifier.Plus = None
most_copies (quantifier.Exactly n) = Some (value_of_digits n)
most_copies (quantifier.Between m n) = option_map value_of_digits n

-- a quantified edge stands between two nodes without a name
abbrev pub quantified : Pattern → Part → Part
quantified (edge d f) p = Concat (Node anonymous) (Concat p (Node anonymous))
quantified _ p = p

-- parentheses without a mode have WALK
abbrev mutual
  pub part_of : Pattern → Part
  part_of (node f) = Node (element_pattern f)
  part_of (edge d f) = Edge d (element_pattern f)
  part_of (paren m p c) = ModeScope (unwrap_or m mode.Walk) (part_of p) c
  part_of (repeated p q) = Quant (quantified p (part_of p)) (fewest_copies q) (most_copies q)
  part_of (optional p) = Opt (part_of p)
  part_of (sequence p ps) = in_a_row (part_of p) (parts_of ps)
  part_of (alternation p ps) = side_by_side (part_of p) (parts_of ps)
  part_of (multiset_alternation p ps) = Alt (Side (part_of p) (sides_of (parts_of ps)))

  pub parts_of : Patterns → List Part
  parts_of no_patterns = []
  parts_of (more_patterns p ps) = part_of p ∷ parts_of ps

-- the number of a selector, which is 1 where none is written
abbrev pub number_or_one : Option (List ℕ) → ℕ
number_or_one None = 1
number_or_one (Some n) = value_of_digits n

-- ANY is ANY 1, ANY SHORTEST is SHORTEST 1, ALL SHORTEST is SHORTEST 1 GROUP, and ALL alone is no selector
abbrev pub selector_of : Prefix → Option Selector
selector_of (prefix.Mode m) = None
selector_of (prefix.All m) = None
selector_of (prefix.Any n m) = Some (Any (number_or_one n))
selector_of (prefix.AllShortest m) = Some (Groups 1)
selector_of (prefix.AnyShortest m) = Some (Shortest 1)
selector_of (prefix.Shortest n m) = Some (Shortest (value_of_digits n))
selector_of (prefix.ShortestGroups n m) = Some (Groups (number_or_one n))

-- the mode that a prefix names, if it names one
abbrev pub mode_of : Prefix → Option Mode
mode_of (prefix.Mode m) = Some m
mode_of (prefix.All m) = m
mode_of (prefix.Any n m) = m
mode_of (prefix.AllShortest m) = m
mode_of (prefix.AnyShortest m) = m
mode_of (prefix.Shortest n m) = m
mode_of (prefix.ShortestGroups n m) = m

-- what an optional prefix gives
abbrev pub from_prefix : {A : Type 0} → (Prefix → Option A) → Option Prefix → Option A
from_prefix f None = None
from_prefix f (Some p) = f p

-- the mode of a prefix binds the whole path pattern
abbrev pub under_mode : Option Mode → Part → Part
under_mode None p = p
under_mode (Some m) p = ModeScope m p None

-- a path pattern, whose prefix becomes a selector and a scope
abbrev pub normal_path : PathPattern → NormalPath
normal_path p = record {
  name = p.name;
  selector = from_prefix selector_of p.prefix;
  body = under_mode (from_prefix mode_of p.prefix) (part_of (pattern_of p.expr));
}

-- the pattern of a MATCH: its path patterns, and its final WHERE
abbrev pub normal_form : GraphPattern → NormalPattern
normal_form g = record { paths = map normal_path g.paths; condition = option_map tree_of g.condition }
