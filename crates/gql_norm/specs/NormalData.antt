-- The code's normal patterns, seen as plain data: what a variant with its boxes and lists means.
use Rattle.std.specs.Prelude.{map, option_map}
use Rattle.gql_ast.specs.LabelMeaning.{label_of}
use Rattle.gql_ast.specs.Meaning.{tree_of}
use Rattle.gql_norm.specs.NormalPattern.{Predicate, PropertyIs, Holds, ElementPattern, Part, Node, Edge, Concat, Union, Alt, Quant, Opt, ModeScope, in_a_row, side_by_side, sides_of, Selector, Any, Shortest, Groups, NormalPath, NormalPattern}
use Rattle.gql_norm.specs.declared.element.Predicate.{Predicate as CodePredicate}
use Rattle.gql_norm.specs.declared.element.Predicate.TheVariants as predicate
use Rattle.gql_norm.specs.declared.element.ElementPattern.{ElementPattern as CodeElement}
use Rattle.gql_norm.specs.declared.part.Part.{Part as CodePart}
use Rattle.gql_norm.specs.declared.part.Part.TheVariants as part
use Rattle.gql_norm.specs.declared.path.Selector.{Selector as CodeSelector}
use Rattle.gql_norm.specs.declared.path.Selector.TheVariants as selector
use Rattle.gql_norm.specs.declared.path.NormalPath.{NormalPath as CodePath}
use Rattle.gql_norm.specs.declared.path.NormalPattern.{NormalPattern as CodePattern}

-- a predicate, whose expression is seen as its tree
abbrev pub predicate_data : CodePredicate → Predicate
predicate_data (predicate.PropertyIs p e) = PropertyIs p (tree_of e)
predicate_data (predicate.Holds e) = Holds (tree_of e)

-- an element pattern with its labels and its predicates
abbrev pub element_data : CodeElement → ElementPattern
element_data w = record { variable = w.variable; labels = option_map label_of w.labels; predicates = map predicate_data w.predicates }

-- two or more parts in a row, or beside each other, are one variant of the code
abbrev pub part_data : CodePart → Part
part_data (part.Node w) = Node (element_data w)
part_data (part.Edge d w) = Edge d (element_data w)
part_data (part.Concat p r rs) = Concat p (in_a_row r rs)
part_data (part.Union p r rs) = Union p (side_by_side r rs)
part_data (part.Alt ps) = Alt (sides_of ps)
part_data (part.Quant b l n) = Quant b l n
part_data (part.Opt b) = Opt b
part_data (part.ModeScope m b c) = ModeScope m b (option_map tree_of c)

-- a selector with its number
abbrev pub selector_data : CodeSelector → Selector
selector_data (selector.Any k) = Any k
selector_data (selector.Shortest k) = Shortest k
selector_data (selector.Groups k) = Groups k

-- a path pattern with its name, its selector and its body
abbrev pub path_data : CodePath → NormalPath
path_data p = record { name = p.name; selector = option_map selector_data p.selector; body = part_data p.body }

-- the pattern of a MATCH: its path patterns and its final WHERE
abbrev pub pattern_data : CodePattern → NormalPattern
pattern_data p = record { paths = map path_data p.paths; condition = option_map tree_of p.condition }
