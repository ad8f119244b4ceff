-- What a path pattern means, its plain data, and the path pattern that means a tree.
use Rattle.std.specs.Prelude.{ℕ, List, map, option_map}
use Rattle.gql_ast.specs.LabelMeaning.{label_of, label_expr_of}
use Rattle.gql_ast.specs.Meaning.{tree_of, expr_of}
use Rattle.gql_ast.specs.Tree.{Tree}
use Rattle.gql_ast.specs.Filler.{ConditionTree, FillerTree, properties, holds}
use Rattle.gql_ast.specs.Pattern.{Pattern, patterns_of, items_of_patterns, node, edge, paren, repeated, optional, sequence, alternation, multiset_alternation}
use Rattle.gql_ast.specs.declared.filler.MapItem.{MapItem}
use Rattle.gql_ast.specs.declared.filler.Condition.{Condition}
use Rattle.gql_ast.specs.declared.filler.Condition.TheVariants as condition
use Rattle.gql_ast.specs.declared.filler.Filler.{Filler}
use Rattle.gql_ast.specs.declared.pattern.PathExpr.{PathExpr}
use Rattle.gql_ast.specs.declared.pattern.PathExpr.TheVariants as path

-- a name, and what its value means
abbrev pub item_of : MapItem → List ℕ × Tree
item_of i = (i.name, tree_of i.value)

-- what the map or the WHERE of a node or an edge means
abbrev pub condition_of : Condition → ConditionTree
condition_of (condition.Map is) = properties (map item_of is)
condition_of (condition.Where e) = holds (tree_of e)

-- what stands between the brackets of a node or an edge means
abbrev pub filler_of : Filler → FillerTree
filler_of f = record {
  variable = f.variable;
  labels = option_map label_of f.labels;
  condition = option_map condition_of f.condition;
}

-- the tree that a path pattern means
abbrev pub pattern_of : PathExpr → Pattern
pattern_of (path.Node f) = node (filler_of f)
pattern_of (path.Edge d f) = edge d (filler_of f)
pattern_of (path.Paren m x c) = paren m x (option_map tree_of c)
pattern_of (path.Repeat x q) = repeated x q
pattern_of (path.Optional x) = optional x
pattern_of (path.Concat x xs) = sequence x (patterns_of xs)
pattern_of (path.Union x xs) = alternation x (patterns_of xs)
pattern_of (path.MultisetUnion x xs) = multiset_alternation x (patterns_of xs)

-- the entry of a map that means such a name and value
abbrev pub item_from : List ℕ × Tree → MapItem
item_from p = record { name = p.0; value = expr_of p.1 }

-- the map or the WHERE that means such a condition
abbrev pub condition_from : ConditionTree → Condition
condition_from (properties ps) = condition.Map (map item_from ps)
condition_from (holds e) = condition.Where (expr_of e)

-- what means such a filling of a node or an edge
abbrev pub filler_from : FillerTree → Filler
filler_from f = record {
  variable = f.variable;
  labels = option_map label_expr_of f.labels;
  condition = option_map condition_from f.condition;
}

-- the path pattern that means a tree
abbrev pub path_expr_of : Pattern → PathExpr
path_expr_of (node f) = path.Node (filler_from f)
path_expr_of (edge d f) = path.Edge d (filler_from f)
path_expr_of (paren m x c) = path.Paren m x (option_map expr_of c)
path_expr_of (repeated x q) = path.Repeat x q
path_expr_of (optional x) = path.Optional x
path_expr_of (sequence x xs) = path.Concat x (items_of_patterns xs)
path_expr_of (alternation x xs) = path.Union x (items_of_patterns xs)
path_expr_of (multiset_alternation x xs) = path.MultisetUnion x (items_of_patterns xs)
