-- The columns behind each clause of a query: their names and what they hold.
use Rattle.std.specs.Prelude.{ℕ, Bool, List, [], ◌∷◌, ◌++◌, Option, Some, None, if◌then◌else◌}
use Rattle.std.specs.List.{list_any}
use Rattle.gql_values3.specs.Texts.{same_text}
use Rattle.gql_values3.specs.declared.table.ColumnKind.{ColumnKind}
use Rattle.gql_values3.specs.declared.table.ColumnKind.TheVariants as kind
use Rattle.gql_ast.specs.Meaning.{tree_of}
use Rattle.gql_ast.specs.Outputs.{kind_of, element_kind}
use Rattle.gql_ast.specs.declared.clause.LetItem.{LetItem}
use Rattle.gql_ast.specs.declared.clause.For.{For}
use Rattle.gql_ast.specs.declared.clause.Counting.{Counting}
use Rattle.gql_ast.specs.declared.filler.Filler.{Filler}
use Rattle.gql_ast.specs.declared.path.GraphPattern.{GraphPattern}
use Rattle.gql_ast.specs.declared.path.PathPattern.{PathPattern}
use Rattle.gql_ast.specs.declared.path.Prefix.{Prefix}
use Rattle.gql_ast.specs.declared.pattern.PathExpr.{PathExpr}
use Rattle.gql_ast.specs.declared.pattern.PathExpr.TheVariants as path

-- names of columns with what they hold, in order
abbrev pub ColumnList : Type 0
ColumnList = List (List ℕ × ColumnKind)

-- a column has this name
abbrev pub is_column : ColumnList → List ℕ → Bool
is_column columns x = list_any (λ (c : List ℕ × ColumnKind). same_text x c.0) columns

-- LET gives a column for each item, behind those before
abbrev pub let_columns : ColumnList → List LetItem → ColumnList
let_columns columns [] = columns
let_columns columns (i ∷ is) = let_columns (columns ++ (i.name, kind_of columns (tree_of i.value)) ∷ []) is

-- the column of a FOR's counter, where there is one
abbrev pub counter_column : Option (Counting × List ℕ) → ColumnList
counter_column None = []
counter_column (Some c) = (c.1, kind.Plain) ∷ []

-- FOR gives the item's column, and then the counter's
abbrev pub for_columns : ColumnList → For → ColumnList
for_columns columns f = columns ++ (f.name, element_kind (kind_of columns (tree_of f.list))) ∷ counter_column f.counter

-- the node of a path pattern that is a node alone
abbrev pub node_alone : PathExpr → Option Filler
node_alone (path.Node f) = Some f
node_alone _ = None

-- the same, where the path pattern has neither a name nor a prefix
abbrev pub bare_path : Option (List ℕ) → Option Prefix → PathExpr → Option Filler
bare_path None None e = node_alone e
bare_path _ _ e = None

-- the node of a list of path patterns that is one such pattern
abbrev pub node_of_paths : List PathPattern → Option Filler
node_of_paths (p ∷ []) = bare_path p.name p.prefix p.expr
node_of_paths _ = None

-- the node of the pattern of a MATCH that is a node alone
abbrev pub node_of_pattern : GraphPattern → Option Filler
node_of_pattern g = node_of_paths g.paths

-- a node's variable that is no column yet becomes one
abbrev pub with_node : ColumnList → Option (List ℕ) → ColumnList
with_node columns None = columns
with_node columns (Some x) = if is_column columns x then columns else columns ++ (x, kind.Node) ∷ []

-- the columns with the variable of a node, where there is a node
abbrev pub with_filler : ColumnList → Option Filler → ColumnList
with_filler columns None = columns
with_filler columns (Some f) = with_node columns f.variable

-- a MATCH of a node alone gives the column of its variable; what all patterns give is `columns_after` of gql_norm
abbrev pub match_columns : ColumnList → GraphPattern → ColumnList
match_columns columns g = with_filler columns (node_of_pattern g)
