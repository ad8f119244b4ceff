-- The columns that clauses give: what they are called and what they hold.
use Rattle.std.specs.Prelude.{ℕ, List, find, option_map, unwrap_or}
use Rattle.gql_values3.specs.Texts.{same_text}
use Rattle.gql_values3.specs.declared.table.ColumnKind.{ColumnKind}
use Rattle.gql_values3.specs.declared.table.ColumnKind.TheVariants as kind
use Rattle.gql_ast.specs.Tree.{Tree, name}
use Rattle.gql_ast.specs.Meaning.{tree_of}
use Rattle.gql_ast.specs.ExprText.{expr_text}
use Rattle.gql_ast.specs.declared.projection.ReturnItem.{ReturnItem}

-- what a column holds; a name that is no column holds a plain value
abbrev pub kind_of_name : List (List ℕ × ColumnKind) → List ℕ → ColumnKind
kind_of_name columns x = unwrap_or (option_map (λ (c : List ℕ × ColumnKind). c.1) (find (λ c. same_text x c.0) columns)) kind.Plain

-- a bare variable keeps what it holds; every other value is plain
abbrev pub kind_of : List (List ℕ × ColumnKind) → Tree → ColumnKind
kind_of columns (name x) = kind_of_name columns x
kind_of columns _ = kind.Plain

-- an item of a group is an element; an item of any other list is plain
abbrev pub element_kind : ColumnKind → ColumnKind
element_kind kind.Nodes = kind.Node
element_kind kind.Edges = kind.Edge
element_kind _ = kind.Plain

-- the name of a value that is given none: a bare variable has its own, every other value its canonical text
abbrev pub text_name : Tree → List ℕ
text_name (name x) = x
text_name e = expr_text e

-- the name of a column of RETURN
abbrev pub item_name : ReturnItem → List ℕ
item_name i = unwrap_or i.name (text_name (tree_of i.value))

-- a column of RETURN
abbrev pub item_column : List (List ℕ × ColumnKind) → ReturnItem → List ℕ × ColumnKind
item_column columns i = (item_name i, kind_of columns (tree_of i.value))
