-- E08 VARIABLE of one expression: it names a variable that isn't in scope. Here stand the names at fault in the order of the text.
use Rattle.std.specs.Prelude.{ℕ, not, List, filter}
use Rattle.gql_ast.specs.Tree.{Tree}
use Rattle.gql_ast.specs.Meaning.{tree_of}
use Rattle.gql_ast.specs.Scope.{names_in}
use Rattle.gql_ast.specs.ClauseColumns.{ColumnList, is_column}
use Rattle.gql_ast.specs.declared.expr.Expr.{Expr}

-- the names of an expression that are no columns
abbrev pub unknown_in : ColumnList → Tree → List (List ℕ)
unknown_in columns e = filter (λ x. not (is_column columns x)) (names_in e)

-- the same of an expression as the code keeps it
abbrev pub unknown_in_expr : ColumnList → Expr → List (List ℕ)
unknown_in_expr columns e = unknown_in columns (tree_of e)
