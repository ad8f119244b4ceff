-- What an expression is prepared with, once for many rows.
use Rattle.std.specs.Prelude.{ℕ, List}
use Rattle.gql_values3.specs.Datum.{Datum}
use Rattle.gql_ast.specs.ClauseColumns.{ColumnList}
use Rattle.gql_ast.specs.Tree.{Tree}

-- the columns of the rows, the names of a match that stand behind them, the parameters, and the expression
pub record Preparation : Type 0 where
  pub columns : ColumnList
  pub names : List (List ℕ)
  pub params : List (List ℕ × Datum)
  pub tree : Tree
