-- FILTER: the rows whose condition is True.
use Rattle.std.specs.Prelude.{ℕ, List, [], ◌∷◌, Result, Ok}
use Rattle.gql_values3.specs.Datum.{Datum}
use Rattle.gql_values3.specs.PropertyGraph.{PropertyGraph}
use Rattle.gql_values3.specs.declared.truth.Truth.{Truth}
use Rattle.gql_values3.specs.declared.truth.Truth.TheVariants as truth
use Rattle.gql_ast.specs.Tree.{Tree}
use Rattle.gql_ast.specs.Scope.{row_scope}
use Rattle.gql_ast.specs.TruthValues.{truth_in}
use Rattle.gql_ast.specs.Faults.{◌>>=◌}
use Rattle.gql_ast.specs.Evaluation.{value_of}
use Rattle.gql_ast.specs.declared.fault.DataFault.{DataFault}
use Rattle.gql_eval.specs.RowLists.{RowList, each_some}
use Rattle.gql_ast.specs.ClauseColumns.{ColumnList}

-- a row is kept at True alone
abbrev pub kept_if : Truth → List Datum → RowList
kept_if truth.True row = row ∷ []
kept_if _ row = []

module _ (g : PropertyGraph) (params : List (List ℕ × Datum)) where
  abbrev pub filter_row : ColumnList → Tree → List Datum → Result RowList DataFault
  filter_row columns e row = value_of g params (row_scope columns row) e >>= truth_in >>= λ t. Ok (kept_if t row)

  abbrev pub filter_rows : ColumnList → Tree → RowList → Result RowList DataFault
  filter_rows columns e rows = each_some (filter_row columns e) rows
