-- LET: names for values. A later item of one LET sees an earlier one.
use Rattle.std.specs.Prelude.{ℕ, List, [], ◌∷◌, ◌++◌, Result, Ok}
use Rattle.gql_values3.specs.Datum.{Datum}
use Rattle.gql_values3.specs.PropertyGraph.{PropertyGraph}
use Rattle.gql_ast.specs.Meaning.{tree_of}
use Rattle.gql_ast.specs.Scope.{row_scope}
use Rattle.gql_ast.specs.Faults.{◌>>=◌, each}
use Rattle.gql_ast.specs.Evaluation.{value_of}
use Rattle.gql_ast.specs.Outputs.{kind_of}
use Rattle.gql_ast.specs.declared.clause.LetItem.{LetItem}
use Rattle.gql_ast.specs.declared.fault.DataFault.{DataFault}
use Rattle.gql_eval.specs.RowLists.{RowList}
use Rattle.gql_ast.specs.ClauseColumns.{ColumnList}

module _ (g : PropertyGraph) (params : List (List ℕ × Datum)) where
  -- a row with the values of the items, each seen by the next
  abbrev pub let_row : ColumnList → List LetItem → List Datum → Result (List Datum) DataFault
  let_row columns [] row = Ok row
  let_row columns (i ∷ is) row =
      value_of g params (row_scope columns row) (tree_of i.value) >>= λ d. let_row (columns ++ (i.name, kind_of columns (tree_of i.value)) ∷ []) is (row ++ d ∷ [])

  abbrev pub let_rows : ColumnList → List LetItem → RowList → Result RowList DataFault
  let_rows columns items rows = each (let_row columns items) rows
