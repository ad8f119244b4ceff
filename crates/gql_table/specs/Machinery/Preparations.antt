-- What is prepared of the expressions of a clause, once for all rows, and what it gives in a row.
use Rattle.std.specs.Prelude.{ℕ, Bool, true, false, List, [], ◌∷◌, ◌++◌, Result, Ok}
use Rattle.gql_values3.specs.Datum.{Datum}
use Rattle.gql_values3.specs.PropertyGraph.{PropertyGraph}
use Rattle.gql_values3.specs.declared.truth.Truth.{Truth}
use Rattle.gql_values3.specs.declared.truth.Truth.TheVariants as truth
use Rattle.gql_ast.specs.Meaning.{tree_of}
use Rattle.gql_ast.specs.Tree.{Tree}
use Rattle.gql_ast.specs.Scope.{row_scope}
use Rattle.gql_ast.specs.Faults.{◌>>=◌, each}
use Rattle.gql_ast.specs.Evaluation.{value_of}
use Rattle.gql_ast.specs.Outputs.{kind_of}
use Rattle.gql_ast.specs.ClauseColumns.{ColumnList}
use Rattle.gql_ast.specs.declared.clause.LetItem.{LetItem}
use Rattle.gql_ast.specs.declared.fault.DataFault.{DataFault}
use Rattle.gql_eval.specs.Preparation.{Preparation}
use Rattle.gql_table.specs.Paging.{Sortable}

-- an expression prepared under columns
abbrev pub prepared_under : ColumnList → List (List ℕ × Datum) → Tree → Preparation
prepared_under columns params e = record { columns = columns; names = []; params = params; tree = e }

-- the items of LET, each under the columns that it sees
abbrev pub prepared_lets : ColumnList → List (List ℕ × Datum) → List LetItem → List Preparation
prepared_lets columns params [] = []
prepared_lets columns params (i ∷ is) =
    prepared_under columns params (tree_of i.value) ∷ prepared_lets (columns ++ (i.name, kind_of columns (tree_of i.value)) ∷ []) params is

-- the truth that keeps a row
abbrev pub is_kept : Truth → Bool
is_kept truth.True = true
is_kept _ = false

module _ (g : PropertyGraph) where
  abbrev pub prepared_value : Preparation → List Datum → Result Datum DataFault
  prepared_value p row = value_of g p.params (row_scope p.columns row) p.tree

  -- the values in a row
  unfoldable pub values_of : List Preparation → List Datum → Result (List Datum) DataFault
  values_of ps row = each (λ (p : Preparation). prepared_value p row) ps

  -- a row with the values, each seen by the next
  abbrev pub row_with : List Preparation → List Datum → Result (List Datum) DataFault
  row_with [] row = Ok row
  row_with (p ∷ ps) row = prepared_value p row >>= λ d. row_with ps (row ++ d ∷ [])

  -- a row with its keys in front
  abbrev pub keyed_by : List Preparation → Sortable → Result (List Datum × List Datum) DataFault
  keyed_by ps r = each (λ (p : Preparation). prepared_value p r.1) ps >>= λ keys. Ok (keys, r.0)
