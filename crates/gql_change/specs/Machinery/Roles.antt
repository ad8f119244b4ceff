-- INSERT by places in place of names: what the columns alone say of each spot, and then what a row says of it.
use Rattle.std.specs.Prelude.{ℕ, true, false, nat_lt, List, [], ◌∷◌, length, Option, Some, None, slice_get, Result, Ok, if◌then◌else◌}
use Rattle.gql_values3.specs.Datum.{Datum}
use Rattle.gql_values3.specs.PropertyGraph.{PropertyGraph}
use Rattle.gql_values3.specs.declared.table.ColumnKind.{ColumnKind}
use Rattle.gql_values3.specs.declared.table.ColumnKind.TheVariants as kind
use Rattle.gql_values3.specs.Meaning.{datum_of}
use Rattle.gql_values3.specs.declared.value.Value.{Value}
use Rattle.gql_ast.specs.Meaning.{tree_of}
use Rattle.gql_ast.specs.Scope.{row_scope}
use Rattle.gql_ast.specs.Evaluation.{value_of}
use Rattle.gql_ast.specs.ElementTests.{element_in}
use Rattle.gql_values3.specs.Datum.{or_null}
use Rattle.gql_ast.specs.Faults.{◌>>=◌, each}
use Rattle.gql_ast.specs.ClauseColumns.{ColumnList}
use Rattle.gql_ast.specs.InsertColumns.{Spots, with_variable}
use Rattle.gql_ast.specs.declared.filler.MapItem.{MapItem}
use Rattle.gql_ast.specs.declared.fault.DataFault.{DataFault}
use Rattle.gql_eval.specs.Machinery.Places.{place_among}
use Rattle.gql_eval.specs.RowLists.{RowList}
use Rattle.gql_change.specs.Storing.{PropertyList, stored}
use Rattle.gql_change.specs.Insertion.{items_in, map_values, node_there}
use Rattle.gql_change.specs.declared.spot_question.SpotQuestion.{SpotQuestion}
use Rattle.gql_change.specs.declared.role.Role.{Role}
use Rattle.gql_change.specs.declared.role.Role.TheVariants as role
use Rattle.gql_change.specs.declared.row_spots.Line.{Line}
use Rattle.gql_change.specs.declared.row_spots.Spot.{Spot}
use Rattle.gql_change.specs.declared.row_spots.Spot.TheVariants as spot

-- a variable that is a column's: a node refers to it, and an edge is new all the same
abbrev pub role_there : ColumnKind → ℕ → Role
role_there kind.Node i = role.Refers i
role_there _ i = role.New false

-- a variable that is no column's gives one
abbrev pub role_at : ColumnKind → Option ℕ → Role
role_at k None = role.New true
role_at k (Some i) = role_there k i

abbrev pub role_of : ColumnList → ColumnKind → Option (List ℕ) → Role
role_of columns k None = role.New false
role_of columns k (Some x) = role_at k (place_among columns x)

-- what is asked of each spot, in the order of the text: its role, and the properties that it gives
abbrev pub Question : Type 0
Question = Role × List MapItem

abbrev pub questions : ColumnList → Spots → List Question
questions columns [] = []
questions columns (s ∷ ss) = (role_of columns s.0 s.1.variable, items_in s.1.map) ∷ questions (with_variable columns s.0 s.1.variable) ss

abbrev pub question_of : SpotQuestion → Question
question_of a = (a.role, a.items.now)

abbrev pub pair_of : List ℕ × Value → List ℕ × Datum
pair_of p = (p.0, datum_of p.1)

-- what stands at a place of a row; NULL behind its end
abbrev pub datum_at : List Datum → ℕ → Datum
datum_at row i = or_null (slice_get row i)

module _ (g : PropertyGraph) (params : List (List ℕ × Datum)) (incoming : ColumnList) (row : List Datum) where
  -- a node of an incoming column is looked at
  abbrev pub looked_at : ℕ → Result PropertyList DataFault
  looked_at i = if nat_lt i (length incoming) then element_in g (datum_at row i) >>= node_there g params incoming row else Ok []

  -- a property of a map
  abbrev pub item_value : MapItem → Result (List ℕ × Datum) DataFault
  item_value i = value_of g params (row_scope incoming row) (tree_of i.value) >>= λ d. stored d >>= λ kept. Ok (i.name, kept)

  abbrev pub spot_of : Question → Result Spot DataFault
  spot_of (role.Refers i, is) = looked_at i >>= λ _. Ok (spot.Refers i)
  spot_of (role.New named, is) = map_values g params incoming row is >>= λ ps. Ok (spot.New named ps)

  abbrev pub line_of : List Question → Result Line DataFault
  line_of qs = each spot_of qs >>= λ spots. Ok (record { row = row; spots = spots })

abbrev pub lines_of : PropertyGraph → List (List ℕ × Datum) → ColumnList → List Question → RowList → Result (List Line) DataFault
lines_of g params incoming qs rows = each (λ row. line_of g params incoming row qs) rows
