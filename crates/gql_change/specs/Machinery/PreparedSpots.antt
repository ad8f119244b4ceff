-- What the code's prepared spots of INSERT give in a row: by places, and by what their expressions were prepared with.
use Rattle.std.specs.Prelude.{ℕ, nat_lt, List, [], length, Ok, if◌then◌else◌}
use Rattle.gql_values3.specs.Datum.{Datum}
use Rattle.gql_ast.specs.Faults.{◌>>=◌, each}
use Rattle.gql_ast.specs.ElementTests.{element_in}
use Rattle.gql_ast.specs.ClauseColumns.{ColumnList}
use Rattle.gql_change.specs.Insertion.{node_there}
use Rattle.gql_change.specs.Machinery.InRow.{InRow, property_in}
use Rattle.gql_change.specs.Machinery.Roles.{Question, datum_at, spot_of}
use Rattle.gql_change.specs.declared.prepared_spot.PreparedSpot.{PreparedSpot}
use Rattle.gql_change.specs.declared.prepared_spot.PreparedSpot.TheVariants as prepared
use Rattle.gql_change.specs.declared.row_spots.Line.{Line}
use Rattle.gql_change.specs.declared.row_spots.Spot.{Spot}
use Rattle.gql_change.specs.declared.row_spots.Spot.TheVariants as spot

-- what a row says of a spot; a node of an incoming column is looked at
abbrev pub spot_in : PreparedSpot → InRow Spot
spot_in (prepared.Incoming i) g row = element_in g (datum_at row i) >>= node_there g [] [] [] >>= λ _. Ok (spot.Refers i)
spot_in (prepared.Refers i) g row = Ok (spot.Refers i)
spot_in (prepared.New named ps) g row = each (λ p. property_in p g row) ps.items >>= λ values. Ok (spot.New named values)

-- a node of an incoming column, or one of the clause's own
abbrev pub reference : ColumnList → ℕ → PreparedSpot
reference incoming i = if nat_lt i (length incoming) then prepared.Incoming i else prepared.Refers i

-- the row, with what it says of each spot
abbrev pub line_in : List PreparedSpot → InRow Line
line_in ps g row = each (λ p. spot_in p g row) ps >>= λ spots. Ok (record { row = row; spots = spots })

-- what is asked by places and trees
abbrev pub asked_in : ColumnList → List (List ℕ × Datum) → Question → InRow Spot
asked_in columns params q g row = spot_of g params columns row q
