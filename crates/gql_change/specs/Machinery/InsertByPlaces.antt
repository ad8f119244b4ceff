-- INSERT by places: how the changes grow, spot by spot.
use Rattle.std.specs.Prelude.{ℕ, ◌+◌, Bool, true, false, List, [], ◌∷◌, ◌++◌, Ok, Err, if◌then◌else◌}
use Rattle.gql_values3.specs.Datum.{Datum, node, edge}
use Rattle.gql_values3.specs.PropertyGraph.{PropertyGraph}
use Rattle.gql_values3.specs.declared.element.Ends.{Ends}
use Rattle.gql_values3.specs.declared.records.NodeRecord.{NodeRecord}
use Rattle.gql_values3.specs.declared.records.EdgeRecord.{EdgeRecord}
use Rattle.gql_ast.specs.declared.change.Fill.{Fill}
use Rattle.gql_ast.specs.declared.change.InsertPath.{InsertPath}
use Rattle.gql_ast.specs.declared.change.InsertStep.{InsertStep}
use Rattle.gql_ast.specs.declared.refusal.ElemKind.TheVariants as sort
use Rattle.gql_graph.specs.declared.change.Change.{Change}
use Rattle.gql_graph.specs.declared.change.Change.TheVariants as change
use Rattle.gql_eval.specs.RowLists.{RowList}
use Rattle.gql_change.specs.Storing.{PropertyList, label_set, property_set}
use Rattle.gql_change.specs.Insertion.{OrFull, ◌>>>◌, is_used_up, labels_given, node_number, ends_between}
use Rattle.gql_change.specs.Machinery.Roles.{datum_at}
use Rattle.gql_change.specs.declared.row_spots.Line.{Line}
use Rattle.gql_change.specs.declared.row_spots.Spot.{Spot}
use Rattle.gql_change.specs.declared.row_spots.Spot.TheVariants as spot
use Rattle.gql_change.specs.declared.insert_state.InsertState.{InsertState}

-- the next spot; there is always one
abbrev pub first_spot : List Spot → Spot
first_spot [] = spot.Refers 0
first_spot (s ∷ ss) = s

abbrev pub later_spots : List Spot → List Spot
later_spots [] = []
later_spots (s ∷ ss) = ss

-- whether the spot gives a column, and the properties that it gives
abbrev pub gives_column : Spot → Bool
gives_column (spot.Refers i) = false
gives_column (spot.New named ps) = named

abbrev pub properties_given : Spot → PropertyList
properties_given (spot.Refers i) = []
properties_given (spot.New named ps) = ps

abbrev pub longer_row : Bool → List Datum → Datum → List Datum
longer_row true row d = row ++ d ∷ []
longer_row false row d = row

abbrev pub passed : InsertState → InsertState
passed w = record { changes = w.changes; next_node = w.next_node; next_edge = w.next_edge; row = w.row; spots = later_spots w.spots }

abbrev pub node_record : ℕ → Fill → PropertyList → NodeRecord
node_record n f ps = record { number = record { 0 = n }; labels = label_set (labels_given f.labels); properties = property_set ps }

abbrev pub edge_record : ℕ → Fill → Ends → PropertyList → EdgeRecord
edge_record n f ends ps = record { number = record { 0 = n }; ends = ends; labels = label_set (labels_given f.labels); properties = property_set ps }

abbrev pub with_node : Bool → Fill → PropertyList → InsertState → InsertState
with_node named f ps w = record {
  changes = w.changes ++ change.NewNode (node_record w.next_node f ps) ∷ [];
  next_node = w.next_node + 1;
  next_edge = w.next_edge;
  row = longer_row named w.row (node w.next_node);
  spots = w.spots;
}

-- a node that is new
abbrev pub node_made : Bool → Fill → PropertyList → InsertState → OrFull (InsertState × ℕ)
node_made named f ps w = if is_used_up w.next_node then Err sort.Node else Ok (with_node named f ps w, w.next_node)

abbrev pub node_of_spot : Spot → Fill → InsertState → OrFull (InsertState × ℕ)
node_of_spot (spot.Refers i) f w = Ok (w, node_number (datum_at w.row i))
node_of_spot (spot.New named ps) f w = node_made named f ps w

abbrev pub insert_node : Fill → InsertState → OrFull (InsertState × ℕ)
insert_node f w = node_of_spot (first_spot w.spots) f (passed w)

-- an edge's number goes into the row before the node behind it is made
abbrev pub edge_begun : InsertState → InsertState
edge_begun w = record {
  changes = w.changes;
  next_node = w.next_node;
  next_edge = w.next_edge;
  row = longer_row (gives_column (first_spot w.spots)) w.row (edge w.next_edge);
  spots = later_spots w.spots;
}

abbrev pub edge_added : EdgeRecord → ℕ → InsertState → InsertState
edge_added r next w = record {
  changes = w.changes ++ change.NewEdge r ∷ [];
  next_node = w.next_node;
  next_edge = next;
  row = w.row;
  spots = w.spots;
}

abbrev pub insert_step : InsertStep → InsertState × ℕ → OrFull (InsertState × ℕ)
insert_step s at =
    if is_used_up at.0.next_edge then Err sort.Edge
    else (insert_node s.node (edge_begun at.0)
    >>> λ made. Ok (edge_added (edge_record at.0.next_edge s.edge (ends_between s.arrow at.1 made.1) (properties_given (first_spot at.0.spots))) (at.0.next_edge + 1) made.0, made.1))

abbrev pub insert_steps : List InsertStep → InsertState × ℕ → OrFull (InsertState × ℕ)
insert_steps [] at = Ok at
insert_steps (s ∷ ss) at = insert_step s at >>> insert_steps ss

abbrev pub insert_path : InsertPath → InsertState → OrFull InsertState
insert_path p w = insert_node p.start w >>> insert_steps p.steps >>> λ at. Ok at.0

abbrev pub insert_paths : List InsertPath → InsertState → OrFull InsertState
insert_paths [] w = Ok w
insert_paths (p ∷ ps) w = insert_path p w >>> insert_paths ps

abbrev pub at_line : Line → InsertState → InsertState
at_line l w = record { changes = w.changes; next_node = w.next_node; next_edge = w.next_edge; row = l.row; spots = l.spots }

-- the row goes to the rows that are done
abbrev pub without_row : InsertState → InsertState
without_row w = record { changes = w.changes; next_node = w.next_node; next_edge = w.next_edge; row = []; spots = w.spots }

abbrev pub insert_line : List InsertPath → Line → InsertState → OrFull (InsertState × List Datum)
insert_line ps l w = insert_paths ps (at_line l w) >>> λ v. Ok (without_row v, v.row)

abbrev pub insert_lines : List InsertPath → List Line → InsertState → OrFull (InsertState × RowList)
insert_lines ps [] w = Ok (w, [])
insert_lines ps (l ∷ ls) w = insert_line ps l w >>> λ at. insert_lines ps ls at.0 >>> λ rest. Ok (rest.0, at.1 ∷ rest.1)

-- nothing made yet
abbrev pub first_state : PropertyGraph → InsertState
first_state g = record { changes = []; next_node = g.next_node; next_edge = g.next_edge; row = []; spots = [] }

-- the changes, and the rows with what was made for them
abbrev pub made_of : List InsertPath → List Line → PropertyGraph → OrFull (List Change × RowList)
made_of ps ls g = insert_lines ps ls (first_state g) >>> λ rest. Ok (rest.0.changes, rest.1)
