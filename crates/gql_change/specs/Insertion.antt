-- INSERT: for each row, in the order of the text, the nodes and edges of its paths. First all property values are
-- evaluated, and the nodes looked at that stand already, on the graph before the clause, rows in order; then the elements
-- are made, each taking the next number of its sort.
use Rattle.std.specs.Prelude.{ℕ, suc, ◌^◌, pred, Bool, false, nat_le, List, [], ◌∷◌, ◌++◌, Option, Some, None, Result, Ok, Err, if◌then◌else◌}
use Rattle.gql_values3.specs.Datum.{Datum, null, node, edge}
use Rattle.gql_values3.specs.PropertyGraph.{PropertyGraph}
use Rattle.gql_values3.specs.declared.element.Elem.{Elem}
use Rattle.gql_values3.specs.declared.element.Elem.TheVariants as elem
use Rattle.gql_values3.specs.declared.element.Ends.{Ends}
use Rattle.gql_values3.specs.declared.element.Ends.TheVariants.{Directed, Undirected}
use Rattle.gql_values3.specs.declared.records.NodeRecord.{NodeRecord}
use Rattle.gql_values3.specs.declared.records.EdgeRecord.{EdgeRecord}
use Rattle.gql_values3.specs.declared.table.ColumnKind.{ColumnKind}
use Rattle.gql_values3.specs.declared.table.ColumnKind.TheVariants as kind
use Rattle.gql_ast.specs.Meaning.{tree_of}
use Rattle.gql_ast.specs.Scope.{row_scope, datum_of_name}
use Rattle.gql_ast.specs.Faults.{◌>>=◌, each}
use Rattle.gql_ast.specs.ElementTests.{element_in}
use Rattle.gql_ast.specs.Evaluation.{value_of}
use Rattle.gql_ast.specs.ClauseColumns.{ColumnList, is_column}
use Rattle.gql_ast.specs.InsertColumns.{Spots, insert_spots, with_variable}
use Rattle.gql_ast.specs.declared.change.Arrow.{Arrow}
use Rattle.gql_ast.specs.declared.change.Arrow.TheVariants as arrow
use Rattle.gql_ast.specs.declared.change.Fill.{Fill}
use Rattle.gql_ast.specs.declared.change.InsertPath.{InsertPath}
use Rattle.gql_ast.specs.declared.change.InsertStep.{InsertStep}
use Rattle.gql_ast.specs.declared.filler.MapItem.{MapItem}
use Rattle.gql_ast.specs.declared.fault.DataFault.{DataFault}
use Rattle.gql_ast.specs.declared.fault.DataFault.TheVariants as fault
use Rattle.gql_ast.specs.declared.refusal.ElemKind.{ElemKind}
use Rattle.gql_ast.specs.declared.refusal.ElemKind.TheVariants as sort
use Rattle.gql_eval.specs.RowLists.{RowList}
use Rattle.gql_graph.specs.Edits.{with_nodes, with_edges}
use Rattle.gql_change.specs.Storing.{PropertyList, stored, label_set, property_set}

-- a variable that is a column names a node that stands already
abbrev pub refers : ColumnList → Option (List ℕ) → Bool
refers columns None = false
refers columns (Some x) = is_column columns x

-- the items of a property map; without a map there are none
abbrev pub items_in : Option (List MapItem) → List MapItem
items_in None = []
items_in (Some is) = is

-- the labels that a spot gives; where none stand, there are none
abbrev pub labels_given : Option (List (List ℕ)) → List (List ℕ)
labels_given None = []
labels_given (Some ls) = ls

-- What is evaluated.
module _ (g : PropertyGraph) (params : List (List ℕ × Datum)) (incoming : ColumnList) (row : List Datum) where
  -- the values of a map, over the incoming columns
  abbrev pub map_values : List MapItem → Result PropertyList DataFault
  map_values is = each (λ (i : MapItem). value_of g params (row_scope incoming row) (tree_of i.value) >>= λ d. stored d >>= λ kept. Ok (i.name, kept)) is

  -- an endpoint is a node that is there
  abbrev pub node_there : Option Elem → Result PropertyList DataFault
  node_there (Some (elem.Node n)) = Ok []
  node_there _ = Err fault.WrongKind

  -- a node that stands already: one of an incoming column is looked at, one of this clause is sure
  abbrev pub endpoint : Option (List ℕ) → Result PropertyList DataFault
  endpoint None = Ok []
  endpoint (Some x) = if is_column incoming x then element_in g (datum_of_name (row_scope incoming row) x) >>= node_there else Ok []

  -- the properties that a spot gives
  abbrev pub spot_values : ColumnList → ColumnKind → Fill → Result PropertyList DataFault
  spot_values columns kind.Node f = if refers columns f.variable then endpoint f.variable else map_values (items_in f.map)
  spot_values columns _ f = map_values (items_in f.map)

  -- those of each spot, in the order of the text
  abbrev pub spots_values : ColumnList → Spots → Result (List PropertyList) DataFault
  spots_values columns [] = Ok []
  spots_values columns (s ∷ ss) =
      spot_values columns s.0 s.1 >>= λ ps. spots_values (with_variable columns s.0 s.1.variable) ss >>= λ pss. Ok (ps ∷ pss)

-- What is made: the graph and the row so far, the columns of the row, and the properties of the spots that are left.
pub record Making : Type 0 where
  pub graph : PropertyGraph
  pub columns : ColumnList
  pub row : List Datum
  pub values : List PropertyList

-- no element gets the greatest number
abbrev pub is_used_up : ℕ → Bool
is_used_up next = nat_le (pred (2 ^ 32)) next

-- the properties of the next spot
abbrev pub first_values : List PropertyList → PropertyList
first_values [] = []
first_values (ps ∷ pss) = ps

-- the properties of the spots behind it
abbrev pub later_values : List PropertyList → List PropertyList
later_values [] = []
later_values (ps ∷ pss) = pss

-- a new column of the row, where the element has a variable that is no column yet
abbrev pub with_cell : ColumnList → List Datum → Option (List ℕ) → Datum → List Datum
with_cell columns row None d = row
with_cell columns row (Some x) d = if is_column columns x then row else row ++ d ∷ []

-- the number of a node
abbrev pub node_number : Datum → ℕ
node_number (node n) = n
node_number _ = 0

-- the number of the node under a variable
abbrev pub number_under : Making → Option (List ℕ) → ℕ
number_under m None = 0
number_under m (Some x) = node_number (datum_of_name (row_scope m.columns m.row) x)

-- a making whose refusal is that the numbers of a sort are used up
abbrev pub OrFull : Type 0 → Type 0
OrFull A = Result A ElemKind

-- one making after the other, until one is refused
infixl 10 ◌>>>◌
abbrev pub ◌>>>◌ : {A B : Type 0} → OrFull A → (A → OrFull B) → OrFull B
(Ok x) >>> f = f x
(Err e) >>> f = Err e

-- behind a spot, its column, its cell and its properties
abbrev pub past_spot : Making → PropertyGraph → ColumnKind → Option (List ℕ) → Datum → Making
past_spot m g k x d = record {
  graph = g;
  columns = with_variable m.columns k x;
  row = with_cell m.columns m.row x d;
  values = later_values m.values;
}

-- the node of a spot: the next number, its labels as a set, and the properties that the spot gives
abbrev pub new_node : Making → Fill → NodeRecord
new_node m f = record {
  number = record { 0 = m.graph.next_node };
  labels = label_set (labels_given f.labels);
  properties = property_set (first_values m.values);
}

-- a node: one that stands already, or a new one
abbrev pub make_node : Making → Fill → OrFull (Making × ℕ)
make_node m f =
    if refers m.columns f.variable then Ok (past_spot m m.graph kind.Node f.variable null, number_under m f.variable)
    else (if is_used_up m.graph.next_node then Err sort.Node
    else Ok (past_spot m (with_nodes m.graph (m.graph.nodes ++ new_node m f ∷ []) (suc m.graph.next_node)) kind.Node f.variable (node m.graph.next_node), m.graph.next_node))

-- the ends of an edge between the node before it and the one behind it
abbrev pub ends_between : Arrow → ℕ → ℕ → Ends
ends_between arrow.Right a b = Directed (record { 0 = a }) (record { 0 = b })
ends_between arrow.Left a b = Directed (record { 0 = b }) (record { 0 = a })
ends_between arrow.Undirected a b = if nat_le a b then Undirected (record { 0 = a }) (record { 0 = b }) else Undirected (record { 0 = b }) (record { 0 = a })

-- the edge of a spot between these ends
abbrev pub new_edge : Making → Fill → Ends → EdgeRecord
new_edge m f ends = record {
  number = record { 0 = m.graph.next_edge };
  ends = ends;
  labels = label_set (labels_given f.labels);
  properties = property_set (first_values m.values);
}

-- the edge joins the graph once both its nodes are there
abbrev pub with_edge_made : EdgeRecord → Making × ℕ → Making × ℕ
with_edge_made r made = (
  record {
    graph = with_edges made.0.graph (made.0.graph.edges ++ r ∷ []) (suc made.0.graph.next_edge);
    columns = made.0.columns;
    row = made.0.row;
    values = made.0.values;
  },
  made.1,
)

-- an edge takes its number before the node behind it does; a is the node before it
abbrev pub make_step : InsertStep → Making × ℕ → OrFull (Making × ℕ)
make_step s at =
    if is_used_up at.0.graph.next_edge then Err sort.Edge
    else (make_node (past_spot at.0 at.0.graph kind.Edge s.edge.variable (edge at.0.graph.next_edge)) s.node
    >>> λ made. Ok (with_edge_made (new_edge at.0 s.edge (ends_between s.arrow at.1 made.1)) made))

-- the steps of a path, one after the other
abbrev pub make_steps : List InsertStep → Making × ℕ → OrFull (Making × ℕ)
make_steps [] at = Ok at
make_steps (s ∷ ss) at = make_step s at >>> make_steps ss

-- a path: its first node, and then its steps
abbrev pub make_path : Making → InsertPath → OrFull Making
make_path m p = make_node m p.start >>> make_steps p.steps >>> λ at. Ok at.0

-- the paths of a row, in the order of the text
abbrev pub make_paths : List InsertPath → Making → OrFull Making
make_paths [] m = Ok m
make_paths (p ∷ ps) m = make_path m p >>> make_paths ps

-- the rows with what was made for them, and the graph behind them all
abbrev pub make_rows : ColumnList → List InsertPath → PropertyGraph → RowList → List (List PropertyList) → OrFull (PropertyGraph × RowList)
make_rows columns ps g [] values = Ok (g, [])
make_rows columns ps g (row ∷ rows) [] = Ok (g, row ∷ rows)
make_rows columns ps g (row ∷ rows) (vs ∷ vss) =
    make_paths ps (record { graph = g; columns = columns; row = row; values = vs })
    >>> λ m. make_rows columns ps m.graph rows vss >>> λ rest. Ok (rest.0, m.row ∷ rest.1)

-- what is evaluated for all rows
abbrev pub rows_values : PropertyGraph → List (List ℕ × Datum) → ColumnList → List InsertPath → RowList → Result (List (List PropertyList)) DataFault
rows_values g params columns ps rows = each (λ row. spots_values g params columns row columns (insert_spots ps)) rows
