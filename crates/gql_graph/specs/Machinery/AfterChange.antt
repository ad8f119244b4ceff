-- What holds of a graph in memory once a change of it is made.
use Rattle.std.specs.Prelude.{◌≡◌, ℕ, suc, ◌≤◌, Bool, true, false, nat_lt, IsTrue, List, [], ◌∷◌, if◌then◌else◌}
use Rattle.gql_graph.specs.declared.change.Change.{Change}
use Rattle.gql_graph.specs.declared.change.Change.TheVariants as change
use Rattle.gql_graph.specs.Edits.{changed, can_act}
use Rattle.gql_graph.specs.Room.{GraphInMemory, has_room}

-- the graph is the one behind the change, another change leads back, and no room is lost
pub record AfterChange (before : GraphInMemory) (done : Change) (after : GraphInMemory) (undo : Change) : Type 0 where
  pub graph : after.graph ≡ changed done before.graph
  pub undoes : IsTrue (can_act undo after.graph) × (changed undo after.graph ≡ before.graph)
  pub node_room : before.node_room ≤ after.node_room
  pub edge_room : before.edge_room ≤ after.edge_room
  pub held : IsTrue (has_room after before.graph)

-- how many items of an ascending list are below a number: the place of the item that has it, or would
abbrev pub place_of : {X : Type 0} → (X → ℕ) → ℕ → List X → ℕ
place_of key n [] = 0
place_of key n (x ∷ xs) = if nat_lt (key x) n then suc (place_of key n xs) else 0

-- the change adds a node
abbrev pub adds_node : Change → Bool
adds_node (change.NewNode r) = true
adds_node (change.BackNode r) = true
adds_node _ = false

-- the change adds an edge
abbrev pub adds_edge : Change → Bool
adds_edge (change.NewEdge r) = true
adds_edge (change.BackEdge r) = true
adds_edge _ = false
